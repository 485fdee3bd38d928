-- What a stack of bytes that come in pieces keeps of them. No public clause speaks of it.
use Rattle.std.specs.Prelude.{ℕ, ◌*◌, ◌≡◌, List, [], ◌∷◌, ◌++◌, length, map}
use Rattle.sia_merkle.specs.declared.noted.Noted.{Noted, Nothing, Then'}
use Rattle.sia_merkle.specs.Levels.{levels_up}
use Rattle.sia_merkle.specs.Roots.{leaf_digest, leaves_of}

-- the bytes that a stack was given, as its snapshots show them
abbrev pub noted_bytes : Noted → List ℕ
noted_bytes Nothing = []
noted_bytes (Then' marker before byte) = noted_bytes before ++ byte.value ∷ []

-- the roots of whole groups of 64 leaves: six levels above the leaves of the bytes
pub record AreGroups (roots : List (List ℕ)) (bytes : List ℕ) : Type 0 where
  pub whole : length bytes ≡ 4096 * length roots
  pub roots_are : roots ≡ levels_up 6 (map leaf_digest (leaves_of bytes))
