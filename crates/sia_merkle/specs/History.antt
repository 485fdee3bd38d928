-- The hashes that a stack was given, as its snapshots show them. No public clause speaks of it.
use Rattle.std.specs.Prelude.{ℕ, List, [], ◌∷◌, ◌++◌}
use Rattle.sia_merkle.specs.declared.pushed.Pushed.{Pushed, Nothing, Then'}

-- the hashes, in the order in which they were pushed
abbrev pub pushed_hashes : Pushed → List (List ℕ)
pushed_hashes Nothing = []
pushed_hashes (Then' marker before hash) = pushed_hashes before ++ hash.value ∷ []
