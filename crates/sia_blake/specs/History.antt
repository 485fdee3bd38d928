-- The bytes that a hasher was given, as its snapshots show them. No public clause speaks of it.
use Rattle.std.specs.Prelude.{ℕ, List, [], ◌∷◌, ◌++◌}
use Rattle.sia_blake.specs.declared.absorbed.Absorbed.{Absorbed, Nothing, Then', Same'}

-- the bytes of the snapshots, the first one first
abbrev pub absorbed_bytes : Absorbed → List ℕ
absorbed_bytes Nothing = []
absorbed_bytes (Then' marker before byte) = absorbed_bytes before ++ byte.value ∷ []
absorbed_bytes (Same' marker other) = absorbed_bytes other
