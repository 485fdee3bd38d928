-- Lists by ascending identifiers, compared byte by byte.
use Rattle.std.specs.Prelude.{ℕ, List, [], ◌∷◌, if◌then◌else◌}
use Rattle.std.specs.Ordering.{nat_cmp, is_le}
use Rattle.std.specs.Cmp.Lexicographic.{slice_cmp}

-- one element more, before the first whose identifier isn't below its own
abbrev pub put_by : {X : Type 0} → (X → List ℕ) → X → List X → List X
put_by id x [] = x ∷ []
put_by id x (first ∷ rest) = if is_le (slice_cmp nat_cmp (id x) (id first)) then x ∷ first ∷ rest else first ∷ put_by id x rest

-- the elements by ascending identifiers
unfoldable pub ascending_by : {X : Type 0} → (X → List ℕ) → List X → List X
ascending_by id [] = []
ascending_by id (x ∷ xs) = put_by id x (ascending_by id xs)
