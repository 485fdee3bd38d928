-- The element with the least identifier of those that fit, as a walk from the last one to the first finds it. Nothing of Sia stands
-- here.
use Rattle.std.specs.Prelude.{ℕ, Bool, List, [], ◌∷◌, if◌then◌else◌, Option, Some, None}
use Rattle.std.specs.Ordering.{nat_cmp, is_le}
use Rattle.std.specs.Cmp.Lexicographic.{slice_cmp}

-- an identifier isn't above another
abbrev pub is_up_to : List ℕ → List ℕ → Bool
is_up_to id other = is_le (slice_cmp nat_cmp id other)

-- the lesser of an element and one that may be found; the first of equal ones
abbrev pub lesser : {X : Type 0} → (X → List ℕ) → X → Option X → Option X
lesser id x None = Some x
lesser id x (Some other) = if is_up_to (id x) (id other) then Some x else Some other

-- the least of an element that may fit and of what is found behind it
abbrev pub least_with : {X : Type 0} → (X → List ℕ) → (X → Bool) → X → Option X → Option X
least_with id fits x found = if fits x then lesser id x found else found

-- the least that fits
unfoldable pub least_by : {X : Type 0} → (X → List ℕ) → (X → Bool) → List X → Option X
least_by id fits [] = None
least_by id fits (x ∷ xs) = least_with id fits x (least_by id fits xs)
