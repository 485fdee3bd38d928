-- The first of several faults: rules are tried in order, entries by their index. Nothing of Sia stands here: it is how our
-- contracts say which of several answers comes.
use Rattle.std.specs.Prelude.{ℕ, ◌+◌, Bool, List, [], ◌∷◌, Option, Some, None, if◌then◌else◌}
use Rattle.std.specs.Option.{option_or}

-- the fault where a rule is broken
abbrev pub broken : {F : Type 0} → Bool → F → Option F
broken test fault = if test then Some fault else None

-- the first fault, or else the second one
infixr 10 ◌or_else◌
abbrev pub ◌or_else◌ : {F : Type 0} → Option F → Option F → Option F
first or_else second = option_or first second

-- the fault of the first entry that has one; the first entry has this index
abbrev pub first_at : {X F : Type 0} → (ℕ → X → Option F) → ℕ → List X → Option F
first_at fault index [] = None
first_at fault index (x ∷ xs) = fault index x or_else first_at fault (index + 1) xs
