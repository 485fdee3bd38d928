-- What calls add to a list that may be told, and what they take off one.
use Rattle.std.specs.Prelude.{◌≡◌, ℕ, List, ◌++◌, Option, Some, None}

-- a list has grown by elements of which this holds
abbrev pub Grows : {X : Type 0} → Option (List X) → Option (List X) → (List X → Type 0) → Type 0
Grows None new P = Unit {0}
Grows (Some old) None P = ⊥
Grows {X} (Some old) (Some new) P = (more : List X) × (new ≡ old ++ more) × P more

-- bytes were read off the front, and the others are left: of the two this holds
abbrev pub Loses : Option (List ℕ) → Option (List ℕ) → (List ℕ → List ℕ → Type 0) → Type 0
Loses None new P = Unit {0}
Loses (Some old) new P = (read : List ℕ) × (rest : List ℕ) × (old ≡ read ++ rest) × (new ≡ Some rest) × P read rest

-- a front part
abbrev pub IsPrefix : List ℕ → List ℕ → Type 0
IsPrefix front whole = (rest : List ℕ) × (whole ≡ front ++ rest)
