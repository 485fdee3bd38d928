-- What filling a buffer takes of a source: as many of its next bytes as there is room for.
use Rattle.std.specs.Prelude.{◌≡◌, ℕ, min, List, length, take, drop, Option, Some}

-- The buffer's front has the first bytes that were left, as many as it has room for, and the source has the others.
pub record FilledFrom (left : List ℕ) (after : Option (List ℕ)) (count : ℕ) (buffer : List ℕ) : Type 0 where
  pub count_is : count ≡ min (length left) (length buffer)
  pub front : take count buffer ≡ take count left
  pub rest : after ≡ Some (drop count left)
