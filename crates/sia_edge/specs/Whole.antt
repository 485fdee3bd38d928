-- Reading to the end within a bound, and writing a whole piece.
use Rattle.std.specs.Prelude.{◌≡◌, ◌++◌, ℕ, ◌<◌, ◌≤◌, List, length, Option}
use Rattle.std.specs.Io.KnownBytes.{Appends}
use Rattle.sia_edge.specs.declared.all.Ending.{Ending}
use Rattle.sia_edge.specs.declared.all.Ending.TheVariants as ending

-- `new` is `old` and then a front part of `left`
abbrev pub GrowsByFront : List ℕ → List ℕ → List ℕ → Type 0
GrowsByFront old new left = (front : List ℕ) × (rest : List ℕ) × (left ≡ front ++ rest) × (new ≡ old ++ front)

-- What reading to a bound leaves in `out`, where `left` is what the source had left: Whole appends all of it, which is
-- within the bound. Long says that there is more than the bound. Failed and Memory say nothing of how much there is.
-- Unless it is Whole, `out` has grown by a front part of what was left.
abbrev pub EndsAs : Ending → ℕ → List ℕ → List ℕ → List ℕ → Type 0
EndsAs ending.Whole bound old new left = (new ≡ old ++ left) × (length left ≤ bound)
EndsAs ending.Long bound old new left = GrowsByFront old new left × (bound < length left)
EndsAs ending.Failed bound old new left = GrowsByFront old new left
EndsAs ending.Memory bound old new left = GrowsByFront old new left

-- a front part of the piece was appended
abbrev pub AppendsSomeOf : Option (List ℕ) → Option (List ℕ) → List ℕ → Type 0
AppendsSomeOf old new piece = (front : List ℕ) × (rest : List ℕ) × (piece ≡ front ++ rest) × Appends old new front
