-- Marks at places, counted from 0. No public clause speaks of them.
use Rattle.std.specs.Prelude.{◌≡◌, ℕ, ◌<◌, Bool, false, not, ◌||◌, ◌==◌, List, length, slice_index_or}
use Rattle.std.specs.List.{list_any}

-- a place has no mark
abbrev pub is_unmarked : List Bool → ℕ → Bool
is_unmarked marks place = not (slice_index_or marks place false)

-- these places are marked beside those that were, as far as there are marks
abbrev pub AreMarked : List Bool → List Bool → List ℕ → Type 0
AreMarked before after places = (k : ℕ) → k < length before → slice_index_or after k false ≡ (slice_index_or before k false || list_any (λ (place : ℕ). place == k) places)
