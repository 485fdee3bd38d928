-- How often places were touched, as it is counted: up to two. No public clause speaks of it.
use Rattle.std.specs.Prelude.{ℕ, ◌+◌, ◌<◌, ◌≡◌, nat_lt, nat_eq, min, Bool, true, ◌&&◌, cond, List, length, slice_index_or}
use Rattle.sia_diff.specs.declared.steps.DiffStep.{DiffStep}
use Rattle.sia_diff.specs.declared.steps.DiffStep.TheVariants as step
use Rattle.sia_diff.specs.DiffSteps.{touch_count}

-- each place that passes the test is counted once more
abbrev pub AreCounted : (ℕ → Bool) → List ℕ → List ℕ → Type 0
AreCounted test before now = (place : ℕ) → place < length before → slice_index_or now place 0 ≡ min 2 (slice_index_or before place 0 + cond (test place) 1 0)

-- no count is above two
abbrev pub AreCounts : List ℕ → Type 0
AreCounts counts = (place : ℕ) → place < length counts → slice_index_or counts place 0 < 3

-- whether what a step sets was counted once
abbrev pub is_counted_once : List ℕ → DiffStep → Bool
is_counted_once counts (step.Set i hash) = nat_lt i (length counts) && nat_eq (slice_index_or counts i 0) 1
is_counted_once counts one = true

-- whether a place was counted
abbrev pub is_counted : List ℕ → ℕ → Bool
is_counted counts place = nat_lt 0 (slice_index_or counts place 0)

-- how often each of so many places is touched by the steps, up to two
abbrev pub HasCounts : List ℕ → ℕ → List DiffStep → Type 0
HasCounts counts count steps = (length counts ≡ count) × ((place : ℕ) → place < count → slice_index_or counts place 0 ≡ min 2 (touch_count count steps place))
