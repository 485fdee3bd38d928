-- The steps of a diff on a list of hashes, and when they are fit (RHP2: the actions of a write; siad's Merkle diff
-- proofs). Places count from 0.
use Rattle.std.specs.Prelude.{ℕ, ◌+◌, ◌-◌, nat_le, nat_lt, nat_eq, Bool, true, false, ◌&&◌, ◌||◌, List, [], ◌∷◌, ◌++◌, length, take, count_by, slice_set, slice_index_or}
use Rattle.std.specs.List.{range_with_len, list_all, filter}
use Rattle.sia_encoding.specs.declared.limits.TheConstants.{CONTRACT_SECTORS, TOUCHED_PLACES}
use Rattle.sia_diff.specs.declared.steps.DiffStep.{DiffStep}
use Rattle.sia_diff.specs.declared.steps.DiffStep.TheVariants as step

-- the hashes after one step: one more behind the last, fewer at the end, two in each other's place, another at a place
abbrev pub after_step : List (List ℕ) → DiffStep → List (List ℕ)
after_step hashes (step.Append hash) = hashes ++ hash ∷ []
after_step hashes (step.Trim fewer) = take (length hashes - fewer) hashes
after_step hashes (step.Swap i j) = slice_set (slice_set hashes i (slice_index_or hashes j [])) j (slice_index_or hashes i [])
after_step hashes (step.Set i hash) = slice_set hashes i hash

-- the hashes after all steps, done in order
unfoldable pub after : List (List ℕ) → List DiffStep → List (List ℕ)
after hashes [] = hashes
after hashes (one ∷ steps) = after (after_step hashes one) steps

-- how many hashes there are after one step
abbrev pub count_after_step : ℕ → DiffStep → ℕ
count_after_step count (step.Append hash) = count + 1
count_after_step count (step.Trim fewer) = count - fewer
count_after_step count (step.Swap i j) = count
count_after_step count (step.Set i hash) = count

-- and after all of them
unfoldable pub count_after : ℕ → List DiffStep → ℕ
count_after count [] = count
count_after count (one ∷ steps) = count_after (count_after_step count one) steps

-- a step, and how many hashes there are before it
pub record CountedStep : Type 0 where
  pub count : ℕ
  pub step : DiffStep

-- each step with the count before it, where there are so many hashes before the first
unfoldable pub counted_steps : ℕ → List DiffStep → List CountedStep
counted_steps count [] = []
counted_steps count (one ∷ steps) = record { count = count; step = one } ∷ counted_steps (count_after_step count one) steps

-- whether a step names a place, or removes it
abbrev pub step_touches : ℕ → DiffStep → ℕ → Bool
step_touches count (step.Append hash) place = false
step_touches count (step.Trim fewer) place = nat_le (count - fewer) place && nat_lt place count
step_touches count (step.Swap i j) place = nat_eq place i || nat_eq place j
step_touches count (step.Set i hash) place = nat_eq place i

-- how many of the steps name or remove a place
unfoldable pub touch_count : ℕ → List DiffStep → ℕ → ℕ
touch_count count steps place = count_by (λ counted. step_touches counted.count counted.step place) (counted_steps count steps)

-- whether one does
unfoldable pub is_touched : ℕ → List DiffStep → ℕ → Bool
is_touched count steps place = nat_lt 0 (touch_count count steps place)

-- the old places that are touched, in ascending order
unfoldable pub touched_places : ℕ → List DiffStep → List ℕ
touched_places count steps = filter (is_touched count steps) (range_with_len 0 count)

-- whether a step can be done: what it names is there, as is what it removes, and it makes no more than 65,536 hashes
abbrev pub step_fits : ℕ → DiffStep → Bool
step_fits count (step.Append hash) = nat_lt count CONTRACT_SECTORS
step_fits count (step.Trim fewer) = nat_le fewer count
step_fits count (step.Swap i j) = nat_lt i count && nat_lt j count
step_fits count (step.Set i hash) = nat_lt i count

-- whether a step that sets a place sets an old one, which no other step names or removes
abbrev pub is_alone : ℕ → List DiffStep → DiffStep → Bool
is_alone count steps (step.Set i hash) = nat_lt i count && nat_eq (touch_count count steps i) 1
is_alone count steps one = true

-- whether these steps are fit for so many hashes: at most 65,536 of them, at most 1,024 of their places touched
unfoldable pub is_fit : ℕ → List DiffStep → Bool
is_fit count steps =
    nat_le count CONTRACT_SECTORS && list_all (λ counted. step_fits counted.count counted.step) (counted_steps count steps) && list_all (is_alone count steps) steps
    && nat_le (length (touched_places count steps)) TOUCHED_PLACES
