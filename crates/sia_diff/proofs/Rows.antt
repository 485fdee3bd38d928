-- Rows of the definitions, worked out by hand. The hash at place p of five is the one byte p, and a new one is 9.
use Rattle.std.proofs.Common.{◌≡◌, ℕ, true, false, List, [], ◌∷◌, refl}
use Rattle.sia_merkle.specs.Segments.{cover, cover_within, others}
use Rattle.sia_diff.specs.declared.steps.DiffStep.{DiffStep}
use Rattle.sia_diff.specs.declared.steps.DiffStep.TheVariants as step
use Rattle.sia_diff.specs.DiffSteps.{after, count_after, counted_steps, touch_count, is_touched, touched_places, is_fit}
use Rattle.sia_diff.specs.Diffs.{touched_or_new, hashes_at, spread, moved_hashes}

abbrev five : List (List ℕ)
five = (0 ∷ []) ∷ (1 ∷ []) ∷ (2 ∷ []) ∷ (3 ∷ []) ∷ (4 ∷ []) ∷ []

abbrev write : List DiffStep
write = step.Swap 0 2 ∷ step.Trim 1 ∷ step.Append (9 ∷ []) ∷ []

abbrev update : List DiffStep
update = step.Set 1 (9 ∷ []) ∷ []

write_fits : is_fit 5 write ≡ true
unfolding is_fit counted_steps touch_count is_touched touched_places
write_fits = refl

write_touches : touched_places 5 write ≡ 0 ∷ 2 ∷ 4 ∷ []
unfolding touched_places is_touched touch_count counted_steps
write_touches = refl

write_cover : cover (others (touched_or_new 5 write)) 5 ≡ record { level = 0; index = 1 } ∷ record { level = 0; index = 3 } ∷ []
unfolding cover cover_within is_touched touch_count counted_steps
write_cover = refl

write_gives : after five write ≡ (2 ∷ []) ∷ (1 ∷ []) ∷ (0 ∷ []) ∷ (3 ∷ []) ∷ (9 ∷ []) ∷ []
unfolding after
write_gives = refl

-- from the hashes 0, 2 and 4 alone
write_moves : hashes_at (touched_or_new 5 write) (moved_hashes 5 write ((0 ∷ []) ∷ (2 ∷ []) ∷ (4 ∷ []) ∷ [])) (count_after 5 write) ≡ (2 ∷ []) ∷ (0 ∷ []) ∷ (9 ∷ []) ∷ []
unfolding moved_hashes spread after count_after is_touched touch_count counted_steps
write_moves = refl

past_the_end : is_fit 5 (step.Swap 0 5 ∷ []) ≡ false
unfolding is_fit counted_steps touch_count is_touched touched_places
past_the_end = refl

update_fits : is_fit 5 update ≡ true
unfolding is_fit counted_steps touch_count is_touched touched_places
update_fits = refl

update_touches : touched_places 5 update ≡ 1 ∷ []
unfolding touched_places is_touched touch_count counted_steps
update_touches = refl

update_cover : cover (others (touched_or_new 5 update)) 5 ≡ record { level = 0; index = 0 } ∷ record { level = 1; index = 1 } ∷ record { level = 0; index = 4 } ∷ []
unfolding cover cover_within is_touched touch_count counted_steps
update_cover = refl

set_twice : is_fit 5 (step.Set 1 (9 ∷ []) ∷ step.Set 1 (8 ∷ []) ∷ []) ≡ false
unfolding is_fit counted_steps touch_count is_touched touched_places
set_twice = refl

set_then_trimmed : is_fit 5 (step.Set 4 (9 ∷ []) ∷ step.Trim 1 ∷ []) ≡ false
unfolding is_fit counted_steps touch_count is_touched touched_places
set_then_trimmed = refl

set_of_a_new_place : is_fit 5 (step.Append (9 ∷ []) ∷ step.Set 5 (8 ∷ []) ∷ []) ≡ false
unfolding is_fit counted_steps touch_count is_touched touched_places
set_of_a_new_place = refl

too_many_before : is_fit 65537 (step.Trim 1 ∷ []) ≡ false
unfolding is_fit
too_many_before = refl
