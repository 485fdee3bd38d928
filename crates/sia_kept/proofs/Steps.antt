-- How many roots there are, step by step.
use Rattle.std.proofs.Common.{◌≡◌, ℕ, ◌+◌, ◌<◌, ◌≤◌, List, [], ◌∷◌, length, drop, get_or, refl, ap, arith, length-drop}
use Rattle.std.proofs.lemmas.List.{drop_more}
use Rattle.sia_diff.specs.declared.steps.DiffStep.{DiffStep}
use Rattle.sia_diff.specs.DiffSteps.{count_after, count_after_step}

-- the steps that are left, after one more
pub count_next : (count : ℕ) (steps : List DiffStep) (i : ℕ) (d : DiffStep) → i < length steps → count_after count (drop i steps) ≡ count_after (count_after_step count (get_or steps i d)) (drop (i + 1) steps)
unfolding count_after
count_next count steps i d within = ap (count_after count) (drop_more steps i d within)

none_left : (count : ℕ) (steps : List DiffStep) → length steps ≡ 0 → count_after count steps ≡ count
unfolding count_after
none_left count [] none = refl
none_left count (one ∷ steps) none = absurd (let some : 0 < length (one ∷ steps) = omega arith in omega arith)

-- none is left
pub count_done : (count : ℕ) (steps : List DiffStep) (i : ℕ) → length steps ≤ i → count_after count (drop i steps) ≡ count
count_done count steps i past = none_left count (drop i steps) (omega (arith, length-drop i steps))
