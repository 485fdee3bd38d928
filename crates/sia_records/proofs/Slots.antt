-- The changes that steps are, step by step.
use Rattle.std.proofs.Common.{◌≡◌, ℕ, ◌+◌, ◌<◌, ◌≤◌, List, [], ◌∷◌, ◌++◌, length, get_or, map, drop, refl, sym, ◌∙◌, append_assoc, append-nil, add-one, drop-cons}
use Rattle.std.proofs.Math.ListN.{drop_of_length-le}
use Rattle.sia_diff.specs.declared.steps.DiffStep.{DiffStep}
use Rattle.sia_diff.specs.declared.steps.DiffStep.TheVariants as step
use Rattle.sia_records.specs.declared.change.Change.{Change}
use Rattle.sia_records.specs.Stored.{change_by, changes_of, slots_behind, step_of}

-- one step more
pub next_change : (steps : List DiffStep) (i : ℕ) (d : DiffStep) (slots rest : List ℕ) (made : List Change) → i < length steps → changes_of steps slots ≡ made ++ changes_of (drop i steps) rest → changes_of steps slots ≡ (made ++ change_by (get_or steps i d) rest ∷ []) ++ changes_of (drop (i + 1) steps) (slots_behind (get_or steps i d) rest)
unfolding changes_of
next_change steps i d slots rest made within so_far =
    let left : drop i steps ≡ get_or steps i d ∷ drop (i + 1) steps = let front = drop-cons steps i d within in let next = add-one i in cc in
    so_far ∙ (rw left (sym (append_assoc made (change_by (get_or steps i d) rest ∷ []) (changes_of (drop (i + 1) steps) (slots_behind (get_or steps i d) rest)))))

-- behind the last one all are made
pub changes_done : (steps : List DiffStep) (i : ℕ) (slots rest : List ℕ) (made : List Change) → length steps ≤ i → changes_of steps slots ≡ made ++ changes_of (drop i steps) rest → made ≡ changes_of steps slots
unfolding changes_of
changes_done steps i slots rest made ended so_far =
    sym (so_far ∙ (rw (drop_of_length-le steps {i = i} ended, append-nil made) refl))

-- the change that a step is is that step
step_again : (one : DiffStep) (slots : List ℕ) → step_of (change_by one slots) ≡ one
step_again (step.Append root) slots = refl
step_again (step.Trim fewer) slots = refl
step_again (step.Swap one other) slots = refl
step_again (step.Set place root) slots = refl

-- so the changes that steps are are those steps
pub steps_again : (steps : List DiffStep) (slots : List ℕ) → map step_of (changes_of steps slots) ≡ steps
unfolding changes_of
steps_again [] slots = refl
steps_again (one ∷ others) slots = rw (step_again one slots, steps_again others (slots_behind one slots)) refl
