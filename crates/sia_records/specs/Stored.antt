-- The sectors of a contract as a host keeps them, and what changes do to them (RHP2's write actions).
use Rattle.std.specs.Prelude.{ℕ, ◌-◌, Bool, true, false, if◌then◌else◌, List, [], ◌∷◌, ◌++◌, length, take, drop, slice_set, slice_index_or}
use Rattle.sia_diff.specs.declared.steps.DiffStep.{DiffStep}
use Rattle.sia_diff.specs.declared.steps.DiffStep.TheVariants as step
use Rattle.sia_records.specs.declared.change.Change.{Change}
use Rattle.sia_records.specs.declared.change.Change.TheVariants as changes

-- a sector: its root, and the slot in which its bytes lie
pub record Stored : Type 0 where
  pub root : List ℕ
  pub slot : ℕ

-- no sector
abbrev pub no_sector : Stored
no_sector = record { root = []; slot = 0 }

-- the sectors after one change: one more behind the last, fewer at the end, two in each other's place, another at a place
abbrev pub stored_after_one : List Stored → Change → List Stored
stored_after_one sectors (changes.Append root slot) = sectors ++ record { root = root; slot = slot } ∷ []
stored_after_one sectors (changes.Trim fewer) = take (length sectors - fewer) sectors
stored_after_one sectors (changes.Swap one other) = slice_set (slice_set sectors one (slice_index_or sectors other no_sector)) other (slice_index_or sectors one no_sector)
stored_after_one sectors (changes.Set place root slot) = slice_set sectors place (record { root = root; slot = slot })

-- the sectors after all changes, done in order
unfoldable pub stored_after : List Stored → List Change → List Stored
stored_after sectors [] = sectors
stored_after sectors (one ∷ others) = stored_after (stored_after_one sectors one) others

-- the step that a change is for the list of the roots
abbrev pub step_of : Change → DiffStep
step_of (changes.Append root slot) = step.Append root
step_of (changes.Trim fewer) = step.Trim fewer
step_of (changes.Swap one other) = step.Swap one other
step_of (changes.Set place root slot) = step.Set place root

-- whether a step brings a new sector
abbrev pub brings_sector : DiffStep → Bool
brings_sector (step.Append root) = true
brings_sector (step.Set place root) = true
brings_sector _ = false

-- the change that a step is, where a new sector lies in the first of these slots
abbrev pub change_by : DiffStep → List ℕ → Change
change_by (step.Append root) slots = changes.Append root (slice_index_or slots 0 0)
change_by (step.Trim fewer) slots = changes.Trim fewer
change_by (step.Swap one other) slots = changes.Swap one other
change_by (step.Set place root) slots = changes.Set place root (slice_index_or slots 0 0)

-- the slots that are left behind it
abbrev pub slots_behind : DiffStep → List ℕ → List ℕ
slots_behind one slots = if brings_sector one then drop 1 slots else slots

-- the changes that steps are, where each new sector lies in the next of these slots
unfoldable pub changes_of : List DiffStep → List ℕ → List Change
changes_of [] slots = []
changes_of (one ∷ others) slots = change_by one slots ∷ changes_of others (slots_behind one slots)
