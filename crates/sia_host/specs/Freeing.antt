-- What changes do to the slots of a contract's sectors, whatever roots the sectors have: a change drops the sectors that it trims, and
-- the one in whose place it sets another (RHP2's write actions).
use Rattle.std.specs.Prelude.{ℕ, ◌-◌, List, [], ◌∷◌, ◌++◌, length, take, drop, slice_set, slice_index}
use Rattle.sia_records.specs.declared.change.Change.{Change}
use Rattle.sia_records.specs.declared.change.Change.TheVariants as changes

-- the slots after one change
abbrev pub slots_after_one : List ℕ → Change → List ℕ
slots_after_one slots (changes.Append root slot) = slots ++ slot ∷ []
slots_after_one slots (changes.Trim fewer) = take (length slots - fewer) slots
slots_after_one slots (changes.Swap one other) = slice_set (slice_set slots one (slice_index slots other)) other (slice_index slots one)
slots_after_one slots (changes.Set place root slot) = slice_set slots place slot

-- the slots whose sectors one change drops
abbrev pub freed_by : List ℕ → Change → List ℕ
freed_by slots (changes.Trim fewer) = drop (length slots - fewer) slots
freed_by slots (changes.Set place root slot) = slice_index slots place ∷ []
freed_by slots other = []

-- the slots whose sectors changes drop, in order
unfoldable pub freed_in : List ℕ → List Change → List ℕ
freed_in slots [] = []
freed_in slots (one ∷ others) = freed_by slots one ++ freed_in (slots_after_one slots one) others
