-- Changes of a contract's sectors: a number, and the fields of its kind (RHP2's write actions; siad's doc/Encoding.md).
use Rattle.std.specs.Prelude.{ℕ, ◌==◌, List, if◌then◌else◌, Option, Some, None}
use Rattle.sia_encoding.specs.Codec.{Codec}
use Rattle.sia_encoding.specs.Items.{hash, number}
use Rattle.sia_encoding.specs.Records.{◌&◌, named, choice, variant}
use Rattle.sia_records.specs.declared.change.Change.{Change}
use Rattle.sia_records.specs.declared.change.Change.TheVariants as changes

-- the kinds of changes
pub data ChangeKind : Type 0 where
  Append : ChangeKind
  Trim : ChangeKind
  Swap : ChangeKind
  Set : ChangeKind

-- the number of a kind
abbrev pub change_number : ChangeKind → ℕ
change_number Append = 0
change_number Trim = 1
change_number Swap = 2
change_number Set = 3

-- the kind with a number, if there is one
abbrev pub change_kind_with : ℕ → Option ChangeKind
change_kind_with n = if n == 0 then Some Append else if n == 1 then Some Trim else if n == 2 then Some Swap else if n == 3 then Some Set else None

-- the kind of a change
abbrev pub kind_of_change : Change → ChangeKind
kind_of_change (changes.Append root slot) = Append
kind_of_change (changes.Trim count) = Trim
kind_of_change (changes.Swap one other) = Swap
kind_of_change (changes.Set place root slot) = Set

-- the root and the slot of a sector that is appended
abbrev pub append_kept : Change → Option (List ℕ × ℕ)
append_kept (changes.Append root slot) = Some (root, slot)
append_kept _ = None

-- how many sectors are trimmed
abbrev pub trim_kept : Change → Option ℕ
trim_kept (changes.Trim count) = Some count
trim_kept _ = None

-- the places that are swapped
abbrev pub swap_kept : Change → Option (ℕ × ℕ)
swap_kept (changes.Swap one other) = Some (one, other)
swap_kept _ = None

-- the place, and the root and the slot of the sector that is set there
abbrev pub set_kept : Change → Option (ℕ × (List ℕ × ℕ))
set_kept (changes.Set place root slot) = Some (place, (root, slot))
set_kept _ = None

-- what a change of a kind has
abbrev pub change_behind : ChangeKind → Codec Change
change_behind Append = variant (hash & number) (λ p. changes.Append p.0 p.1) append_kept
change_behind Trim = variant number (λ p. changes.Trim p) trim_kept
change_behind Swap = variant (number & number) (λ p. changes.Swap p.0 p.1) swap_kept
change_behind Set = variant (number & hash & number) (λ p. changes.Set p.0 p.1.0 p.1.1) set_kept

-- a change
abbrev pub change : Codec Change
change = choice (named number change_number change_kind_with) kind_of_change change_behind
