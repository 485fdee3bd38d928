-- A shelf as contracts see it: its disk, the size of a sector (siad's is 4 MiB), and a mark for each slot.
use Rattle.std.specs.Prelude.{◌≡◌, ◌≢◌, ℕ, ◌^◌, ◌<◌, ◌≤◌, Bool, true, false, List, length, map, slice_index_or, slice_set}
use Rattle.std.specs.List.{filter, enumerate_from}
use Rattle.sia_edge.specs.Disk.{Standing, Faulted, EachImage, Leaves}
use Rattle.sia_shelf.specs.Slots.{Has, end_of}
use Rattle.sia_shelf.specs.declared.fault.ShelfFault.{ShelfFault}
use Rattle.sia_shelf.specs.declared.fault.ShelfFault.TheVariants as fault
use Rattle.sia_shelf.specs.declared.mark.Mark.{Mark}
use Rattle.sia_shelf.specs.declared.mark.Mark.TheVariants as mark

-- `marks` has one mark for each slot, in order
pub record ShelfState (D : Type 0) : Type 0 where
  pub disk : D
  pub sector : ℕ
  pub marks : List Mark

-- the mark of a slot; that of a free one where there is no such slot
abbrev pub mark_of : List Mark → ℕ → Mark
mark_of marks slot = slice_index_or marks slot mark.Free

-- a shelf whose slot has another mark
abbrev pub with_mark : {D : Type 0} → ShelfState D → ℕ → Mark → ShelfState D
with_mark shelf slot to = record { disk = shelf.disk; sector = shelf.sector; marks = slice_set shelf.marks slot to }

-- whether a mark is that of a free slot
abbrev pub is_free : Mark → Bool
is_free mark.Free = true
is_free mark.Put = false
is_free mark.Live = false

-- the numbers of the free slots, the least first, where the first mark is that of slot `first`
abbrev pub free_from : ℕ → List Mark → List ℕ
free_from first marks = map (λ numbered. numbered.0) (filter (λ numbered. is_free numbered.1) (enumerate_from first marks))

-- the numbers of the free slots, the least first
abbrev pub free_slots : List Mark → List ℕ
free_slots marks = free_from 0 marks

-- a sync makes a slot live that was put
abbrev pub settled : Mark → Mark
settled mark.Free = mark.Free
settled mark.Put = mark.Live
settled mark.Live = mark.Live

-- every lower slot is live or was put since the last sync
abbrev pub LowerTaken : List Mark → ℕ → Type 0
LowerTaken marks slot = (lower : ℕ) → lower < slot → mark_of marks lower ≢ mark.Free

-- The slot is the first one that is free, so that it may be put.
pub record IsFirstFree (marks : List Mark) (slot : ℕ) : Type 0 where
  pub there : slot < length marks
  pub free : mark_of marks slot ≡ mark.Free
  pub lower : LowerTaken marks slot

-- What is true of every shelf: a sector has at most 4 MiB, there are at most 2^20 slots, and each slot that isn't free
-- ends at or before the disk's end.
pub record IsShelf (sector : ℕ) (marks : List Mark) (end : ℕ) : Type 0 where
  pub some : 0 < sector
  pub small : sector ≤ 2 ^ 22
  pub few : length marks ≤ 2 ^ 20
  pub fits : (slot : ℕ) → mark_of marks slot ≢ mark.Free → end_of sector slot ≤ end

-- What a live slot held in each image as the call began, it holds in each image that a crash may have left since.
abbrev pub KeepsLive : {D : Type 0} → (D → Standing) → ShelfState D → ShelfState D → Type 0
KeepsLive standing old new = (slot : ℕ) (bytes : List ℕ) → mark_of old.marks slot ≡ mark.Live
    → EachImage (Has old.sector slot bytes) (standing old.disk)
    → Leaves (Has old.sector slot bytes) (standing old.disk) (standing new.disk)

-- why a call that only writes answers a fault: the disk's count rose
abbrev pub DiskFault : Standing → Standing → ShelfFault → Type 0
DiskFault old new cause = (cause ≡ fault.Disk) × Faulted old new

-- Why a read answers a fault: the disk's count rose, or memory was short, or the disk ends before the slot does.
abbrev pub SlotCause : Standing → Standing → ℕ → ℕ → ShelfFault → Type 0
SlotCause old new sector slot fault.Memory = Unit {0}
SlotCause old new sector slot fault.Disk = Faulted old new
SlotCause old new sector slot fault.Full = ⊥
SlotCause old new sector slot (fault.Short at) = (at ≡ slot) × (length old.seen < end_of sector slot)
