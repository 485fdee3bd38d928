-- What a crash leaves of two disks, in the model of POSIX's writes and syncs: a journal's file, whose records name slots, and an image of
-- a shelf, whose slots hold sectors.
use Rattle.std.specs.Prelude.{◌≡◌, ◌⊎◌, ℕ, List, Ok}
use Rattle.std.specs.List.{Contains}
use Rattle.sia_edge.specs.Disk.{Standing, Faulted, images_of, images_since, EachImage}
use Rattle.sia_journal.specs.Listed.{listed}
use Rattle.sia_journal.specs.Journal.{Holds}
use Rattle.sia_store.specs.declared.fault.StoreFault.{StoreFault}
use Rattle.sia_store.specs.declared.fault.StoreFault.TheVariants as fault
use Rattle.sia_store.specs.Lying.{HoldsAll}

-- A file of a journal and an image of a shelf open as these records and slots: the file lists the records, and each of the slots holds
-- what is said to lie in it.
pub record OpensWith (header : List ℕ) (limit sector : ℕ) (lies : ℕ → List ℕ) (records : List (List ℕ)) (slots file image : List ℕ) : Type 0 where
  pub lists : listed header limit file ≡ Ok records
  pub holds : HoldsAll sector lies slots image

-- Two lists of records, and the slots that each names.
pub record Either : Type 0 where
  pub old : List (List ℕ)
  pub old_slots : List ℕ
  pub new : List (List ℕ)
  pub new_slots : List ℕ

-- they open as the one list or as the other
abbrev pub OpensAsEither : List ℕ → ℕ → ℕ → (ℕ → List ℕ) → Either → List ℕ → List ℕ → Type 0
OpensAsEither header limit sector lies both file image =
    OpensWith header limit sector lies both.old both.old_slots file image ⊎ OpensWith header limit sector lies both.new both.new_slots file image

-- each file of the one disk has P with each image of the other
abbrev pub EachPair : (List ℕ → List ℕ → Type 0) → (List ℕ → Type 0) → (List ℕ → Type 0) → Type 0
EachPair P files images = (file image : List ℕ) → files file → images image → P file image

-- What a crash in an act may leave of both disks has P. The clocks of the disks aren't compared, so the pairs are these: the
-- journal as it was when the act began, with the shelf at any moment since; and the journal at any moment since the act
-- began, with the shelf as the act leaves it.
pub record LeavesPairs (P : List ℕ → List ℕ → Type 0) (old_journal new_journal old_shelf new_shelf : Standing) : Type 0 where
  pub first : EachPair P (images_of old_journal) (images_since old_shelf new_shelf)
  pub second : EachPair P (images_since old_journal new_journal) (images_of new_shelf)

-- The two disks stand for these records: the journal holds them, and each slot that they name holds what lies in it in each image of the
-- shelf.
pub record Stands (header : List ℕ) (sector : ℕ) (lies : ℕ → List ℕ) (records : List (List ℕ)) (slots : List ℕ) (journal shelf : Standing) : Type 0 where
  pub holds : Holds header records journal
  pub has : EachImage (HoldsAll sector lies slots) shelf

-- the slots that a longer list names are those of the shorter one and those that are put
abbrev pub AreFrom : List ℕ → List ℕ → List ℕ → Type 0
AreFrom old put new = (slot : ℕ) → Contains new slot → Contains old slot ⊎ Contains put slot

-- Why a record wasn't kept: the count of faults of the disk that is named rose.
abbrev pub StoreCause : Standing → Standing → Standing → Standing → StoreFault → Type 0
StoreCause old_journal new_journal old_shelf new_shelf fault.Journal = Faulted old_journal new_journal
StoreCause old_journal new_journal old_shelf new_shelf fault.Shelf = Faulted old_shelf new_shelf
