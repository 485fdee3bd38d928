-- A host on its disks: the host before its first record (siad's modules/host; its address is that of its one key), what stays the same when
-- records are replayed, and why an opening is refused.
use Rattle.std.specs.Prelude.{◌≡◌, ◌⊎◌, ℕ, ◌*◌, ◌^◌, ◌-◌, min, IsTrue, Bool, true, false, List, [], ◌∷◌, ◌++◌, length, codes, Option, Some, Result, Ok, Err}
use Rattle.std.specs.List.{All}
use Rattle.sia_edge.specs.Disk.{Standing, Faulted, IsSettled, Quiet}
use Rattle.sia_edge.specs.declared.file_disk.Disks.{Disks}
use Rattle.sia_encoding.specs.Spelling.{label}
use Rattle.sia_types.specs.declared.settings.Settings.{Settings}
use Rattle.sia_forms.specs.Parties.{own_address}
use Rattle.sia_config.specs.declared.config.HostConfig.{HostConfig}
use Rattle.sia_journal.specs.declared.journal.Journal.{Journal}
use Rattle.sia_shelf.specs.Shelf.{ShelfState}
use Rattle.sia_journal.specs.Listed.{listed}
use Rattle.sia_journal.specs.Journal.{Holds, IsReady}
use Rattle.sia_journal.specs.declared.fault.JournalFault.{JournalFault}
use Rattle.sia_journal.specs.declared.fault.JournalFault.TheVariants as journal_fault
use Rattle.sia_kept.specs.State.{first_state, live_slots}
use Rattle.sia_host.specs.Answered.{Host}
use Rattle.sia_host.specs.Spoiling.{is_spoiled}
use Rattle.sia_host.specs.declared.phase.Phase.TheVariants as phase
use Rattle.sia_book.specs.declared.book.Book.{Book}
use Rattle.sia_book.specs.declared.fault.OpenFault.{OpenFault}
use Rattle.sia_book.specs.declared.fault.OpenFault.TheVariants as open_fault
use Rattle.sia_book.specs.Opening.{BreaksOff, IsLeastMissing, MarksLive, Replayed, is_missing}
use Rattle.sia_book.specs.declared.replaying.ReplayFault.{ReplayFault}
use Rattle.sia_book.specs.declared.replaying.ReplayFault.TheVariants as fault

-- all that doesn't come from records is the same: the settings, the margin, the seed and the events
pub record SameRun (old new : Host) : Type 0 where
  pub settings : new.settings ≡ old.settings
  pub margin : new.margin ≡ old.margin
  pub seed : new.seed ≡ old.seed
  pub events : new.events ≡ old.events

-- what a fault of reading a record is to whoever replays it
abbrev pub replay_fault : JournalFault → ReplayFault
replay_fault journal_fault.Memory = fault.Memory
replay_fault journal_fault.Disk = fault.Disk
replay_fault (journal_fault.Damaged place) = fault.Unfit place
replay_fault (journal_fault.Full need limit) = fault.Unfit limit

-- why records aren't replayed: want of memory, or the count of the disk's faults rose; of a record that doesn't follow another clause speaks
abbrev pub ReplayCause : Standing → Standing → ReplayFault → Type 0
ReplayCause old new fault.Memory = Unit {0}
ReplayCause old new fault.Disk = Faulted old new
ReplayCause old new (fault.Unfit at) = Unit {0}

-- the header of a host's journal
abbrev pub JOURNAL_HEADER : List ℕ
JOURNAL_HEADER = label (codes "sia journal v1")

-- the settings of a host with this key, to which it is paid
abbrev pub hosted : Settings → List ℕ → Settings
hosted settings key = record settings { host_key = key; address = own_address key }

-- a host before its first record
abbrev pub first_host : HostConfig → List ℕ → List ℕ → Host
first_host config key seed = record { settings = hosted config.settings key; margin = config.margin; seed = seed; state = first_state config.params; events = []; phase = phase.Settled }

-- the records that a journal's file lists make a host of the first one
pub record MakesHost (accepts : List ℕ → List ℕ → List ℕ → Bool) (first : Host) (limit : ℕ) (old new : Standing) (after : Host) : Type 0 where
  pub records : List (List ℕ)
  pub lists : listed JOURNAL_HEADER limit old.seen ≡ Ok records
  pub holds : Holds JOURNAL_HEADER records new
  pub made : Replayed accepts first records after

-- A book that was opened: the journal holds the records that it listed, and the host is what these make; each slot that they name is whole
-- on the shelf and live, and all others are free.
pub record IsOpened {D : Type 0} (standing : D → Standing) (tells : Bool) (accepts : List ℕ → List ℕ → List ℕ → Bool) (config : HostConfig) (first : Host) (disks : Disks D) (book : Book D) : Type 0 where
  pub ready : IsReady standing book.journal
  pub limit : book.journal.limit ≡ config.journal_limit
  pub sector : book.shelf.sector ≡ first.settings.sector
  pub run : SameRun first book.core
  pub settled : is_spoiled book.core.phase ≡ false
  pub marks : MarksLive (live_slots book.core.state) config.slots book.shelf.marks
  pub whole : All (λ (slot : ℕ). is_missing first.settings.sector config.slots (length (standing book.shelf.disk).seen) slot ≡ false) (live_slots book.core.state)
  pub made : IsTrue tells → MakesHost accepts first config.journal_limit (standing disks.journal) (standing book.journal.disk) book.core
  pub shelf : Quiet (standing disks.shelf) (standing book.shelf.disk)
  pub stable : IsSettled (standing book.shelf.disk)

-- a payload of the journal that isn't replayed, or a file that lists none, breaks off there
abbrev pub Breaks : (List ℕ → List ℕ → List ℕ → Bool) → Host → ℕ → Result (List (List ℕ)) ℕ → ℕ → Type 0
Breaks accepts first limit (Err place) at = place ≡ at
Breaks accepts first limit (Ok records) at = BreaksOff accepts first records at

-- a slot that the records name isn't whole on the shelf: the least such one begins there, as far as a number of 64 bits goes
pub record LacksSlot (accepts : List ℕ → List ℕ → List ℕ → Bool) (first : Host) (config : HostConfig) (file : List ℕ) (end at : ℕ) : Type 0 where
  pub records : List (List ℕ)
  pub lists : listed JOURNAL_HEADER config.journal_limit file ≡ Ok records
  pub after : Host
  pub made : Replayed accepts first records after
  pub slot : ℕ
  pub least : IsLeastMissing first.settings.sector config.slots end (live_slots after.state) (Some slot)
  pub begins : at ≡ min (slot * first.settings.sector) (2 ^ 64 - 1)

-- Why an opening is refused: want of memory; the count of faults of a disk rose; or what the disks hold, where it is told.
abbrev pub OpeningCause : Bool → (List ℕ → List ℕ → List ℕ → Bool) → Host → HostConfig → Standing → Standing → Standing → Standing → OpenFault → Type 0
OpeningCause tells accepts first config old_journal new_journal old_shelf new_shelf open_fault.Memory = Unit {0}
OpeningCause tells accepts first config old_journal new_journal old_shelf new_shelf open_fault.Disk = Faulted old_journal new_journal ⊎ Faulted old_shelf new_shelf
OpeningCause tells accepts first config old_journal new_journal old_shelf new_shelf (open_fault.Damaged at false) =
    IsTrue tells → Breaks accepts first config.journal_limit (listed JOURNAL_HEADER config.journal_limit old_journal.seen) at
OpeningCause tells accepts first config old_journal new_journal old_shelf new_shelf (open_fault.Damaged at true) =
    IsTrue tells → LacksSlot accepts first config old_journal.seen (length old_shelf.seen) at

-- the journal's disk that an opening leaves, in the book or handed back
abbrev pub journal_after : {D : Type 0} → Result (Book D) (OpenFault × Disks D) → D
journal_after (Ok book) = book.journal.disk
journal_after (Err refused) = refused.1.journal

-- the shelf's disk that it leaves
abbrev pub shelf_after : {D : Type 0} → Result (Book D) (OpenFault × Disks D) → D
shelf_after (Ok book) = book.shelf.disk
shelf_after (Err refused) = refused.1.shelf

-- what taking the records in leaves, where it is done: the host is what they make of it, and each slot that they name is whole and live
pub record TakesIn {D : Type 0} (standing : D → Standing) (tells : Bool) (accepts : List ℕ → List ℕ → List ℕ → Bool) (sector slots : ℕ) (old new : Book D) : Type 0 where
  pub ready : IsReady standing new.journal
  pub limit : new.journal.limit ≡ old.journal.limit
  pub size : new.shelf.sector ≡ old.shelf.sector
  pub run : SameRun old.core new.core
  pub settled : is_spoiled new.core.phase ≡ false
  pub marks : MarksLive (live_slots new.core.state) slots new.shelf.marks
  pub whole : All (λ (slot : ℕ). is_missing sector slots (length (standing new.shelf.disk).seen) slot ≡ false) (live_slots new.core.state)
  pub made : IsTrue tells → (header : List ℕ) (records : List (List ℕ)) → Holds header records (standing old.journal.disk) → Replayed accepts old.core records new.core

-- a slot that the records name isn't whole on the shelf
pub record FindsMissing (accepts : List ℕ → List ℕ → List ℕ → Bool) (sector slots end : ℕ) (first after : Host) (records : List (List ℕ)) (at : ℕ) : Type 0 where
  pub made : Replayed accepts first records after
  pub slot : ℕ
  pub least : IsLeastMissing sector slots end (live_slots after.state) (Some slot)
  pub begins : at ≡ min (slot * sector) (2 ^ 64 - 1)

-- why records aren't taken in
abbrev pub TakingCause : {D : Type 0} → (D → Standing) → Bool → (List ℕ → List ℕ → List ℕ → Bool) → ℕ → ℕ → Book D → Book D → OpenFault → Type 0
TakingCause standing tells accepts sector slots old new open_fault.Memory = Unit {0}
TakingCause standing tells accepts sector slots old new open_fault.Disk = Faulted (standing old.journal.disk) (standing new.journal.disk)
TakingCause standing tells accepts sector slots old new (open_fault.Damaged at false) =
    IsTrue tells → (header : List ℕ) (records : List (List ℕ)) → Holds header records (standing old.journal.disk) → BreaksOff accepts old.core records at
TakingCause standing tells accepts sector slots old new (open_fault.Damaged at true) =
    IsTrue tells → (header : List ℕ) (records : List (List ℕ)) → Holds header records (standing old.journal.disk)
    → FindsMissing accepts sector slots (length (standing old.shelf.disk).seen) old.core new.core records at

-- the disk that a journal's opening leaves, in the journal or handed back
abbrev pub opened_disk : {D : Type 0} → Result (Journal D) (OpenFault × D) → D
opened_disk (Ok journal) = journal.disk
opened_disk (Err refused) = refused.1

-- why a journal isn't opened
abbrev pub JournalCause : Bool → ℕ → Standing → Standing → OpenFault → Type 0
JournalCause tells limit old new open_fault.Memory = Unit {0}
JournalCause tells limit old new open_fault.Disk = Faulted old new
JournalCause tells limit old new (open_fault.Damaged at false) = IsTrue tells → listed JOURNAL_HEADER limit old.seen ≡ Err at
JournalCause tells limit old new (open_fault.Damaged at true) = ⊥

-- why a shelf isn't opened
abbrev pub ShelfCause : Standing → Standing → OpenFault → Type 0
ShelfCause old new open_fault.Memory = Unit {0}
ShelfCause old new open_fault.Disk = Faulted old new
ShelfCause old new (open_fault.Damaged at shelf) = ⊥

-- why slots aren't marked
abbrev pub MissingCause : ℕ → ℕ → ℕ → List ℕ → OpenFault → Type 0
MissingCause sector slots end live open_fault.Memory = Unit {0}
MissingCause sector slots end live open_fault.Disk = ⊥
MissingCause sector slots end live (open_fault.Damaged at false) = ⊥
MissingCause sector slots end live (open_fault.Damaged at true) = (slot : ℕ) × IsLeastMissing sector slots end live (Some slot) × (at ≡ min (slot * sector) (2 ^ 64 - 1))

-- what a fault of a journal's opening is to whoever opens a book; it is never full
abbrev pub open_fault_of : JournalFault → OpenFault
open_fault_of journal_fault.Memory = open_fault.Memory
open_fault_of journal_fault.Disk = open_fault.Disk
open_fault_of (journal_fault.Damaged at) = open_fault.Damaged at false
open_fault_of (journal_fault.Full need limit) = open_fault.Disk

-- the renter's disk that it leaves
abbrev pub renter_after : {D : Type 0} → Result (Book D) (OpenFault × Disks D) → D
renter_after (Ok book) = book.renter
renter_after (Err refused) = refused.1.renter

-- why a book over open disks isn't begun
abbrev pub BeginningCause : {D : Type 0} → (D → Standing) → Bool → (List ℕ → List ℕ → List ℕ → Bool) → ℕ → ℕ → Host → Journal D → ShelfState D → Disks D → OpenFault → Type 0
BeginningCause standing tells accepts sector slots first journal shelf disks open_fault.Memory = Unit {0}
BeginningCause standing tells accepts sector slots first journal shelf disks open_fault.Disk = Faulted (standing journal.disk) (standing disks.journal)
BeginningCause standing tells accepts sector slots first journal shelf disks (open_fault.Damaged at false) =
    IsTrue tells → (header : List ℕ) (records : List (List ℕ)) → Holds header records (standing journal.disk) → BreaksOff accepts first records at
BeginningCause standing tells accepts sector slots first journal shelf disks (open_fault.Damaged at true) =
    IsTrue tells → (header : List ℕ) (records : List (List ℕ)) → Holds header records (standing journal.disk)
    → (after : Host) × FindsMissing accepts sector slots (length (standing shelf.disk).seen) first after records at
