-- What the calls of a journal promise over a disk whose crashes are those of POSIX's writes and syncs (sia_edge).
use Rattle.std.specs.Prelude.{◌≡◌, ◌⊎◌, ℕ, ◌+◌, ◌^◌, ◌<◌, ◌≤◌, IsTrue, List, [], ◌∷◌, ◌++◌, length, Bool, true, false, Result, Ok, Err}
use Rattle.sia_encoding.specs.Spelling.{spelled_bytes}
use Rattle.sia_edge.specs.Disk.{Standing, Faulted, Only, images_of}
use Rattle.sia_journal.specs.declared.fault.JournalFault.{JournalFault}
use Rattle.sia_journal.specs.declared.fault.JournalFault.TheVariants as fault
use Rattle.sia_journal.specs.declared.journal.Journal.{Journal}
use Rattle.sia_journal.specs.Listed.{HEADER, IsFew, file_of, at_rest, place_after, listed}

-- The disk of a journal that isn't being written: it reads as a whole file of these records behind the header, and a crash
-- leaves that file.
pub record Holds (header : List ℕ) (records : List (List ℕ)) (disk : Standing) : Type 0 where
  pub sized : length header ≡ HEADER
  pub is : disk.seen ≡ at_rest header records
  pub only : Only (at_rest header records) (images_of disk)

-- what an opening that was done leaves: the disk holds the records that its file listed
pub record HoldsListed (header : List ℕ) (limit : ℕ) (old new : Standing) : Type 0 where
  pub records : List (List ℕ)
  pub lists : listed header limit old.seen ≡ Ok records
  pub holds : Holds header records new

-- the file of a journal to which nothing was ever appended
pub record IsFresh (records : List (List ℕ)) (file : List ℕ) : Type 0 where
  pub none : records ≡ []
  pub few : IsFew file

-- the last gate is closed, and something may stand behind it
pub record IsClosed (header : List ℕ) (limit : ℕ) (records : List (List ℕ)) (file : List ℕ) : Type 0 where
  pub within : length file ≤ limit
  pub behind : List ℕ
  pub is : file ≡ file_of header records (0 ∷ behind)

-- one payload more stands whole behind a gate, which may hold any byte
pub record IsStaged (header : List ℕ) (limit : ℕ) (records : List (List ℕ)) (payload file : List ℕ) : Type 0 where
  pub within : length file ≤ limit
  pub gate : ℕ
  pub is : file ≡ file_of header records (gate ∷ (spelled_bytes payload ++ 0 ∷ []))

-- What a crash may leave while a payload is appended to these records, and what it may leave of such a file while it is
-- opened. It lists these records, or these and the payload.
abbrev pub MidAppend : List ℕ → ℕ → List (List ℕ) → List ℕ → List ℕ → Type 0
MidAppend header limit records payload file =
    IsFresh records file ⊎ (IsClosed header limit records file ⊎ IsStaged header limit records payload file)

-- a file lists these records, or these and one payload more
abbrev pub ListsEither : List ℕ → ℕ → List (List ℕ) → List ℕ → List ℕ → Type 0
ListsEither header limit records payload file = (listed header limit file ≡ Ok records) ⊎ (listed header limit file ≡ Ok (records ++ payload ∷ []))

-- The journal is whole, so that a record may be read or appended: its last gate is its end, within the limit.
pub record IsReady {D : Type 0} (standing : D → Standing) (journal : Journal D) : Type 0 where
  pub begins : HEADER ≤ journal.gate
  pub ends : journal.gate + 1 ≡ length (standing journal.disk).seen
  pub within : journal.gate < journal.limit
  pub bounded : journal.limit ≤ 2 ^ 36

-- how long the file would be with one payload more
abbrev pub need_for : {D : Type 0} → (D → Standing) → Journal D → List ℕ → ℕ
need_for standing journal payload = length (standing journal.disk).seen + 9 + length payload

-- Why an append answers a fault: the disk's count rose, or the file would pass the limit.
abbrev pub AppendCause : Standing → Standing → ℕ → ℕ → JournalFault → Type 0
AppendCause old new need limit fault.Memory = ⊥
AppendCause old new need limit fault.Disk = Faulted old new
AppendCause old new need limit (fault.Damaged place) = ⊥
AppendCause old new need limit (fault.Full more most) = (limit < need) × (more ≡ need) × (most ≡ limit)

-- why a call that only writes answers a fault: the disk's count rose
abbrev pub DiskCause : Standing → Standing → JournalFault → Type 0
DiskCause old new cause = (cause ≡ fault.Disk) × Faulted old new

-- Why reading a record answers a fault: want of memory, or the disk's count rose.
abbrev pub ReadCause : Standing → Standing → JournalFault → Type 0
ReadCause old new fault.Memory = Unit {0}
ReadCause old new fault.Disk = Faulted old new
ReadCause old new (fault.Damaged place) = ⊥
ReadCause old new (fault.Full need limit) = ⊥

-- Why an opening answers a fault: want of memory, the disk's count rose, or the file, where it is told, lists nothing but
-- an error with that place.
abbrev pub OpenCause : Bool → List ℕ → ℕ → Standing → Standing → JournalFault → Type 0
OpenCause tells header limit old new fault.Memory = Unit {0}
OpenCause tells header limit old new fault.Disk = Faulted old new
OpenCause tells header limit old new (fault.Damaged place) = IsTrue tells → listed header limit old.seen ≡ Err place
OpenCause tells header limit old new (fault.Full need most) = ⊥

-- the disk that an opening leaves, in the journal or handed back
abbrev pub disk_of : {D : Type 0} → Result (Journal D) (JournalFault × D) → D
disk_of (Ok journal) = journal.disk
disk_of (Err failed) = failed.1

-- What reading at the place behind the records that were read answers, onto what `before` was: the first of those left behind
-- it, with the place behind the record, or false where none is left.
abbrev pub NextIs : List (List ℕ) → List (List ℕ) → List ℕ → ℕ → List ℕ → Bool → Type 0
NextIs read [] before place out answer = answer ≡ false
NextIs read (payload ∷ others) before place out answer = (answer ≡ true) × (out ≡ before ++ payload) × (place ≡ place_after (read ++ payload ∷ []))

-- the place moves on by a record, and the elements grow by its payload
abbrev pub MovesOn : ℕ → ℕ → ℕ → ℕ → Type 0
MovesOn place next held more = (size : ℕ) × (next ≡ place + 9 + size) × (more ≡ held + size)
