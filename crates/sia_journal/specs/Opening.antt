-- What an opening of a journal finds and repairs, in the form of this product's own file (Listed.antt).
use Rattle.std.specs.Prelude.{◌≡◌, ◌≢◌, ◌⊎◌, ℕ, ◌+◌, ◌<◌, ◌≤◌, Bool, IsTrue, List, [], ◌∷◌, ◌++◌, length, take, drop, Option, None, Some}
use Rattle.sia_encoding.specs.Spelling.{spelled_bytes}
use Rattle.sia_edge.specs.Disk.{Standing, Faulted, images_of}
use Rattle.sia_journal.specs.declared.fault.JournalFault.{JournalFault}
use Rattle.sia_journal.specs.declared.fault.JournalFault.TheVariants as fault
use Rattle.sia_journal.specs.declared.scan.Last.{Last}
use Rattle.sia_journal.specs.Listed.{HEADER, FRESH, IsFew, frames, place_after, split_payload}

-- Behind the open gate at a place stands a whole payload up to the next place, or none does.
abbrev pub FrameEnds : List ℕ → ℕ → Option ℕ → Type 0
FrameEnds file place None = split_payload (drop (place + 1) file) ≡ None
FrameEnds file place (Some next) =
    (payload : List ℕ) × (drop (place + 1) file ≡ spelled_bytes payload ++ drop next file) × (next ≡ place + 9 + length payload)

-- no gate, or an open one with no whole frame behind it
abbrev pub IsBroken : List ℕ → Type 0
IsBroken bytes = (bytes ≡ []) ⊎ ((behind : List ℕ) × (bytes ≡ 1 ∷ behind) × (split_payload behind ≡ None))

-- The first gate that isn't open is this one.
pub record IsLast (file : List ℕ) (last : Last) : Type 0 where
  pub records : List (List ℕ)
  pub behind : List ℕ
  pub is : drop HEADER file ≡ frames records ++ last.gate ∷ behind
  pub stands : last.place ≡ place_after records
  pub shut : last.gate ≢ 1

-- the gates break off at this place
pub record BreaksAt (file : List ℕ) (place : ℕ) : Type 0 where
  pub records : List (List ℕ)
  pub behind : List ℕ
  pub is : drop HEADER file ≡ frames records ++ behind
  pub stands : place ≡ place_after records
  pub broken : IsBroken behind

-- The file begins with the header, and its first gate that isn't open is this one.
pub record IsFound (header file : List ℕ) (last : Last) : Type 0 where
  pub begins : take HEADER file ≡ header
  pub ends : IsLast file last

-- why a walk along the gates answers a fault
abbrev pub WalkCause : Bool → Standing → Standing → JournalFault → Type 0
WalkCause tells old new fault.Memory = ⊥
WalkCause tells old new fault.Disk = Faulted old new
WalkCause tells old new (fault.Damaged place) = IsTrue tells → BreaksAt old.seen place
WalkCause tells old new (fault.Full need limit) = ⊥

-- What may be left of a file while its end behind `front` is repaired, where a gate and other bytes stand: the gate torn, or
-- the gate closed and any bytes behind it, no more than there were.
abbrev pub IsRepaired : List ℕ → ℕ → List ℕ → List ℕ → Type 0
IsRepaired front gate behind file =
    ((byte : ℕ) × (gate ≢ 0) × (file ≡ front ++ byte ∷ behind))
    ⊎ ((rest : List ℕ) × (length rest ≤ length behind) × (file ≡ front ++ 0 ∷ rest))

-- a file that is being repaired at its end, whose last gate was found
pub record IsMended (header : List ℕ) (limit : ℕ) (old file : List ℕ) : Type 0 where
  pub last : Last
  pub found : IsFound header old last
  pub long : FRESH < length old
  pub within : length old ≤ limit
  pub repaired : IsRepaired (header ++ frames found.ends.records) last.gate found.ends.behind file

-- What an opening may leave of a disk: an image that was there, few bytes where a read gave few, or a repair of the end.
abbrev pub IsReopened : List ℕ → ℕ → Standing → List ℕ → Type 0
IsReopened header limit old file = images_of old file ⊎ ((IsFew old.seen × IsFew file) ⊎ IsMended header limit old.seen file)
