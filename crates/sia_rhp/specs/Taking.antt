-- What reading a frame takes of a link.
use Rattle.std.specs.Prelude.{◌≡◌, ℕ, ◌+◌, ◌-◌, ◌≤◌, ◌++◌, List, [], length, drop, Option, Some, None, Result, Ok, Err}
use Rattle.sia_rhp.specs.declared.frames.FrameFault.{FrameFault}
use Rattle.sia_rhp.specs.declared.frames.FrameFault.TheVariants as fault
use Rattle.sia_rhp.specs.Frames.{Reader}

-- some first bytes were taken, and the others are left
abbrev pub LosesSome : List ℕ → Option (List ℕ) → Type 0
LosesSome bytes left = (front : List ℕ) × (rest : List ℕ) × (bytes ≡ front ++ rest) × (left ≡ Some rest)

-- What was read is what stands in front, and exactly its bytes were taken. At a length above the limit that length alone was
-- taken, at an end inside a frame all, and at too long a stream all that may be taken. Where the link or memory failed, nothing is
-- said of the bytes.
abbrev pub TakesOff : {A : Type 0} → (A → ℕ) → ℕ → Result (Option A) FrameFault → Result (Option A) FrameFault → List ℕ → Option (List ℕ) → Type 0
TakesOff size room (Ok None) reading bytes left = (reading ≡ Ok None) × (left ≡ Some bytes)
TakesOff size room (Ok (Some x)) reading bytes left = (reading ≡ Ok (Some x)) × (left ≡ Some (drop (size x) bytes))
TakesOff size room (Err (fault.TooLong n)) reading bytes left = (reading ≡ Err (fault.TooLong n)) × (left ≡ Some (drop 8 bytes))
TakesOff size room (Err fault.Short) reading bytes left = (reading ≡ Err fault.Short) × (left ≡ Some [])
TakesOff size room (Err fault.Long) reading bytes left = (reading ≡ Err fault.Long) × (left ≡ Some (drop room bytes))
TakesOff size room (Err fault.Link) reading bytes left = LosesSome bytes left
TakesOff size room (Err fault.Memory) reading bytes left = LosesSome bytes left

-- A reader may take fewer bytes by the frame that it gave. A fault is kept.
abbrev pub Moves : Reader → Reader → Result (Option (List ℕ)) FrameFault → Type 0
Moves old new (Ok None) = new ≡ old
Moves old new (Ok (Some body)) = (new ≡ record { limit = old.limit; room = old.room - (8 + length body); fault = None }) × (8 + length body ≤ old.room)
Moves old new (Err e) = new ≡ record { limit = old.limit; room = old.room; fault = Some e }
