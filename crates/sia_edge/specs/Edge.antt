-- What one call does to the bytes that a source has left and to those that a sink took, where they are told,
-- and when it may answer that it failed.
use Rattle.std.specs.Prelude.{◌≡◌, ℕ, ◌+◌, ◌-◌, ◌^◌, ◌<◌, ◌≤◌, min, List, take, Option}
use Rattle.std.specs.Io.KnownBytes.{Keeps, Appends, Consumes, IsAtEnd}
use Rattle.sia_edge.specs.declared.traits.Got.{Got}
use Rattle.sia_edge.specs.declared.traits.Got.TheVariants as got
use Rattle.sia_edge.specs.declared.traits.Put.{Put}
use Rattle.sia_edge.specs.declared.traits.Put.TheVariants as put

-- A count of faults rose. One that stands at the greatest u64 is taken as one that rose.
abbrev pub Rose : ℕ → ℕ → Type 0
Rose before now = min (before + 1) (2 ^ 64 - 1) ≤ now

-- Bytes(n): at least one byte, and no more than there is room for
abbrev pub GotWithin : Got → ℕ → Type 0
GotWithin (got.Bytes n) room = (0 < n) × (n ≤ room)
GotWithin got.End room = Unit {0}
GotWithin got.Failed room = Unit {0}

-- Bytes(n) gives the first n of the bytes left and takes them off. End comes only where none is left.
abbrev pub Reads : Option (List ℕ) → Option (List ℕ) → Got → List ℕ → Type 0
Reads old new (got.Bytes n) buffer = Consumes old new (take n buffer)
Reads old new got.End buffer = Keeps old new × IsAtEnd old
Reads old new got.Failed buffer = Keeps old new

-- The count doesn't fall, and where the read failed it rose.
pub record GotCause (before now : ℕ) (result : Got) : Type 0 where
  pub later : before ≤ now
  pub failed : result ≡ got.Failed → Rose before now

-- Taken(n): at most the whole piece, and some of it unless it is empty
abbrev pub PutWithin : Put → ℕ → Type 0
PutWithin (put.Taken n) size = (n ≤ size) × (0 < size → 0 < n)
PutWithin put.Failed size = Unit {0}

-- Taken(n) appends the first n bytes of the piece, and Failed appends nothing.
abbrev pub Writes : Option (List ℕ) → Option (List ℕ) → Put → List ℕ → Type 0
Writes old new (put.Taken n) piece = Appends old new (take n piece)
Writes old new put.Failed piece = Keeps old new

-- The count doesn't fall, and where the write failed it rose.
pub record PutCause (before now : ℕ) (result : Put) : Type 0 where
  pub later : before ≤ now
  pub failed : result ≡ put.Failed → Rose before now
