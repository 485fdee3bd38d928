-- A disk: what a read gives, and what a crash may leave. A crash leaves an image, the bytes that stand on the disk after
-- it. Between two syncs each written range, what lies past the old end up to the end of a write, and what lies behind a
-- cut, may hold any bytes in an image, and the end may lie anywhere between the least and the greatest that was in force.
-- Other bytes stay. After a sync that was done the only image is what a read gives.
use Rattle.std.specs.Prelude.{◌≡◌, ◌⊎◌, ◌++◌, ℕ, ◌+◌, ◌<◌, ◌≤◌, min, max, List, length, take, drop}
use Rattle.sia_edge.specs.Edge.{Rose}
use Rattle.sia_edge.specs.declared.traits.Got.{Got}
use Rattle.sia_edge.specs.declared.traits.Got.TheVariants as got
use Rattle.sia_edge.specs.declared.disk.Did.{Did}
use Rattle.sia_edge.specs.declared.disk.Did.TheVariants as did

-- A write of n bytes at a place that a crash cuts short: any bytes in the range, and in the gap before it where the image
-- ends below the place; the same elsewhere. Nothing done and all done are among its outcomes.
pub record Torn (at n : ℕ) (old new : List ℕ) : Type 0 where
  pub before : take (min at (length old)) new ≡ take at old
  pub after : drop (at + n) new ≡ drop (at + n) old
  pub no_shorter : length old ≤ length new
  pub no_longer : length new ≤ max (length old) (at + n)

-- A cut to n bytes that a crash cuts short: the end lies between, the first n bytes stay, and behind them may stand any
-- bytes, since the file system may have freed their blocks already.
pub record Shortened (n : ℕ) (old new : List ℕ) : Type 0 where
  pub no_shorter : min n (length old) ≤ length new
  pub no_longer : length new ≤ length old
  pub front : take (min n (length old)) new ≡ take n old

-- bytes with others at a place, which may reach past the end
abbrev pub overwritten : List ℕ → ℕ → List ℕ → List ℕ
overwritten old at bytes = take at old ++ bytes ++ drop (at + length bytes) old

-- Bytes(n): at least one, within the room and the end. End: exactly at the end.
abbrev pub GivesWithin : Got → ℕ → ℕ → ℕ → Type 0
GivesWithin (got.Bytes n) room at end = (0 < n) × (n ≤ room) × (at + n ≤ end)
GivesWithin got.End room at end = at ≡ end
GivesWithin got.Failed room at end = Unit {0}

-- Bytes(n): the first n bytes at the place
abbrev pub Gives : Got → List ℕ → ℕ → List ℕ → Type 0
Gives (got.Bytes n) buffer at seen = take n buffer ≡ take n (drop at seen)
Gives got.End buffer at seen = Unit {0}
Gives got.Failed buffer at seen = Unit {0}

-- the length after a write that reaches to `end`
abbrev pub Lengthens : Did → ℕ → ℕ → ℕ → Type 0
Lengthens did.Done end old new = new ≡ max old end
Lengthens did.Failed end old new = (old ≤ new) × (new ≤ max old end)

-- what a read gives after a write; a failed one may have done any part of it
abbrev pub Overwrites : Did → ℕ → List ℕ → List ℕ → List ℕ → Type 0
Overwrites did.Done at bytes old new = new ≡ overwritten old at bytes
Overwrites did.Failed at bytes old new = Torn at (length bytes) old new

-- what a read gives after a cut; a failed one may have done any part of it
abbrev pub Cuts : Did → ℕ → List ℕ → List ℕ → Type 0
Cuts did.Done n old new = new ≡ take n old
Cuts did.Failed n old new = Shortened n old new

-- these bytes are the only image
abbrev pub Only : List ℕ → (List ℕ → Type 0) → Type 0
Only bytes images = (image : List ℕ) → images image → image ≡ bytes

-- How a disk stands: what a read gives, how far its clock has come, the images that a crash at a moment or later may have
-- left, and how often a call has failed. What may have been left since a moment may have been left since an earlier one.
pub record Standing : Type 1 where
  pub seen : List ℕ
  pub moment : ℕ
  pub since : ℕ → List ℕ → Type 0
  pub faults : ℕ
  pub earlier : (t u : ℕ) (image : List ℕ) → t ≤ u → u ≤ moment → since u image → since t image

-- the images that a crash may leave now
abbrev pub images_of : Standing → List ℕ → Type 0
images_of disk = disk.since disk.moment

-- the images that a crash may have left since the disk stood as it did before
abbrev pub images_since : Standing → Standing → List ℕ → Type 0
images_since old new = new.since old.moment

-- each image that a crash may leave now has P
abbrev pub EachImage : (List ℕ → Type 0) → Standing → Type 0
EachImage P disk = (image : List ℕ) → images_of disk image → P image

-- nothing is pending: a crash leaves what a read gives
abbrev pub IsSettled : Standing → Type 0
IsSettled disk = Only disk.seen (images_of disk)

-- a sync that was done leaves one image
abbrev pub Settles : Did → Standing → Type 0
Settles did.Done disk = IsSettled disk
Settles did.Failed disk = Unit {0}

-- The count of faults rose.
abbrev pub Faulted : Standing → Standing → Type 0
Faulted old new = Rose old.faults new.faults

-- Time passes over a disk in a call: what a crash may have left since an earlier moment is what it may have left until the
-- call, and what it may have left since the call began. The count of faults doesn't fall.
pub record TimePasses (old new : Standing) : Type 0 where
  pub later : old.moment ≤ new.moment
  pub none_else : (t : ℕ) (image : List ℕ) → t ≤ old.moment → new.since t image → old.since t image ⊎ images_since old new image
  pub keeps : (t : ℕ) (image : List ℕ) → t ≤ old.moment → old.since t image → new.since t image
  pub counted : old.faults ≤ new.faults

-- What a call, or a run of calls, leaves: time passes, and each image since it began has P.
pub record Leaves (P : List ℕ → Type 0) (old new : Standing) : Type 0 where
  pub time : TimePasses old new
  pub images : (image : List ℕ) → images_since old new image → P image

-- an image after a change
abbrev pub Changed : (List ℕ → List ℕ → Type 0) → (List ℕ → Type 0) → List ℕ → Type 0
Changed step images new = (old : List ℕ) × images old × step old new

-- a call makes a change: each image since it began is one from before with the change
abbrev pub Changes : (List ℕ → List ℕ → Type 0) → Standing → Standing → Type 0
Changes step old new = Leaves (Changed step (images_of old)) old new

-- a call that changes nothing: a read gives the same, and there is no image that wasn't there before
pub record Quiet (old new : Standing) : Type 0 where
  pub same : new.seen ≡ old.seen
  pub leaves : Leaves (images_of old) old new

-- a read that was done filled the buffer with the bytes at the place
abbrev pub Fills : Did → List ℕ → ℕ → List ℕ → Type 0
Fills did.Done buffer at seen = buffer ≡ take (length buffer) (drop at seen)
Fills did.Failed buffer at seen = Unit {0}
