-- A disk in memory. It keeps its writes, cuts and syncs as a list of events, and tells as its images all that the model of a
-- disk allows after them: so what holds of each image of this disk holds of each image that a crash may leave.
use Rattle.std.specs.Prelude.{◌≡◌, ◌⊎◌, ◌++◌, ℕ, ◌≤◌, List, [], ◌∷◌, length, take}
use Rattle.std.proofs.Common.{refl, inl, inr, arith}
use Rattle.sia_edge.specs.Event.{Event}
use Rattle.sia_edge.specs.Event as event
use Rattle.sia_edge.specs.declared.fault_plan.FaultPlan.{FaultPlan}
use Rattle.sia_edge.specs.declared.disk.Did.{Did}
use Rattle.sia_edge.specs.declared.disk.Did.TheVariants as did
use Rattle.sia_edge.specs.Memory.{one_more}
use Rattle.sia_edge.specs.Disk.{Standing, Torn, Shortened, overwritten}

-- a disk in memory, as contracts see it
pub record DiskState : Type 0 where
  -- what a read gives
  pub bytes : List ℕ
  -- what it held when it was made, and what it was told to do since
  pub start : List ℕ
  pub events : List Event
  pub plan : FaultPlan

-- the images after an event, by those before it
abbrev pub After : Event → (List ℕ → Type 0) → List ℕ → Type 0
After (event.Wrote at n) before image = (old : List ℕ) × before old × Torn at n old image
After (event.Cut n) before image = (old : List ℕ) × before old × Shortened n old image
After (event.Synced bytes) before image = image ≡ bytes

-- the images after a list of events
abbrev pub Images : (List ℕ → Type 0) → List Event → List ℕ → Type 0
Images before [] image = before image
Images before (first ∷ later) image = Images (After first before) later image

-- the images of a disk that was made with these bytes, after its events
abbrev pub ImagesOf : List ℕ → List Event → List ℕ → Type 0
ImagesOf start events = Images (λ image. image ≡ start) events

-- A moment is a number of events. Since a moment there were the images after so many events or more.
abbrev pub Had : List ℕ → List Event → ℕ → List ℕ → Type 0
Had start events moment image = (count : ℕ) × (moment ≤ count) × (count ≤ length events) × ImagesOf start (take count events) image

-- What a read gives is one of the images after all events (`ReadIsImage`), so naming it beside them adds none.
abbrev pub since_of : DiskState → ℕ → List ℕ → Type 0
since_of disk moment image = Had disk.start disk.events moment image ⊎ ((moment ≤ length disk.events) × (image ≡ disk.bytes))

-- the clock counts events
abbrev pub moment_of : DiskState → ℕ
moment_of disk = length disk.events

-- the bytes are one of the images after all events
abbrev pub ReadIsImage : List ℕ → List Event → List ℕ → Type 0
ReadIsImage start events bytes = ImagesOf start events bytes

-- a call more was made, and a fault more where it failed
abbrev pub plan_after : FaultPlan → Did → FaultPlan
plan_after plan did.Done = record { fails = plan.fails; calls = one_more plan.calls; faults = plan.faults }
plan_after plan did.Failed = record { fails = plan.fails; calls = one_more plan.calls; faults = one_more plan.faults }

-- a disk in memory makes a write whole or not at all in what it reads
abbrev pub OverwritesOrKeeps : Did → ℕ → List ℕ → List ℕ → List ℕ → Type 0
OverwritesOrKeeps did.Done at bytes old new = new ≡ overwritten old at bytes
OverwritesOrKeeps did.Failed at bytes old new = new ≡ old

-- and so it does a cut
abbrev pub CutsOrKeeps : Did → ℕ → List ℕ → List ℕ → Type 0
CutsOrKeeps did.Done n old new = new ≡ take n old
CutsOrKeeps did.Failed n old new = new ≡ old

-- a sync that was done was kept as an event, and one that failed wasn't
abbrev pub KeepsSync : Did → List ℕ → List Event → List Event → Type 0
KeepsSync did.Done bytes old new = new ≡ old ++ event.Synced bytes ∷ []
KeepsSync did.Failed bytes old new = new ≡ old

-- what there was since a moment there was since an earlier one
pub since_earlier : (disk : DiskState) (moment later : ℕ) (image : List ℕ) → moment ≤ later → later ≤ moment_of disk
    → since_of disk later image → since_of disk moment image
since_earlier disk moment later image before within left = elim left [
  | inl had ↦ inl (had.0, omega (arith, had.1), had.2, had.3)
  | inr now ↦ inr (omega arith, now.1)
]

-- how a disk in memory stands
abbrev pub standing_of : DiskState → Standing
standing_of disk = record { seen = disk.bytes; moment = moment_of disk; since = since_of disk; faults = disk.plan.faults; earlier = since_earlier disk }

-- a disk as it reads is one of its images
pub read_is_image : (disk : DiskState) → since_of disk (moment_of disk) disk.bytes
read_is_image disk = inr (omega arith, refl)
