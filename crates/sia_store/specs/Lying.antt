-- What lies in the slots of a shelf (siad's storage folders), and what a put of some sectors does to it.
use Rattle.std.specs.Prelude.{◌≡◌, ◌==◌, ◌<◌, ℕ, List, map, find, length, slice_index_or}
use Rattle.std.specs.List.{Contains}
use Rattle.std.specs.Option.{option_map_or}
use Rattle.sia_shelf.specs.Slots.{Has}
use Rattle.sia_shelf.specs.Shelf.{mark_of, settled}
use Rattle.sia_shelf.specs.declared.mark.Mark.{Mark}
use Rattle.sia_shelf.specs.declared.mark.Mark.TheVariants as mark
use Rattle.sia_commands.specs.declared.step.PutJob.{PutJob}

-- the slots into which sectors are put, in order
abbrev pub put_slots : List PutJob → List ℕ
put_slots puts = map (λ (put : PutJob). put.slot) puts

-- What lies in each slot once sectors were put: the sector that was put into it, or what lay there.
abbrev pub lying_over : (ℕ → List ℕ) → List PutJob → ℕ → List ℕ
lying_over lay puts slot = option_map_or (λ (put : PutJob). put.bytes) (find (λ (put : PutJob). put.slot == slot) puts) (lay slot)

-- in an image each of these slots holds what is said to lie in it
abbrev pub HoldsAll : ℕ → (ℕ → List ℕ) → List ℕ → List ℕ → Type 0
HoldsAll sector lies slots image = (slot : ℕ) → Contains slots slot → Has sector slot (lies slot) image

-- what any slot but these held, it holds still
abbrev pub KeepsBut : ℕ → List ℕ → List ℕ → List ℕ → Type 0
KeepsBut sector slots old new = (other : ℕ) (bytes : List ℕ) → (Contains slots other → ⊥) → Has sector other bytes old → Has sector other bytes new

-- each of these slots is live
abbrev pub AreLive : List Mark → List ℕ → Type 0
AreLive marks slots = (slot : ℕ) → Contains slots slot → mark_of marks slot ≡ mark.Live

-- The marks after sectors were put and brought onto their disk: their slots are live, and all others are as a sync leaves them.
pub record MarksPut (slots : List ℕ) (old new : List Mark) : Type 0 where
  pub count : length new ≡ length old
  pub put : AreLive new slots
  pub others : (slot : ℕ) → (Contains slots slot → ⊥) → mark_of new slot ≡ settled (mark_of old slot)

-- The marks after live slots were freed: they are free, and all others are as they were.
pub record MarksFreed (slots : List ℕ) (old new : List Mark) : Type 0 where
  pub count : length new ≡ length old
  pub freed : (slot : ℕ) → Contains slots slot → mark_of new slot ≡ mark.Free
  pub others : (slot : ℕ) → (Contains slots slot → ⊥) → mark_of new slot ≡ mark_of old slot

-- no slot stands in a list twice
abbrev pub NamedOnce : List ℕ → Type 0
NamedOnce slots = (i j d : ℕ) → i < j → j < length slots → (slice_index_or slots i d ≡ slice_index_or slots j d) → ⊥
