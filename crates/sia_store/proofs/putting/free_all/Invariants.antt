use Rattle.std.proofs.Common.{◌≡◌, ◌≤◌, ◌<◌, ℕ, length, take}
use Rattle.std.specs.Prelude.{slice_index_or}
use Rattle.std.specs.List.{Contains}
use Rattle.sia_shelf.specs.Shelf.{mark_of}
use Rattle.sia_shelf.specs.declared.mark.Mark.TheVariants as mark
use Rattle.sia_store.proofs.putting.free_all.Given as goal

abbrev pub invariant-loop-slot : goal.invariant-loop-slot
invariant-loop-slot g l = record {
  disk : l.shelf.disk ≡ l.fn.shelf.disk;
  sector : l.shelf.sector ≡ l.fn.shelf.sector;
  count : length l.shelf.marks ≡ length l.fn.shelf.marks;
  freed : (k : ℕ) → k < l.slot-index → k < length l.slots → mark_of l.shelf.marks (slice_index_or l.slots k 0) ≡ mark.Free;
  live : (k : ℕ) → l.slot-index ≤ k → k < length l.slots → mark_of l.shelf.marks (slice_index_or l.slots k 0) ≡ mark.Live;
  others : (slot : ℕ) → (Contains l.slots slot → ⊥) → mark_of l.shelf.marks slot ≡ mark_of l.fn.shelf.marks slot;
}
