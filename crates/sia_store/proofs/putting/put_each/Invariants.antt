use Rattle.std.proofs.Common.{◌≡◌, ◌-◌, ℕ, length, take, drop, IsTrue}
use Rattle.std.specs.List.{All, Contains}
use Rattle.sia_edge.specs.Disk.{Changes}
use Rattle.sia_shelf.specs.Slots.{Has}
use Rattle.sia_shelf.specs.Shelf.{free_slots, mark_of}
use Rattle.sia_shelf.specs.declared.mark.Mark.TheVariants as mark
use Rattle.sia_commands.specs.declared.step.PutJob.{PutJob}
use Rattle.sia_store.specs.Lying.{KeepsBut, put_slots}
use Rattle.sia_store.proofs.putting.put_each.Given as goal

abbrev pub invariant-loop-put : goal.invariant-loop-put
invariant-loop-put g l = record {
  sector : l.shelf.sector ≡ l.fn.shelf.sector;
  count : length l.shelf.marks ≡ length l.fn.shelf.marks;
  free : free_slots l.shelf.marks ≡ drop l.put-index (free_slots l.fn.shelf.marks);
  marked : All (λ (p : PutJob). mark_of l.shelf.marks p.slot ≡ mark.Put) (take l.put-index l.puts);
  others : (slot : ℕ) → (Contains (put_slots l.puts) slot → ⊥) → mark_of l.shelf.marks slot ≡ mark_of l.fn.shelf.marks slot;
  changes : Changes (KeepsBut l.fn.shelf.sector (put_slots l.puts)) (g.S.Disk.standing l.fn.shelf.disk) (g.S.Disk.standing l.shelf.disk);
  wrote : IsTrue g.S.Disk.tells → All (λ (p : PutJob). Has l.fn.shelf.sector p.slot p.bytes (g.S.Disk.standing l.shelf.disk).seen) (take l.put-index l.puts);
}
