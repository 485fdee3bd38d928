-- The slots so far are live, and keep the bytes; the others are free.
use Rattle.std.proofs.Common.{◌≡◌, ◌<◌, ◌≤◌, ℕ, IsTrue, length}
use Rattle.sia_edge.specs.Disk.{EachImage}
use Rattle.sia_shelf.specs.Slots.{Has}
use Rattle.sia_shelf.specs.Shelf.{mark_of}
use Rattle.sia_shelf.specs.declared.mark.Mark.TheVariants as mark
use Rattle.sia_bench.proofs.sectors.put_each.Given as goal

abbrev pub invariant-loop-slot : goal.invariant-loop-slot
invariant-loop-slot g l =
    (l.shelf.sector ≡ l.fn.shelf.sector) × (length l.shelf.marks ≡ l.slots)
    × ((slot : ℕ) → slot < l.slot → mark_of l.shelf.marks slot ≡ mark.Live)
    × ((slot : ℕ) → l.slot ≤ slot → mark_of l.shelf.marks slot ≡ mark.Free)
    × (IsTrue g.D.Disk.tells → (slot : ℕ) → slot < l.slot
    → Has l.fn.shelf.sector slot l.bytes (g.D.Disk.standing l.shelf.disk).seen
    × EachImage (Has l.fn.shelf.sector slot l.bytes) (g.D.Disk.standing l.shelf.disk))
