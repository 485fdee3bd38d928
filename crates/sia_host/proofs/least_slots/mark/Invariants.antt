use Rattle.std.proofs.Common.{take}
use Rattle.sia_host.specs.Marks.{AreMarked}
use Rattle.sia_host.proofs.least_slots.mark.Given as goal

abbrev pub invariant-loop-place : goal.invariant-loop-place
invariant-loop-place l = AreMarked l.fn.marks l.marks (take l.place-index l.places)
