use Rattle.std.proofs.Common.{take}
use Rattle.sia_book.specs.Opening.{IsLeastMissing}
use Rattle.sia_book.proofs.slots.least_missing.Given as goal

abbrev pub invariant-loop-slot : goal.invariant-loop-slot
invariant-loop-slot l = IsLeastMissing l.sector l.slots l.end (take l.slot-index l.live) l.least
