use Rattle.std.proofs.Common.{◌≡◌, ◌++◌, map, take, drop}
use Rattle.sia_shelf.specs.Shelf.{settled}
use Rattle.sia_shelf.proofs.marks.settle.Given as goal

abbrev pub invariant-loop-mark : goal.invariant-loop-mark
invariant-loop-mark l = l.marks ≡ map settled (take l.mark-index l.fn.marks) ++ drop l.mark-index l.fn.marks
