use Rattle.std.proofs.Common.{◌≡◌, ◌++◌, ◌+◌, ◌-◌, ◌≤◌, length, take, drop}
use Rattle.sia_shelf.specs.Shelf.{free_from}
use Rattle.sia_shelf.proofs.marks.first_free.Given as goal

abbrev pub invariant-loop-at : goal.invariant-loop-at
invariant-loop-at l =
    (length l.slots ≤ l.more)
    × (l.slots ++ take (l.more - length l.slots) (free_from (l.first + l.at) (drop l.at l.marks)) ≡ take l.more (free_from l.first l.marks))
