use Rattle.std.proofs.Common.{◌≡◌, take, drop}
use Rattle.sia_host.proofs.reading.roots_between.Given as goal

abbrev pub invariant-loop-i : goal.invariant-loop-i
invariant-loop-i l = (l.roots ≡ take l.i (drop l.first l.tree.hashes))
