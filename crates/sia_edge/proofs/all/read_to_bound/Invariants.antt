use Rattle.std.proofs.Common.{◌≤◌}
use Rattle.sia_edge.proofs.Progress.{ReadSoFar}
use Rattle.sia_edge.proofs.all.read_to_bound.Given as goal

abbrev pub invariant-loop : goal.invariant-loop
invariant-loop g l =
    ReadSoFar (g.S.Source.left l.fn.source) (g.S.Source.left l.source) l.fn.out l.out l.total
    × (l.total ≤ l.bound)
    × (l.counter ≤ l.total)
    × (g.S.Source.faults l.fn.source ≤ g.S.Source.faults l.source)
