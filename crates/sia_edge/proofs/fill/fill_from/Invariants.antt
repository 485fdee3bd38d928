use Rattle.std.proofs.Common.{◌≤◌, ◌-◌, length}
use Rattle.sia_edge.proofs.Fillings.{FilledSoFar}
use Rattle.sia_edge.proofs.fill.fill_from.Given as goal

abbrev pub invariant-loop-filled : goal.invariant-loop-filled
invariant-loop-filled g l =
    record {
      so_far : FilledSoFar (g.S.Source.left l.fn.source) (g.S.Source.left l.source) l.buffer l.filled;
      within : l.filled ≤ length l.buffer;
      later : g.S.Source.faults l.fn.source ≤ g.S.Source.faults l.source;
    }

abbrev pub decreases-loop-filled : goal.decreases-loop-filled
decreases-loop-filled g l = length l.buffer - l.filled
