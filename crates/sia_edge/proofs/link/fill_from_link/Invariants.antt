use Rattle.std.proofs.Common.{◌≡◌, ◌≤◌, ◌-◌, length}
use Rattle.sia_edge.proofs.Fillings.{FilledSoFar}
use Rattle.sia_edge.proofs.link.fill_from_link.Given as goal

abbrev pub invariant-loop-filled : goal.invariant-loop-filled
invariant-loop-filled g l =
    record {
      so_far : FilledSoFar (g.L.Link.left l.fn.link) (g.L.Link.left l.link) l.buffer l.filled;
      within : l.filled ≤ length l.buffer;
      apart : g.L.Link.taken l.link ≡ g.L.Link.taken l.fn.link;
      later : g.L.Link.faults l.fn.link ≤ g.L.Link.faults l.link;
    }

abbrev pub decreases-loop-filled : goal.decreases-loop-filled
decreases-loop-filled g l = length l.buffer - l.filled
