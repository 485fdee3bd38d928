use Rattle.std.proofs.Common.{◌≡◌, ◌++◌, ◌≤◌, ℕ, List, length}
use Rattle.std.specs.Io.KnownBytes.{Appends}
use Rattle.sia_edge.proofs.link.write_to_link.Given as goal

abbrev pub invariant-loop-rest : goal.invariant-loop-rest
invariant-loop-rest g l = ((front : List ℕ) × (l.piece ≡ front ++ l.rest) × Appends (g.L.Link.taken l.fn.link) (g.L.Link.taken l.link) front) × (g.L.Link.faults l.fn.link ≤ g.L.Link.faults l.link) × (g.L.Link.left l.link ≡ g.L.Link.left l.fn.link)

abbrev pub decreases-loop-rest : goal.decreases-loop-rest
decreases-loop-rest g l = length l.rest
