-- The nodes over the place are made up to this height.
use Rattle.std.proofs.Common.{◌≡◌, ◌+◌, ◌≤◌, length}
use Rattle.sia_roottree.specs.KeptNodes.{AreKeptBeside}
use Rattle.sia_roottree.proofs.raise.raise.Given as goal

abbrev pub invariant-loop-below : goal.invariant-loop-below
invariant-loop-below g l = record {
  same : length l.nodes ≡ length l.hashes;
  kept : AreKeptBeside l.place l.below l.hashes l.nodes;
  steps : l.steps ≤ l.fn.steps + l.below;
}
