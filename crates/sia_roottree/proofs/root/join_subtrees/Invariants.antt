-- What is right of the subtrees of this height is joined.
use Rattle.std.proofs.Common.{◌+◌, ◌*◌, ◌^◌, ◌/◌, ◌≤◌, length, drop}
use Rattle.sia_merkle.specs.Stacked.{IsRest}
use Rattle.sia_roottree.proofs.root.join_subtrees.Given as goal

abbrev pub invariant-loop-level : goal.invariant-loop-level
invariant-loop-level g l = record {
  joined : IsRest l.root l.level (drop (length l.hashes / 2 ^ l.level * 2 ^ l.level) l.hashes);
  steps : l.steps ≤ l.fn.steps + l.level;
}
