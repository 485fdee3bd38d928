use Rattle.std.proofs.Common.{◌≡◌, map}
use Rattle.std.specs.List.{range_with_len}
use Rattle.sia_merkle.specs.Roots.{leaf_at, leaf_digest}
use Rattle.sia_merkle.proofs.whole.root_by_leaf.Given as goal

abbrev pub invariant-loop-place : goal.invariant-loop-place
invariant-loop-place l = l.stack ≡ map leaf_digest (map (leaf_at l.bytes) (range_with_len 0 l.place))
