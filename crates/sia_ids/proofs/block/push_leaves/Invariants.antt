use Rattle.std.proofs.Common.{◌≡◌, ◌++◌, take, map}
use Rattle.sia_merkle.specs.Roots.{leaf_digest}
use Rattle.sia_ids.proofs.block.push_leaves.Given as goal

abbrev pub invariant-loop-item : goal.invariant-loop-item
invariant-loop-item g l = l.stack ≡ l.fn.stack ++ map leaf_digest (map g.T.Item.codec.spelled (take l.item-index l.items))
