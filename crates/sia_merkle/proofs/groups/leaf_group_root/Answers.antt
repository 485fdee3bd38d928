use Rattle.std.proofs.Common.{◌∙◌, map, arith}
use Rattle.sia_merkle.specs.Roots.{leaf_digest, leaves_of}
use Rattle.sia_merkle.proofs.Fours.{halves_of_leaves, root_from_up}
use Rattle.sia_merkle.proofs.groups.leaf_group_root.Goals as goal

pub returns : goal.returns
returns c =
    let left = halves_of_leaves 2 4 1024 c.split_at.result.0.now c.split_at-2.result.0.now c.split_at-2.result.1.now c.over_sixteen_leaves-a.result c.over_sixteen_leaves-b.result
    (omega arith) (omega arith) c.split_at-2.ensures.front c.split_at-2.ensures.back c.over_sixteen_leaves-a.ensures c.over_sixteen_leaves-b.ensures in
    let right = halves_of_leaves 2 4 1024 c.split_at.result.1.now c.split_at-3.result.0.now c.split_at-3.result.1.now c.over_sixteen_leaves-c.result c.over_sixteen_leaves-d.result
    (omega arith) (omega arith) c.split_at-3.ensures.front c.split_at-3.ensures.back c.over_sixteen_leaves-c.ensures c.over_sixteen_leaves-d.ensures in
    c.over_four.ensures
    ∙ root_from_up 2 (map leaf_digest (leaves_of c.args.bytes.now)) _ c.over_quarters.result
    (halves_of_leaves 2 8 2048 c.args.bytes.now c.split_at.result.0.now c.split_at.result.1.now _ _ (omega arith) (omega arith) c.split_at.ensures.front c.split_at.ensures.back left right)
    c.over_quarters.ensures
