use Rattle.std.proofs.Common.{◌∙◌, ap, arith}
use Rattle.sia_merkle.specs.Levels.{levels_up}
use Rattle.sia_merkle.proofs.Fours.{halves_of_leaves}
use Rattle.sia_merkle.proofs.groups.over_sixteen_leaves.Goals as goal

pub returns : goal.returns
unfolding levels_up
returns c =
    let left = halves_of_leaves 0 4 256 c.split_at.result.0.now c.split_at-2.result.0.now c.split_at-2.result.1.now c.four_leaves-a.result c.four_leaves-b.result
    (omega arith) (omega arith) c.split_at-2.ensures.front c.split_at-2.ensures.back c.four_leaves-a.ensures c.four_leaves-b.ensures in
    let right = halves_of_leaves 0 4 256 c.split_at.result.1.now c.split_at-3.result.0.now c.split_at-3.result.1.now c.four_leaves-c.result c.four_leaves-d.result
    (omega arith) (omega arith) c.split_at-3.ensures.front c.split_at-3.ensures.back c.four_leaves-c.ensures c.four_leaves-d.ensures in
    c.over_quarters.ensures
    ∙ ap (levels_up 2) (halves_of_leaves 0 8 512 c.args.bytes.now c.split_at.result.0.now c.split_at.result.1.now _ _ (omega arith) (omega arith) c.split_at.ensures.front c.split_at.ensures.back left right)
