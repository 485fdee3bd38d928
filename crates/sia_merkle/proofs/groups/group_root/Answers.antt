use Rattle.std.proofs.Common.{◌∙◌, arith}
use Rattle.sia_merkle.proofs.Fours.{halves_of_hashes, root_from_up}
use Rattle.sia_merkle.proofs.groups.group_root.Goals as goal

pub returns : goal.returns
returns c =
    let left = halves_of_hashes 2 4 16 c.split_at.result.0.now c.split_at-2.result.0.now c.split_at-2.result.1.now c.over_sixteen-a.result c.over_sixteen-b.result
    (omega arith) (omega arith) c.split_at-2.ensures.front c.split_at-2.ensures.back c.over_sixteen-a.ensures c.over_sixteen-b.ensures in
    let right = halves_of_hashes 2 4 16 c.split_at.result.1.now c.split_at-3.result.0.now c.split_at-3.result.1.now c.over_sixteen-c.result c.over_sixteen-d.result
    (omega arith) (omega arith) c.split_at-3.ensures.front c.split_at-3.ensures.back c.over_sixteen-c.ensures c.over_sixteen-d.ensures in
    c.over_four.ensures
    ∙ root_from_up 2 c.args.hashes.now _ c.over_quarters.result
    (halves_of_hashes 2 8 32 c.args.hashes.now c.split_at.result.0.now c.split_at.result.1.now _ _ (omega arith) (omega arith) c.split_at.ensures.front c.split_at.ensures.back left right)
    c.over_quarters.ensures
