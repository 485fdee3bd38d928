use Rattle.std.proofs.Common.{◌≡◌, ◌+◌, ◌^◌, ◌≤◌, ◌*◌, length, min, arith, refl, ◌∙◌}
use Rattle.sia_merkle.specs.Roots.{leaf_count}
use Rattle.sia_merkle.proofs.Trees.{low_level}
use Rattle.sia_range.proofs.Judging.{part_of_leaves}
use Rattle.sia_range.proofs.leaf_nodes.root_of_leaves.Goals as goal

pub power-width-requires : goal.power-width-requires
power-width-requires c =
    let one : (0 + 1) * 2 ^ c.args.height ≡ 2 ^ c.args.height = omega arith in
    let within : (0 + 1) * 2 ^ c.args.height ≤ leaf_count (length c.args.bytes.now) = omega (arith, c.requires) in
    low_level c.args.height 0 (leaf_count (length c.args.bytes.now)) within (omega arith)

pub returns : goal.returns
returns c =
    let least : c.min-len.result ≡ min (64 * c.power-width.result) (length c.split_at.result.1.now) = omega arith in
    c.root.ensures ∙ part_of_leaves c.args.bytes.now c.split_at.result.1.now _ c.args.height c.args.place c.power-width.result c.min-len.result c.requires c.power-width.ensures c.split_at.ensures.back least refl
