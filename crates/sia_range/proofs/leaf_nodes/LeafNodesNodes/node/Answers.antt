use Rattle.std.proofs.Common.{◌≡◌, ◌+◌, ◌*◌, ◌^◌, ◌≤◌, length, map, take, drop, arith, ap, ◌∙◌}
use Rattle.sia_merkle.specs.Roots.{leaf_count, leaf_digest, leaves_of, tree_root}
use Rattle.sia_merkle.proofs.Cuts.{length-leaf_hashes}
use Rattle.sia_merkle.proofs.Trees.{low_level}
use Rattle.sia_range.proofs.leaf_nodes.LeafNodesNodes.node.Goals as goal

pub power-requires : goal.power-requires
power-requires c =
    let within : (c.args.index + 1) * 2 ^ c.args.level ≤ leaf_count (length c.args.self.now.bytes.now) = omega (arith, c.requires, length-leaf_hashes c.args.self.now.bytes.now) in
    low_level c.args.level c.args.index (leaf_count (length c.args.self.now.bytes.now)) within (omega arith)

pub root_of_leaves-requires : goal.root_of_leaves-requires
root_of_leaves-requires c =
    let product : (c.args.index + 1) * 2 ^ c.args.level ≡ c.args.index * 2 ^ c.args.level + 2 ^ c.args.level = omega arith in
    let wide : c.args.index * c.power.result ≡ c.args.index * 2 ^ c.args.level = ap (λ width. c.args.index * width) c.power.ensures in
    omega (arith, c.requires, length-leaf_hashes c.args.self.now.bytes.now)

pub returns : goal.returns
returns c =
    c.root_of_leaves.ensures ∙ ap (λ width. tree_root c.args.level (take (2 ^ c.args.level) (drop (c.args.index * width) (map leaf_digest (leaves_of c.args.self.now.bytes.now))))) c.power.ensures

pub overflow_mul-index : goal.overflow_mul-index
overflow_mul-index c =
    let product : (c.args.index + 1) * 2 ^ c.args.level ≡ c.args.index * 2 ^ c.args.level + 2 ^ c.args.level = omega arith in
    let wide : c.args.index * c.power.result ≡ c.args.index * 2 ^ c.args.level = ap (λ width. c.args.index * width) c.power.ensures in
    omega (arith, c.requires, length-leaf_hashes c.args.self.now.bytes.now)
