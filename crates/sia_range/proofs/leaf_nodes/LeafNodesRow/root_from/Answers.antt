use Rattle.std.proofs.Common.{arith}
use Rattle.sia_merkle.proofs.Cuts.{length-leaf_hashes}
use Rattle.sia_range.proofs.leaf_nodes.LeafNodesRow.root_from.Goals as goal

pub root_of_leaves-requires : goal.root_of_leaves-requires
root_of_leaves-requires c = omega (arith, c.requires, length-leaf_hashes c.args.self.now.bytes.now)
