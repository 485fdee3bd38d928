use Rattle.std.proofs.Common.{sym, ◌∙◌}
use Rattle.sia_merkle.proofs.Cuts.{length-leaf_hashes}
use Rattle.sia_range.proofs.leaf_nodes.LeafNodesRow.len.Goals as goal

pub returns : goal.returns
returns c = c.leaves.ensures ∙ sym (length-leaf_hashes c.args.self.now.bytes.now)
