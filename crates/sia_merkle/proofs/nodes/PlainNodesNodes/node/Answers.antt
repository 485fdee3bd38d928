use Rattle.std.proofs.Common.{◌∙◌}
use Rattle.sia_merkle.proofs.Trees.{segment_root-is}
use Rattle.sia_merkle.proofs.nodes.PlainNodesNodes.node.Goals as goal

pub returns : goal.returns
returns c = c.node_root.ensures ∙ segment_root-is c.args.self.now.hashes.now c.segment.result.now c.args.level c.args.index c.segment.ensures
