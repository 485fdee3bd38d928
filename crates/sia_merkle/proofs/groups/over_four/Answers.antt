use Rattle.std.proofs.Common.{◌∙◌, ap₂}
use Rattle.sia_merkle.specs.Roots.{node_digest}
use Rattle.sia_merkle.proofs.Fours.{root_of_four}
use Rattle.sia_merkle.proofs.groups.over_four.Goals as goal

pub returns : goal.returns
returns c = c.node.ensures ∙ ap₂ node_digest c.node-left.ensures c.node-right.ensures ∙ root_of_four c.args.hashes.now c.requires
