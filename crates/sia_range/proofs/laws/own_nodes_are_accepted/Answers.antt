use Rattle.sia_range.proofs.OwnAccepted.{own_nodes}
use Rattle.sia_range.proofs.laws.own_nodes_are_accepted.Goals as goal

pub returns : goal.returns
returns c = own_nodes
