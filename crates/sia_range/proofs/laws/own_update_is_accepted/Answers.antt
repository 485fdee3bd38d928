use Rattle.sia_range.proofs.OwnAccepted.{own_update}
use Rattle.sia_range.proofs.laws.own_update_is_accepted.Goals as goal

pub returns : goal.returns
returns c = own_update
