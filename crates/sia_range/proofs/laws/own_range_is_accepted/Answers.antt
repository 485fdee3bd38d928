use Rattle.sia_range.proofs.OwnAccepted.{own_range}
use Rattle.sia_range.proofs.laws.own_range_is_accepted.Goals as goal

pub returns : goal.returns
returns c = own_range
