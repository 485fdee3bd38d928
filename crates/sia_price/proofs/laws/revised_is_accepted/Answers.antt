use Rattle.sia_price.proofs.Paying.{accepted}
use Rattle.sia_price.proofs.laws.revised_is_accepted.Goals as goal

pub returns : goal.returns
returns c = accepted
