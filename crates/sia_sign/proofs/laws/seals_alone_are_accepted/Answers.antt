use Rattle.sia_sign.proofs.Seals.{seal_accepted}
use Rattle.sia_sign.proofs.laws.seals_alone_are_accepted.Goals as goal

pub returns : goal.returns
returns c = seal_accepted
