use Rattle.sia_session.proofs.Scripts.{after_on}
use Rattle.sia_session.proofs.laws.parts_are_left.Goals as goal

pub returns : goal.returns
returns c = λ script first second one. after_on script first second one
