use Rattle.sia_session.proofs.Scripts.{runs_on}
use Rattle.sia_session.proofs.laws.runs_go_on.Goals as goal

pub returns : goal.returns
returns c = λ script first second one two. runs_on script first second one two
