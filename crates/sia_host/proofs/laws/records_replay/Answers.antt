use Rattle.sia_host.proofs.AnswersOut.{answer_out}
use Rattle.sia_host.proofs.laws.records_replay.Goals as goal

pub returns : goal.returns
returns g c = (λ key h room worker session asked a made sound least typed is some. answer_out g.C.SigCheck.verdict (g.G.Signer.Makes key) h room worker session asked a made sound least typed is some)
