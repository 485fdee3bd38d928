use Rattle.sia_slots.proofs.Worked.{answer_works}
use Rattle.sia_slots.proofs.laws.answers_work.Goals as goal

pub returns : goal.returns
returns g c = (λ key h room worker session asked a sound is. answer_works g.C.SigCheck.verdict (g.G.Signer.Makes key) h room worker session asked a sound is)
