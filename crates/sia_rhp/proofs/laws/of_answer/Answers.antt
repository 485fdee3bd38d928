use Rattle.sia_rhp.proofs.AnswerLaws.{answer_law}
use Rattle.sia_rhp.proofs.laws.of_answer.Goals as goal

pub returns : goal.returns
returns c = answer_law
