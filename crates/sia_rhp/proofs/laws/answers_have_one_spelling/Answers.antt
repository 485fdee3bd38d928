use Rattle.sia_rhp.proofs.AnswerLaws.{one_spelling}
use Rattle.sia_rhp.proofs.laws.answers_have_one_spelling.Goals as goal

pub returns : goal.returns
returns c = one_spelling
