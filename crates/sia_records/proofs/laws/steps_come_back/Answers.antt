use Rattle.sia_records.proofs.Slots.{steps_again}
use Rattle.sia_records.proofs.laws.steps_come_back.Goals as goal

pub returns : goal.returns
returns c = steps_again
