use Rattle.sia_slots.proofs.Once.{stays_once}
use Rattle.sia_slots.proofs.laws.once_stays.Goals as goal

pub returns : goal.returns
returns c = stays_once
