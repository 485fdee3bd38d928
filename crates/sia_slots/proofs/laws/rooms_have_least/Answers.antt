use Rattle.sia_slots.proofs.Least.{has_least}
use Rattle.sia_slots.proofs.laws.rooms_have_least.Goals as goal

pub returns : goal.returns
returns c = has_least
