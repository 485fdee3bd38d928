use Rattle.sia_slots.proofs.Apart.{apart_once, once_apart}
use Rattle.sia_slots.proofs.laws.once_is_apart.Goals as goal

pub returns : goal.returns
returns c = (λ slots. (once_apart slots, apart_once slots))
