-- The first ticket is served, and the slot is empty.
use Rattle.std.proofs.Common.{rules}
use Rattle.sia_turn.proofs.Taking.{begins}
use Rattle.sia_turn.proofs.turn.Turn.begin.Goals as goal

pub load-requires : goal.load-requires
load-requires g c = (search rules, search rules, begins _ _ _ _ _ c.requires.opens.0.0 c.requires.opens.0.1)
