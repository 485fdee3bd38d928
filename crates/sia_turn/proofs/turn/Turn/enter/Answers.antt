-- The own entries are those of the seat.
use Rattle.std.proofs.Common.{ap}
use Rattle.sia_turn.proofs.turn.Turn.enter.Goals as goal

pub returns-clause-own : goal.returns-clause-own
returns-clause-own g c = let entered = c.wait.ensures.entered in rw (ap (λ m. m.0.seen) entered.2, ← c.pass.view_is) entered.5
