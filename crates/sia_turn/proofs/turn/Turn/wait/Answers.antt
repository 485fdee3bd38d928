-- A ticket is drawn. While it waits the pass knows what it knew.
use Rattle.std.proofs.Common.{rules, subst}
use Rattle.sia_turn.specs.Moves.{Enters}
use Rattle.sia_turn.proofs.Taking.{draws}
use Rattle.sia_turn.proofs.turn.Turn.wait.Goals as goal

pub fetch_add-ticket-requires : goal.fetch_add-ticket-requires
fetch_add-ticket-requires g c = (search rules, search rules, draws _ _ _ _ _ c.requires.outside.0 c.requires.live)

pub returns-in-Some-look-clause-entered : goal.returns-in-Some-look-clause-entered
returns-in-Some-look-clause-entered g c = subst (λ m. Enters g.T.Logged.stands c.in-Some-look.value m c.look.new.seat.me) c.loop.invariant.1.1 c.in-Some-look.ensures.some
