-- Where the word is the ticket, the slot was taken with its value.
use Rattle.std.proofs.Common.{rules, ap, ◌∙◌, Some}
use Rattle.sia_turn.proofs.Taking.{looks}
use Rattle.sia_turn.proofs.Held.{first_held, enters}
use Rattle.sia_turn.proofs.turn.Turn.look.Goals as goal

pub load-requires : goal.load-requires
load-requires g c = (search rules, search rules, looks _ _ _ _ _ c.requires.waits.0 c.requires.waits.1)

pub exchange-requires : goal.exchange-requires
exchange-requires g c =
    let took = (c.load.ensures.2 c.requires.waits.0 c.requires.waits.1).0 (c.if-load-ticket.false ∙ c.requires.waits.2) in
    (search rules, (Some took.0, first_held _ _ _ (ap (λ m. m.1) took.2)))

pub returns-clause-some : goal.returns-clause-some
returns-clause-some g c =
    let took = (c.load.ensures.2 c.requires.waits.0 c.requires.waits.1).0 (c.if-load-ticket.false ∙ c.requires.waits.2) in
    enters g.T.Logged.stands c.requires.waits.0 c.args.seat.now.me c.load.new.seat.me c.exchange.new.seat.me c.exchange.result c.requires.waits.3 took c.exchange.ensures.2 c.exchange.ensures.3
