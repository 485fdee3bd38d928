-- The last pass has all seats.
use Rattle.std.proofs.Common.{ap, ◌∙◌}
use Rattle.sia_turn.proofs.Held.{held_outside}
use Rattle.sia_turn.proofs.turn.Turn.close.Goals as goal

pub finish-requires-clause-outside : goal.finish-requires-clause-outside
finish-requires-clause-outside g c = held_outside c.pass.inside.seat.me c.pass.invariant (ap (λ t. t.inside) c.pass.view_is ∙ c.requires.outside)
