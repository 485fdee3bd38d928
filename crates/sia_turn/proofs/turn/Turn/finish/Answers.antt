-- The last seat has all parts, so the slot has the value.
use Rattle.std.proofs.Common.{ap, sym, ◌∙◌}
use Rattle.sia_turn.proofs.Ending.{ends}
use Rattle.sia_turn.proofs.turn.Turn.finish.Goals as goal

pub returns : goal.returns
returns g c = ends _ _ _ _ _ _ _ c.requires.outside (c.requires.all ∙ sym (ap (λ t. t.seats) c.self.view_is)) c.close_with-closed.ensures.values.2 c.take-slot.ensures.value
