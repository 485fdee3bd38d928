-- The own entries are those of the seats.
use Rattle.sia_turn.proofs.turn.Turn.join.Goals as goal

pub returns-clause-disjoint : goal.returns-clause-disjoint
returns-clause-disjoint g c = rw (← c.pass.view_is, ← c.other.view_is) c.merge.ensures.disjoint
