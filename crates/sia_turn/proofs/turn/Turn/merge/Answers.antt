-- Two views become one, whose lists are then compared.
use Rattle.std.proofs.Common.{rules, subst}
use Rattle.sia_turn.specs.Entries.{IsEachOnce}
use Rattle.sia_turn.proofs.EntryLemmas.{once_apart}
use Rattle.sia_turn.proofs.Meeting.{joins, meets}
use Rattle.sia_turn.proofs.turn.Turn.merge.Goals as goal

pub join_seat-requires : goal.join_seat-requires
join_seat-requires g c = (search rules, search rules, search rules, search rules, joins _ _ _ _ _ _ c.requires.outside.0.0 c.requires.outside.1.0 c.requires.live)

pub load-requires : goal.load-requires
load-requires g c = (search rules, search rules, meets _ _ _ _ _)

pub returns-clause-disjoint : goal.returns-clause-disjoint
returns-clause-disjoint g c = once_apart c.args.seat.now.me.0.own c.args.other.me.0.own (subst (λ m. IsEachOnce m.0.own) c.join_seat.ensures.2 c.load.ensures.2.2)
