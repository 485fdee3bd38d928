-- The next one is taken in.
use Rattle.sia_turn.proofs.Gathering.{gathering_none, gathering_next, gathering_more}
use Rattle.sia_turn.proofs.turn.Turn.gather.Goals as goal

pub loop-other-init : goal.loop-other-init
loop-other-init g c = (tt, tt, gathering_none _ c.args.others.items _ c.args.pass.now c.into_iter-other-iterator.ensures.into_iter_gives.0 c.requires.turn c.requires.outside)

pub join-requires-clause-turn : goal.join-requires-clause-turn
join-requires-clause-turn g c =
    let next = gathering_next _ _ _ _ c.in-Some.other _ c.loop-other.pass c.in-Some.ensures.steps.0 c.loop-other.invariant.2 in (next.0, next.1)

pub join-requires-clause-outside : goal.join-requires-clause-outside
join-requires-clause-outside g c =
    let next = gathering_next _ _ _ _ c.in-Some.other _ c.loop-other.pass c.in-Some.ensures.steps.0 c.loop-other.invariant.2 in (next.2, next.3)

pub loop-other-preserved : goal.loop-other-preserved
loop-other-preserved g c =
    let join = c.join.ensures in
    (tt, tt, gathering_more _ _ _ _ c.in-Some.other _ c.loop-other.pass c.join.new.pass c.in-Some.ensures.steps.0 c.loop-other.invariant.2 join.turn join.own join.disjoint join.longer join.seen join.sums)
