use Rattle.std.proofs.lemmas.List.{take_all}
use Rattle.sia_rules.proofs.Fitting.{fits}
use Rattle.sia_rules.proofs.sums.sum_of.Goals as goal

pub returns : goal.returns
returns g c = rw (← take_all c.loop-item.item-index c.args.items.now c.loop-item-test.false, ← c.loop-item.invariant.sum) (fits c.loop-item.sum c.loop-item.invariant.low)
