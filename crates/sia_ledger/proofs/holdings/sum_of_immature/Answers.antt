use Rattle.std.proofs.Common.{◌≡◌, ◌∷◌, ap, arith}
use Rattle.sia_ledger.specs.Holdings.{immature, resting_at}
use Rattle.sia_ledger.proofs.Held.{held_nothing}
use Rattle.sia_ledger.proofs.holdings.sum_of_immature.Goals as goal

pub overflow_add-sum : goal.overflow_add-sum
overflow_add-sum c =
    let split : immature c.args.height c.loop-first.rest.now ≡ immature c.args.height (c.in-Some.first.now ∷ c.in-Some.after.now) = ap (immature c.args.height) c.in-Some.ensures.cases.0 in
    omega (arith, c.requires, c.loop-first.invariant, c.resting_standing-sum.ensures, split)

pub loop-first-preserved : goal.loop-first-preserved
loop-first-preserved c =
    let split : immature c.args.height c.loop-first.rest.now ≡ immature c.args.height (c.in-Some.first.now ∷ c.in-Some.after.now) = ap (immature c.args.height) c.in-Some.ensures.cases.0 in
    omega (arith, c.loop-first.invariant, c.resting_standing-sum.ensures, split)

pub returns : goal.returns
returns c = omega (arith, c.loop-first.invariant, held_nothing (resting_at c.args.height) c.loop-first.rest.now c.in_default.ensures.cases)
