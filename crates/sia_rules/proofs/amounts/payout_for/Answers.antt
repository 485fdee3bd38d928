use Rattle.std.proofs.Common.{arith, ◌+◌, ◌*◌, ◌≤◌}
use Rattle.sia_rules.proofs.Taxes.{least_payout, same_payout}
use Rattle.sia_rules.proofs.amounts.payout_for.Goals as goal

pub returns-then-value-tax-clause-none : goal.returns-then-value-tax-clause-none
returns-then-value-tax-clause-none c = λ none payout is.
    let q = c.shares_left_by-tax.result in
    let least = least_payout c.args.value q c.shares_left_by-tax.ensures.reached c.shares_left_by-tax.ensures.within c.shares_left_by-tax.ensures.least in
    let below : c.args.value + q * 10000 ≤ payout = same_payout c.args.value (c.args.value + q * 10000) payout least is in
    omega (arith, below, c.if-value-tax.true)

pub returns-clause-found : goal.returns-clause-found
returns-clause-found c =
    least_payout c.args.value c.shares_left_by-tax.result c.shares_left_by-tax.ensures.reached c.shares_left_by-tax.ensures.within c.shares_left_by-tax.ensures.least
