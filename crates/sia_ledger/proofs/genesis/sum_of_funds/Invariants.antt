use Rattle.std.proofs.Common.{◌≡◌, take}
use Rattle.sia_rules.specs.Amounts.{capped}
use Rattle.sia_rules.specs.Sums.{fund_sum}
use Rattle.sia_ledger.proofs.genesis.sum_of_funds.Given as goal

abbrev pub invariant-loop-fund : goal.invariant-loop-fund
invariant-loop-fund l = l.sum ≡ capped (fund_sum (take l.fund-index l.funds))
