use Rattle.std.proofs.Common.{◌≡◌, take}
use Rattle.std.specs.List.{sum_by}
use Rattle.sia_types.specs.declared.funds.FundInput.{FundInput}
use Rattle.sia_rules.specs.Amounts.{capped}
use Rattle.sia_ledger.specs.Facts.{fund_at}
use Rattle.sia_ledger.specs.Known.{state_in}
use Rattle.sia_ledger.specs.Rules.{fund_value}
use Rattle.sia_ledger.proofs.balance.funds_named.Given as goal

abbrev pub invariant-loop-input : goal.invariant-loop-input
invariant-loop-input l = l.sum ≡ capped (sum_by (λ (input : FundInput). fund_value (fund_at (state_in l.draft).facts input.parent)) (take l.input-index l.tx.fund_inputs))
