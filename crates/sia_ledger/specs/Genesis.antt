-- Why no chain begins from parameters: the first thing that is wrong with them (Sia whitepaper; the bounds of the maturity are this
-- project's own).
use Rattle.std.specs.Prelude.{ℕ, List, Option, nat_lt, ◌==◌, ◌||◌, not}
use Rattle.std.specs.List.{list_any}
use Rattle.sia_encoding.specs.Firsts.{broken, ◌or_else◌}
use Rattle.sia_types.specs.declared.funds.FundOutput.{FundOutput}
use Rattle.sia_rules.specs.Amounts.{fund_count, capped}
use Rattle.sia_rules.specs.Sums.{fund_sum}
use Rattle.sia_ledger.specs.declared.params.Params.{Params}
use Rattle.sia_ledger.specs.declared.fault.GenesisFault.{GenesisFault}
use Rattle.sia_ledger.specs.declared.fault.GenesisFault.TheVariants as genesis_fault

-- the siafunds don't sum to 10,000, or an output holds none
abbrev pub wrong_funds : List FundOutput → Option GenesisFault
wrong_funds funds = broken (not (fund_sum funds == fund_count) || list_any (λ (fund : FundOutput). fund.value == 0) funds) (genesis_fault.FundSum (capped (fund_sum funds)))

-- the maturity isn't one of 1 to 10,000
abbrev pub wrong_maturity : ℕ → Option GenesisFault
wrong_maturity maturity = broken (nat_lt maturity 1 || nat_lt 10000 maturity) genesis_fault.Maturity

-- the first thing that is wrong with the parameters of a chain
abbrev pub genesis_refusal : Params → Option GenesisFault
genesis_refusal params = wrong_funds params.funds or_else wrong_maturity params.maturity
