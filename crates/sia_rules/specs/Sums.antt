-- The sums of a transaction, in hastings and in siafunds, over whole numbers without bound (siad's doc/Consensus.md).
use Rattle.std.specs.Prelude.{ℕ, ◌+◌, List}
use Rattle.std.specs.List.{sum_by}
use Rattle.sia_types.specs.declared.coins.CoinOutput.{CoinOutput}
use Rattle.sia_types.specs.declared.file_contracts.FileContract.{FileContract}
use Rattle.sia_types.specs.declared.funds.FundOutput.{FundOutput}
use Rattle.sia_types.specs.declared.transaction.Transaction.{Transaction}

-- what siacoin outputs pay together
abbrev pub coin_sum : List CoinOutput → ℕ
coin_sum outputs = sum_by (λ (output : CoinOutput). output.value) outputs

-- how many siafunds outputs hold together
abbrev pub fund_sum : List FundOutput → ℕ
fund_sum funds = sum_by (λ (fund : FundOutput). fund.value) funds

-- the payouts of the contracts that a transaction forms
abbrev pub payouts_of : Transaction → ℕ
payouts_of tx = sum_by (λ (contract : FileContract). contract.payout) tx.contracts

-- the fees of a transaction
abbrev pub fees_of : Transaction → ℕ
fees_of tx = sum_by (λ fee. fee) tx.fees

-- what leaves the siacoin inputs of a transaction: its siacoin outputs, the payouts of its contracts, and its fees
unfoldable pub coins_out : Transaction → ℕ
coins_out tx = coin_sum tx.coin_outputs + payouts_of tx + fees_of tx

-- what leaves the siafund inputs of a transaction: its siafund outputs
unfoldable pub funds_out : Transaction → ℕ
funds_out tx = fund_sum tx.fund_outputs

-- the fees of all transactions
unfoldable pub all_fees : List Transaction → ℕ
all_fees txs = sum_by fees_of txs
