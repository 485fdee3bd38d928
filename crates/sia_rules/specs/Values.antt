-- What the values of a transaction must be, whatever the chain: their sums have no more than 128 bits (B4), and nothing of value 0
-- is made (B5) (siad's doc/Consensus.md).
use Rattle.std.specs.Prelude.{ℕ, Bool, List, Option, ◌==◌, ◌||◌, not}
use Rattle.std.specs.List.{list_any}
use Rattle.sia_encoding.specs.Firsts.{broken, ◌or_else◌}
use Rattle.sia_types.specs.declared.coins.CoinOutput.{CoinOutput}
use Rattle.sia_types.specs.declared.file_contracts.FileContract.{FileContract}
use Rattle.sia_types.specs.declared.file_contracts.Revision.{Revision}
use Rattle.sia_types.specs.declared.funds.FundOutput.{FundOutput}
use Rattle.sia_types.specs.declared.transaction.Transaction.{Transaction}
use Rattle.sia_rules.specs.declared.fault.BlockFault.{BlockFault}
use Rattle.sia_rules.specs.declared.fault.BlockFault.TheVariants as block_fault
use Rattle.sia_rules.specs.declared.tx_values.TxSums.{TxSums}
use Rattle.sia_rules.specs.Amounts.{is_too_large}
use Rattle.sia_rules.specs.Sums.{coin_sum, coins_out, fees_of, funds_out}

-- the valid or the missed outputs of a contract sum to more than 128 bits hold
abbrev pub are_too_large : List CoinOutput → List CoinOutput → Bool
are_too_large valid missed = is_too_large (coin_sum valid) || is_too_large (coin_sum missed)

-- B4: a sum of the transaction has more than 128 bits
unfoldable pub sum_too_large : ℕ → Transaction → Option BlockFault
sum_too_large t tx =
    broken
    (is_too_large (coins_out tx)
    || is_too_large (funds_out tx)
    || list_any (λ (contract : FileContract). are_too_large contract.valid contract.missed) tx.contracts
    || list_any (λ (revision : Revision). are_too_large revision.valid revision.missed) tx.revisions)
    (block_fault.SumTooLarge t)

-- an output of nothing is among these
abbrev pub pays_nothing : List CoinOutput → Bool
pays_nothing outputs = list_any (λ (output : CoinOutput). output.value == 0) outputs

-- B5: an output, a payout or a fee is 0, or the claim start of a siafund output isn't
unfoldable pub bad_value : ℕ → Transaction → Option BlockFault
bad_value t tx =
    broken
    (pays_nothing tx.coin_outputs
    || list_any (λ (contract : FileContract). contract.payout == 0) tx.contracts
    || list_any (λ (output : FundOutput). (output.value == 0) || not (output.claim_start == 0)) tx.fund_outputs
    || list_any (λ fee. fee == 0) tx.fees)
    (block_fault.BadValue t)

-- the first thing that is wrong with the values of a transaction
abbrev pub value_fault : ℕ → Transaction → Option BlockFault
value_fault t tx = sum_too_large t tx or_else bad_value t tx

-- the sums of a transaction whose values are right
abbrev pub sums_of_tx : Transaction → TxSums
sums_of_tx tx = record { coins = coins_out tx; fees = fees_of tx; funds = funds_out tx }
