-- What blocks do: a block makes its own identifier, then its transactions take effect in order; then each contract that ends at its
-- height is settled as missed, by ascending identifiers; then the miners are paid (siad's doc/Consensus.md).
use Rattle.std.specs.Prelude.{ℕ, ◌+◌, ◌==◌, Bool, false, List, [], ◌∷◌, ◌++◌, map, fold, Option, Some, None}
use Rattle.std.specs.List.{filter}
use Rattle.sia_types.specs.declared.block.Block.{Block}
use Rattle.sia_types.specs.declared.coins.CoinOutput.{CoinOutput}
use Rattle.sia_types.specs.declared.funds.FundOutput.{FundOutput}
use Rattle.sia_types.specs.declared.terms.Terms.{Terms}
use Rattle.sia_types.specs.declared.transaction.Transaction.{Transaction}
use Rattle.sia_ids.specs.Identifiers.{block_id, payout_id, new_fund, genesis_id, genesis_fund_id}
use Rattle.sia_ledger.specs.declared.fact.Fact.{Fact}
use Rattle.sia_ledger.specs.declared.fact.Deed.TheVariants as deed
use Rattle.sia_ledger.specs.Chain.{Chain}
use Rattle.sia_ledger.specs.Facts.{fact, standing, terms_in}
use Rattle.sia_ledger.specs.State.{State, next, add, add_all, numbered}
use Rattle.sia_ledger.specs.Order.{ascending_by}
use Rattle.sia_ledger.specs.Effects.{settled, after_transaction}

-- a running contract with these terms ends at a height
abbrev pub ends_at : ℕ → Option Terms → Bool
ends_at height None = false
ends_at height (Some terms) = terms.end == height

-- the running contracts that end at a height, by ascending identifiers
unfoldable pub ending : ℕ → List Fact → List (List ℕ)
ending height facts = ascending_by (λ id. id) (map (λ (fact : Fact). fact.id) (filter (λ (fact : Fact). ends_at height (terms_in (Some fact.deed))) (standing facts)))

-- a block makes its own identifier
unfoldable pub with_block : Block → State → State
with_block block state = add (record state { twice = None }) (fact (block_id block) deed.Block)

-- transactions take effect, one after another
unfoldable pub with_transactions : ℕ → List Transaction → State → State
with_transactions maturity txs state = fold (after_transaction maturity) state txs

-- the contracts that end at the next height are settled as missed; their outputs rest for the maturity
unfoldable pub with_missed : ℕ → State → State
with_missed maturity state = fold (settled (next state + maturity) false) state (ending (next state) state.facts)

-- the miners are paid; their payouts rest for the maturity
unfoldable pub with_payouts : ℕ → Block → State → State
with_payouts maturity block state = add_all state (numbered (λ i (payout : CoinOutput). fact (payout_id (block_id block) i) (deed.Coin payout (next state + maturity))) 0 block.payouts)

-- what a block makes and does
unfoldable pub done_by : ℕ → Block → State → State
done_by maturity block state = with_payouts maturity block (with_missed maturity (with_transactions maturity block.transactions (with_block block state)))

-- one block more
unfoldable pub after_block : ℕ → State → Block → State
after_block maturity state block =
    let done = done_by maturity block state in
    record done { ids = state.ids ++ block_id block ∷ [] }

-- the genesis makes its own identifier, then its siafund outputs
abbrev pub genesis_facts : List FundOutput → List Fact
genesis_facts funds = fact (genesis_id funds) deed.Block ∷ numbered (λ i (fund : FundOutput). fact (genesis_fund_id (genesis_id funds) i) (deed.Fund (new_fund fund))) 0 funds

-- what is known after the genesis
unfoldable pub genesis_state : List FundOutput → State
genesis_state funds = add_all (record { ids = genesis_id funds ∷ []; facts = []; twice = None }) (genesis_facts funds)

-- what is known after blocks, one after another
abbrev pub after_blocks : ℕ → List Block → State → State
after_blocks maturity blocks state = fold (after_block maturity) state blocks

-- what is known of a chain
unfoldable pub state_of : Chain → State
state_of chain = after_blocks chain.maturity chain.blocks (genesis_state chain.funds)

-- what a chain made and did
abbrev pub facts : Chain → List Fact
facts chain = (state_of chain).facts
