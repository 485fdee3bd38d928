-- What transactions do, field by field in the order of their fields (siad's doc/Consensus.md).
use Rattle.std.specs.Prelude.{ℕ, ◌+◌, ◌==◌, not, Bool, true, List, [], ◌∷◌, map, fold, if◌then◌else◌, Option, Some, None}
use Rattle.sia_types.specs.declared.coins.CoinInput.{CoinInput}
use Rattle.sia_types.specs.declared.coins.CoinOutput.{CoinOutput}
use Rattle.sia_types.specs.declared.file_contracts.FileContract.{FileContract}
use Rattle.sia_types.specs.declared.file_contracts.Revision.{Revision}
use Rattle.sia_types.specs.declared.file_contracts.StorageProof.{StorageProof}
use Rattle.sia_types.specs.declared.funds.FundInput.{FundInput}
use Rattle.sia_types.specs.declared.funds.FundOutput.{FundOutput}
use Rattle.sia_types.specs.declared.terms.Terms.{Terms}
use Rattle.sia_types.specs.declared.transaction.Transaction.{Transaction}
use Rattle.sia_ids.specs.Transactions.{coin_id, fund_id, contract_id, claim_id, settlement_id}
use Rattle.sia_ledger.specs.declared.fact.Fact.{Fact}
use Rattle.sia_ledger.specs.declared.fact.Deed.TheVariants as deed
use Rattle.sia_ledger.specs.Facts.{fact, spent, terms_at, claim_at}
use Rattle.sia_ledger.specs.State.{State, next, add, add_all, numbered}

-- the terms of a new contract
abbrev pub formed : FileContract → Terms
formed contract = record {
  payout = contract.payout;
  number = contract.number;
  size = contract.size;
  root = contract.root;
  start = contract.start;
  end = contract.end;
  valid = contract.valid;
  missed = contract.missed;
  address = contract.address;
}

-- the terms of a contract after a revision: its payout stays
abbrev pub revised : Terms → Revision → Terms
revised terms revision = record {
  payout = terms.payout;
  number = revision.number;
  size = revision.size;
  root = revision.root;
  start = revision.start;
  end = revision.end;
  valid = revision.valid;
  missed = revision.missed;
  address = revision.address;
}

-- an output has some value
abbrev pub is_paying : CoinOutput → Bool
is_paying output = not (output.value == 0)

-- The outputs of a settled contract, which can be spent from a height on: all but those of value 0. Each has the identifier of its
-- index among all.
abbrev pub settlement_facts : ℕ → List ℕ → Bool → ℕ → List CoinOutput → List Fact
settlement_facts from contract valid index [] = []
settlement_facts from contract valid index (output ∷ outputs) =
    if is_paying output then fact (settlement_id contract valid index) (deed.Coin output from) ∷ settlement_facts from contract valid (index + 1) outputs
    else settlement_facts from contract valid (index + 1) outputs

-- a contract with these terms is settled; where it isn't running, nothing happens
abbrev pub settled_with : ℕ → Bool → State → List ℕ → Option Terms → State
settled_with from valid state contract None = state
settled_with from valid state contract (Some terms) =
    add_all state (fact contract (deed.Settled valid) ∷ settlement_facts from contract valid 0 (if valid then terms.valid else terms.missed))

-- a running contract is settled; its outputs can be spent from a height on
abbrev pub settled : ℕ → Bool → State → List ℕ → State
settled from valid state contract = settled_with from valid state contract (terms_at state.facts contract)

-- the siacoin inputs are spent
unfoldable pub with_coin_inputs : Transaction → State → State
with_coin_inputs tx state = add_all state (map (λ (input : CoinInput). spent input.parent) tx.coin_inputs)

-- the siacoin outputs are made; they can be spent at once
unfoldable pub with_coin_outputs : Transaction → State → State
with_coin_outputs tx state = add_all state (numbered (λ i (output : CoinOutput). fact (coin_id tx i) (deed.Coin output (next state))) 0 tx.coin_outputs)

-- the contracts are formed
unfoldable pub with_contracts : Transaction → State → State
with_contracts tx state = add_all state (numbered (λ i (contract : FileContract). fact (contract_id tx i) (deed.Formed (formed contract))) 0 tx.contracts)

-- a contract with these terms is revised; where it isn't running, nothing happens
abbrev pub revised_with : State → Revision → Option Terms → State
revised_with state revision None = state
revised_with state revision (Some terms) = add state (fact revision.parent (deed.Revised (revised terms revision)))

-- a running contract is revised
abbrev pub with_revision : State → Revision → State
with_revision state revision = revised_with state revision (terms_at state.facts revision.parent)

-- the contracts are revised
unfoldable pub with_revisions : Transaction → State → State
with_revisions tx state = fold with_revision state tx.revisions

-- a contract with a storage proof is settled; its outputs rest for the maturity
abbrev pub with_proof : ℕ → State → StorageProof → State
with_proof maturity state proof = settled (next state + maturity) true state proof.parent

-- the contracts with storage proofs are settled
unfoldable pub with_proofs : ℕ → Transaction → State → State
with_proofs maturity tx state = fold (with_proof maturity) state tx.proofs

-- the claim of a siafund output that is spent; it can be spent from a height on, and one of value 0 isn't made
abbrev pub claim_facts : ℕ → FundInput → ℕ → List Fact
claim_facts from input claim = if claim == 0 then [] else fact (claim_id input.parent) (deed.Coin (record { value = claim; address = input.claim_address }) from) ∷ []

-- a siafund output is spent, and its claim made, which rests for the maturity
abbrev pub with_fund_input : ℕ → State → FundInput → State
with_fund_input maturity state input = add_all state (spent input.parent ∷ claim_facts (next state + maturity) input (claim_at state.facts input.parent))

-- the siafund inputs are spent
unfoldable pub with_fund_inputs : ℕ → Transaction → State → State
with_fund_inputs maturity tx state = fold (with_fund_input maturity) state tx.fund_inputs

-- the siafund outputs are made
unfoldable pub with_fund_outputs : Transaction → State → State
with_fund_outputs tx state = add_all state (numbered (λ i (output : FundOutput). fact (fund_id tx i) (deed.Fund output)) 0 tx.fund_outputs)

-- what is known after a transaction
unfoldable pub after_transaction : ℕ → State → Transaction → State
after_transaction maturity state tx =
    with_fund_outputs tx
    (with_fund_inputs maturity tx
    (with_proofs maturity tx
    (with_revisions tx
    (with_contracts tx
    (with_coin_outputs tx
    (with_coin_inputs tx state))))))
