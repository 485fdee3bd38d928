-- The state that is kept of a chain, and the rules of a transaction that look at it.
use Rattle.std.specs.Prelude.{ℕ, Bool, List, Option, None}
use Rattle.std.specs.Option.{option_map}
use Rattle.sia_encoding.specs.Firsts.{◌or_else◌, first_at}
use Rattle.sia_types.specs.declared.transaction.Transaction.{Transaction}
use Rattle.sia_sign.specs.Faults.{signatures_fault}
use Rattle.sia_sign.specs.Needs.{needs}
use Rattle.sia_rules.specs.declared.fault.BlockFault.{BlockFault}
use Rattle.sia_rules.specs.declared.fault.BlockFault.TheVariants as block_fault
use Rattle.sia_rules.specs.FileContracts.{form_window, form_sum}
use Rattle.sia_ledger.specs.declared.fact.Fact.{Fact}
use Rattle.sia_ledger.specs.State.{State, next}
use Rattle.sia_ledger.specs.Rules.{no_coin, immature_coin, unrevisable, unprovable, no_fund, wrong_conditions, locked, rev_number, rev_window, rev_sum, proof_window, bad_proof, unbalanced}

-- the state of a chain of which these identifiers and facts are kept
abbrev pub state_kept : List (List ℕ) → List Fact → State
state_kept ids facts = record { ids = ids; facts = facts; twice = None }

-- B9 to B23: the rules of a transaction that look at what is known before it
unfoldable pub state_refusal : (List ℕ → List ℕ → List ℕ → Bool) → State → ℕ → Transaction → Option BlockFault
state_refusal accepts state t tx =
    let facts = state.facts in
    let height = next state in
    first_at (no_coin facts t) 0 tx.coin_inputs
    or_else first_at (immature_coin height facts t) 0 tx.coin_inputs
    or_else first_at (unrevisable facts t) 0 tx.revisions
    or_else first_at (unprovable facts t) 0 tx.proofs
    or_else first_at (no_fund facts t) 0 tx.fund_inputs
    or_else first_at (wrong_conditions facts t) 0 (needs tx)
    or_else first_at (locked height t) 0 (needs tx)
    or_else first_at (form_window height t) 0 tx.contracts
    or_else first_at (form_sum t) 0 tx.contracts
    or_else first_at (rev_number facts t) 0 tx.revisions
    or_else first_at (rev_window height facts t) 0 tx.revisions
    or_else first_at (rev_sum facts t) 0 tx.revisions
    or_else first_at (proof_window height facts t) 0 tx.proofs
    or_else first_at (bad_proof state t) 0 tx.proofs
    or_else unbalanced facts t tx
    or_else option_map (block_fault.Signature t) (signatures_fault accepts height tx)
