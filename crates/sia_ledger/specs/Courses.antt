-- How file contracts come to their end: by a storage proof inside their window, or else at its end (Sia whitepaper; siad's
-- doc/Consensus.md).
use Rattle.std.specs.Prelude.{◌≡◌, ◌≢◌, ℕ, ◌+◌, ◌≤◌, Bool, true, false, List, [], ◌∷◌, take, Option, Some, None, if◌then◌else◌}
use Rattle.std.specs.Option.{option_or}
use Rattle.std.specs.List.{list_any, sum_by}
use Rattle.std.specs.Str.{bytes_eq}
use Rattle.sia_merkle.specs.Paths.{IsCorrect}
use Rattle.sia_types.specs.declared.block.Block.{Block}
use Rattle.sia_types.specs.declared.file_contracts.StorageProof.{StorageProof}
use Rattle.sia_types.specs.declared.terms.Terms.{Terms}
use Rattle.sia_types.specs.declared.transaction.Transaction.{Transaction}
use Rattle.sia_ledger.specs.declared.fact.Fact.{Fact}
use Rattle.sia_ledger.specs.declared.fact.Deed.{Deed}
use Rattle.sia_ledger.specs.declared.fact.Deed.TheVariants as deed
use Rattle.sia_ledger.specs.Chain.{Chain, height}
use Rattle.sia_ledger.specs.Facts.{terms_in, terms_at}
use Rattle.sia_ledger.specs.State.{State, next}
use Rattle.sia_ledger.specs.Effects.{after_transaction}
use Rattle.sia_ledger.specs.Blocks.{facts, with_block, after_block, genesis_state}
use Rattle.sia_ledger.specs.Rules.{place_to_prove}

-- a deed settles, or not
abbrev pub is_settlement : Deed → ℕ
is_settlement (deed.Settled valid) = 1
is_settlement other = 0

-- a fact settles a contract, or not
abbrev pub settles_at : List ℕ → Fact → ℕ
settles_at contract fact = if bytes_eq fact.id contract then is_settlement fact.deed else 0

-- how many facts settle a contract
unfoldable pub settlements : List ℕ → List Fact → ℕ
settlements contract facts = sum_by (settles_at contract) facts

-- one of the storage proofs is for a contract
abbrev pub proves : List ℕ → List StorageProof → Bool
proves contract proofs = list_any (λ (proof : StorageProof). bytes_eq proof.parent contract) proofs

-- one of the transactions holds a storage proof for a contract
abbrev pub proves_in : List ℕ → List Transaction → Bool
proves_in contract txs = list_any (λ (tx : Transaction). proves contract tx.proofs) txs

-- one of the blocks holds a storage proof for a contract
abbrev pub is_proved : List ℕ → List Block → Bool
is_proved contract blocks = list_any (λ (block : Block). proves_in contract block.transactions) blocks

-- a block of a chain holds a storage proof for a contract
abbrev pub HoldsProof : Chain → List ℕ → Type 0
HoldsProof chain contract = is_proved contract chain.blocks ≡ true

-- the terms of the last formation or revision of a contract, also of a settled one
abbrev pub final_in : List Fact → List ℕ → Option Terms
final_in [] contract = None
final_in (x ∷ rest) contract = option_or (final_in rest contract) (if bytes_eq x.id contract then terms_in (Some x.deed) else None)

-- the chain has the block at which a contract ends, by its last terms, and no block up to that one holds a storage proof for it
abbrev pub EndedUnproved : Chain → List ℕ → Type 0
EndedUnproved chain contract =
    (terms : Terms) × (final_in (facts chain) contract ≡ Some terms) × (terms.end ≤ height chain) × (is_proved contract (take terms.end chain.blocks) ≡ false)

-- A storage proof, on what is known before its transaction, is for a running contract, inside the window of its present terms, and
-- correct where these store something.
pub record IsRight (state : State) (proof : StorageProof) : Type 0 where
  pub terms : Terms
  pub runs : terms_at state.facts proof.parent ≡ Some terms
  pub begun : terms.start ≤ next state
  pub going_on : next state ≤ terms.end
  pub correct : terms.size ≢ 0 → IsCorrect terms.root terms.size (place_to_prove state.ids terms proof.parent) proof.leaf proof.hashes

-- each storage proof of a transaction is right
abbrev pub ProofsAreRight : State → List StorageProof → Type 0
ProofsAreRight state [] = Unit {0}
ProofsAreRight state (proof ∷ proofs) = IsRight state proof × ProofsAreRight state proofs

-- each storage proof of transactions is right, each transaction on what is known after the ones before it
abbrev pub TransactionsAreRight : ℕ → State → List Transaction → Type 0
TransactionsAreRight maturity state [] = Unit {0}
TransactionsAreRight maturity state (tx ∷ txs) = ProofsAreRight state tx.proofs × TransactionsAreRight maturity (after_transaction maturity state tx) txs

-- each storage proof of blocks is right, each block on what is known after the ones before it
abbrev pub BlocksAreRight : ℕ → State → List Block → Type 0
BlocksAreRight maturity state [] = Unit {0}
BlocksAreRight maturity state (block ∷ blocks) = TransactionsAreRight maturity (with_block block state) block.transactions × BlocksAreRight maturity (after_block maturity state block) blocks

-- each storage proof that a block of a chain holds is inside the window of its contract's terms, and correct where these store something
abbrev pub EachProofIsRight : Chain → Type 0
EachProofIsRight chain = BlocksAreRight chain.maturity (genesis_state chain.funds) chain.blocks
