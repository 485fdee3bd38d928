-- No rule but the last answers that an identifier is made a second time.
use Rattle.std.proofs.Common.{◌≡◌, ℕ, ◌+◌, ◌^◌, Bool, true, false, List, [], ◌∷◌, refl, ap, sym, ◌∙◌}
use Rattle.std.specs.Prelude.{◌≢◌, ◌==◌, ◌||◌, ◌&&◌, not, nat_lt, nat_le, Option, Some, None, is_some}
use Rattle.std.specs.Option.{option_or, option_map, option_and_then}
use Rattle.sia_encoding.specs.Firsts.{broken, ◌or_else◌, first_at}
use Rattle.sia_types.specs.declared.block.Block.{Block}
use Rattle.sia_types.specs.declared.coins.CoinOutput.{CoinOutput}
use Rattle.sia_types.specs.declared.file_contracts.Revision.{Revision}
use Rattle.sia_types.specs.declared.file_contracts.StorageProof.{StorageProof}
use Rattle.sia_types.specs.declared.sig_fault.SigFault.{SigFault}
use Rattle.sia_types.specs.declared.terms.Terms.{Terms}
use Rattle.sia_types.specs.declared.transaction.Transaction.{Transaction}
use Rattle.sia_sign.specs.Faults.{signatures_fault}
use Rattle.sia_sign.specs.Needs.{Need, needs}
use Rattle.sia_rules.specs.declared.fault.BlockFault.{BlockFault}
use Rattle.sia_rules.specs.declared.fault.BlockFault.TheVariants as block_fault
use Rattle.sia_rules.specs.FileContracts.{is_ahead, pays_out, form_window, form_sum, revision_number, revision_window, revision_sum}
use Rattle.sia_rules.specs.Shape.{proof_mix, repeated}
use Rattle.sia_rules.specs.Values.{sum_too_large, bad_value}
use Rattle.sia_ledger.specs.declared.fact.Fact.{Fact}
use Rattle.sia_ledger.specs.Facts.{coin_at, terms_at}
use Rattle.sia_ledger.specs.State.{State, next}
use Rattle.sia_ledger.specs.Effects.{after_transaction}
use Rattle.sia_ledger.specs.Blocks.{with_block}
use Rattle.sia_ledger.specs.Rules.{no_coin, immature_coin, unrevisable, unprovable, no_fund, wrong_conditions, locked, rev_number, rev_window, rev_sum, proof_window, is_unproved, bad_proof, unbalanced}
use Rattle.sia_ledger.specs.Refusal.{bad_parent, too_large, height_end, sums_too_large, bad_values, payout_sum, transaction_refusal, transactions_refusal, same_id, verdict}
use Rattle.sia_ledger.specs.Blocks.{done_by}

-- a fault, if any, is another one
abbrev pub IsOther : Option BlockFault → Type 0
IsOther found = (id : List ℕ) → found ≢ Some (block_fault.SameId id)

abbrev Differs : BlockFault → Type 0
Differs fault = (id : List ℕ) → fault ≢ block_fault.SameId id

other_broken : (test : Bool) (fault : BlockFault) → Differs fault → IsOther (broken test fault)
other_broken true fault differs id e = differs id cc
other_broken false fault differs id e = cc

other_or : (a b : Option BlockFault) → IsOther a → IsOther b → IsOther (a or_else b)
other_or None b one two id e = two id e
other_or (Some fault) b one two id e = one id e

other_first : {X : Type 0} (f : ℕ → X → Option BlockFault) → ((i : ℕ) (x : X) → IsOther (f i x)) → (i : ℕ) (xs : List X) → IsOther (first_at f i xs)
other_first f each i [] id e = cc
other_first f each i (x ∷ xs) id e = other_or (f i x) (first_at f (i + 1) xs) (each i x) (other_first f each (i + 1) xs) id e

other_then : {X : Type 0} (f : X → Option BlockFault) → ((x : X) → IsOther (f x)) → (found : Option X) → IsOther (option_and_then f found)
other_then f each None id e = cc
other_then f each (Some x) id e = each x id e

other_signature : (t : ℕ) (found : Option SigFault) → IsOther (option_map (block_fault.Signature t) found)
other_signature t None id e = cc
other_signature t (Some fault) id e = cc

other_value : (t : ℕ) (tx : Transaction) → IsOther (bad_value t tx)
unfolding bad_value
other_value t tx = other_broken _ (block_fault.BadValue t) (λ id e. cc)

other_transaction : (accepts : List ℕ → List ℕ → List ℕ → Bool) (s : State) (t : ℕ) (tx : Transaction) → IsOther (transaction_refusal accepts s t tx)
unfolding transaction_refusal proof_mix repeated form_window form_sum revision_number revision_window revision_sum unbalanced
other_transaction accepts s t tx =
    other_or _ _ (other_broken _ (block_fault.ProofMix t) (λ id e. cc))
    (other_or _ _ (other_broken _ (block_fault.Repeated t) (λ id e. cc))
    (other_or _ _ (other_first (no_coin s.facts t) (λ i x. other_broken _ (block_fault.NoCoin t i) (λ id e. cc)) 0 tx.coin_inputs)
    (other_or _ _ (other_first (immature_coin (next s) s.facts t) (λ i x. other_then _ (λ (coin : CoinOutput × ℕ). other_broken (nat_lt (next s) coin.1) (block_fault.Immature t i coin.1) (λ id e. cc)) (coin_at s.facts x.parent)) 0 tx.coin_inputs)
    (other_or _ _ (other_first (unrevisable s.facts t) (λ i x. other_broken _ (block_fault.NoContract t i) (λ id e. cc)) 0 tx.revisions)
    (other_or _ _ (other_first (unprovable s.facts t) (λ i x. other_broken _ (block_fault.NoContract t i) (λ id e. cc)) 0 tx.proofs)
    (other_or _ _ (other_first (no_fund s.facts t) (λ i x. other_broken _ (block_fault.NoFund t i) (λ id e. cc)) 0 tx.fund_inputs)
    (other_or _ _ (other_first (wrong_conditions s.facts t) (λ i x. other_broken _ (block_fault.Conditions t _) (λ id e. cc)) 0 (needs tx))
    (other_or _ _ (other_first (locked (next s) t) (λ i x. other_broken _ (block_fault.Locked t _) (λ id e. cc)) 0 (needs tx))
    (other_or _ _ (other_first (form_window (next s) t) (λ i x. other_broken _ (block_fault.FormWindow t i) (λ id e. cc)) 0 tx.contracts)
    (other_or _ _ (other_first (form_sum t) (λ i x. other_broken _ (block_fault.FormSum t i) (λ id e. cc)) 0 tx.contracts)
    (other_or _ _ (other_first (rev_number s.facts t) (λ i x. other_then _ (λ (terms : Terms). other_broken (nat_le x.number terms.number) (block_fault.RevNumber t i terms.number) (λ id e. cc)) (terms_at s.facts x.parent)) 0 tx.revisions)
    (other_or _ _ (other_first (rev_window (next s) s.facts t) (λ i x. other_then _ (λ (terms : Terms). other_broken (not (nat_lt (next s) terms.start && is_ahead (next s) x.start x.end)) (block_fault.RevWindow t i) (λ id e. cc)) (terms_at s.facts x.parent)) 0 tx.revisions)
    (other_or _ _ (other_first (rev_sum s.facts t) (λ i x. other_then _ (λ (terms : Terms). other_broken (not (pays_out terms.payout x.valid x.missed)) (block_fault.RevSum t i) (λ id e. cc)) (terms_at s.facts x.parent)) 0 tx.revisions)
    (other_or _ _ (other_first (proof_window (next s) s.facts t) (λ i x. other_then _ (λ (terms : Terms). other_broken (nat_lt (next s) terms.start) (block_fault.ProofWindow t i terms.start) (λ id e. cc)) (terms_at s.facts x.parent)) 0 tx.proofs)
    (other_or _ _ (other_first (bad_proof s t) (λ i x. other_then _ (λ (terms : Terms). other_broken (is_unproved s.ids x terms) (block_fault.BadProof t i) (λ id e. cc)) (terms_at s.facts x.parent)) 0 tx.proofs)
    (other_or _ _ (other_or _ _ (other_broken _ (block_fault.Balance t false _ _) (λ id e. cc)) (other_broken _ (block_fault.Balance t true _ _) (λ id e. cc)))
    (other_signature t (signatures_fault accepts (next s) tx))))))))))))))))))

other_transactions : (accepts : List ℕ → List ℕ → List ℕ → Bool) (maturity : ℕ) (s : State) (t : ℕ) (txs : List Transaction) → IsOther (transactions_refusal accepts maturity s t txs)
unfolding transactions_refusal
other_transactions accepts maturity s t [] id e = cc
other_transactions accepts maturity s t (tx ∷ txs) id e = other_or (transaction_refusal accepts s t tx) (transactions_refusal accepts maturity (after_transaction maturity s tx) (t + 1) txs) (other_transaction accepts s t tx) (other_transactions accepts maturity (after_transaction maturity s tx) (t + 1) txs) id e

-- the first fault isn't among the first rules
past : (a b : Option BlockFault) (id : List ℕ) → IsOther a → a or_else b ≡ Some (block_fault.SameId id) → (a ≡ None) × (b ≡ Some (block_fault.SameId id))
past None b id other e = (refl, e)
past (Some fault) b id other e = absurd (other id e)

some_id : (found : Option (List ℕ)) (id : List ℕ) → option_map block_fault.SameId found ≡ Some (block_fault.SameId id) → found ≡ Some id
some_id None id e = cc
some_id (Some x) id e = cc

-- a block of which all that is wrong is an identifier that it makes a second time
pub record Repeats (accepts : List ℕ → List ℕ → List ℕ → Bool) (maturity : ℕ) (s : State) (block : Block) (id : List ℕ) : Type 0 where
  pub parent : bad_parent s block ≡ None
  pub values : bad_values block ≡ None
  pub each : transactions_refusal accepts maturity (with_block block s) 0 block.transactions ≡ None
  pub twice : (done_by maturity block s).twice ≡ Some id

pub repeats : (accepts : List ℕ → List ℕ → List ℕ → Bool) (maturity : ℕ) (s : State) (block : Block) (id : List ℕ) → verdict accepts maturity s block ≡ Some (block_fault.SameId id) → Repeats accepts maturity s block id
unfolding verdict bad_parent too_large height_end sums_too_large bad_values payout_sum same_id sum_too_large
repeats accepts maturity s block id e =
    let b1 = past (bad_parent s block) _ id (other_broken _ (block_fault.BadParent _) (λ id e. cc)) e in
    let b2 = past (too_large block) _ id (other_broken _ (block_fault.TooLarge _) (λ id e. cc)) b1.1 in
    let b3 = past (height_end s) _ id (other_broken _ block_fault.HeightEnd (λ id e. cc)) b2.1 in
    let b4 = past (sums_too_large s block) _ id (other_or _ _ (other_first sum_too_large (λ t tx. other_broken _ (block_fault.SumTooLarge t) (λ id e. cc)) 0 block.transactions) (other_broken _ (block_fault.SumTooLarge _) (λ id e. cc))) b3.1 in
    let b5 = past (bad_values block) _ id (other_or _ _ (other_first bad_value other_value 0 block.transactions) (other_broken _ (block_fault.BadValue _) (λ id e. cc))) b4.1 in
    let b6 = past (payout_sum s block) _ id (other_broken _ (block_fault.PayoutSum _ _) (λ id e. cc)) b5.1 in
    let each = past (transactions_refusal accepts maturity (with_block block s) 0 block.transactions) (same_id maturity s block) id (other_transactions accepts maturity (with_block block s) 0 block.transactions) b6.1 in
    record { parent = b1.0; values = b5.0; each = each.0; twice = some_id (done_by maturity block s).twice id each.1 }
