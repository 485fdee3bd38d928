-- No output of a chain rests longer than the maturity behind the block that makes it, so the facts of old blocks hold none that rests.
use Rattle.std.proofs.Common.{◌≡◌, ℕ, zero, suc, ◌+◌, ◌-◌, ◌<◌, ◌≤◌, Bool, true, false, List, [], ◌∷◌, ◌++◌, length, map, take, drop, get_or, refl, ap, sym, ◌∙◌, subst, arith, append_assoc, append-nil, length-append}
use Rattle.std.specs.Prelude.{fold, ◌==◌, Option, Some, None, if◌then◌else◌}
use Rattle.std.proofs.lemmas.List.{take-append-drop, length-take-le}
use Rattle.std.proofs.Math.Seq.{drop-append_seam}
use Rattle.std.proofs.lemmas.Bool.{le-ltb, ltb-false}
use Rattle.std.proofs.Math.Dec.{ltb}
use Rattle.sia_types.specs.declared.block.Block.{Block}
use Rattle.sia_types.specs.declared.coins.CoinInput.{CoinInput}
use Rattle.sia_types.specs.declared.coins.CoinOutput.{CoinOutput}
use Rattle.sia_types.specs.declared.file_contracts.FileContract.{FileContract}
use Rattle.sia_types.specs.declared.file_contracts.Revision.{Revision}
use Rattle.sia_types.specs.declared.file_contracts.StorageProof.{StorageProof}
use Rattle.sia_types.specs.declared.funds.FundInput.{FundInput}
use Rattle.sia_types.specs.declared.funds.FundOutput.{FundOutput}
use Rattle.sia_types.specs.declared.terms.Terms.{Terms}
use Rattle.sia_types.specs.declared.transaction.Transaction.{Transaction}
use Rattle.sia_ids.specs.Identifiers.{block_id, payout_id, genesis_id, genesis_fund_id, new_fund}
use Rattle.sia_ids.specs.Transactions.{coin_id, fund_id, contract_id, claim_id, settlement_id}
use Rattle.sia_ledger.specs.declared.fact.Fact.{Fact}
use Rattle.sia_ledger.specs.declared.fact.Deed.{Deed}
use Rattle.sia_ledger.specs.declared.fact.Deed.TheVariants as deed
use Rattle.sia_ledger.specs.Chain.{Chain, height}
use Rattle.sia_ledger.specs.Facts.{fact, spent, is_known, terms_at, claim_at}
use Rattle.sia_ledger.specs.Holdings.{held, resting_at, immature}
use Rattle.sia_ledger.specs.Paying.{AllDeeds}
use Rattle.sia_ledger.specs.State.{State, next, add, add_all, numbered}
use Rattle.sia_ledger.specs.Effects.{formed, revised, revised_with, is_paying, settled, settled_with, settlement_facts, claim_facts, after_transaction, with_coin_inputs, with_coin_outputs, with_contracts, with_revisions, with_proofs, with_fund_inputs, with_fund_outputs}
use Rattle.sia_ledger.specs.Blocks.{after_block, done_by, ending, with_block, with_transactions, with_missed, with_payouts, genesis_state, state_of}
use Rattle.sia_ledger.specs.Kept.{IsKept, marks_of}
use Rattle.sia_ledger.proofs.Always.{Begins, block_adds}
use Rattle.sia_ledger.proofs.Conserved.{genesis_next, next-more}
use Rattle.sia_ledger.proofs.Held.{held-cons}
use Rattle.sia_ledger.proofs.Keeps.{all-add}
use Rattle.sia_ledger.proofs.Outcomes.{add_ids}

-- an output can be spent from a height on, at the latest
abbrev pub Until : ℕ → Deed → Type 0
Until limit (deed.Coin output from) = from ≤ limit
Until limit other = Unit {0}

-- so it is with all outputs, where this is the next height
record Early (limit low : ℕ) (s : State) : Type 0 where
  pub all : AllDeeds (Until limit) s.facts
  pub next_is : next s ≡ low

early_add : (limit low : ℕ) (s : State) (x : Fact) → Until limit x.deed → Early limit low s → Early limit low (add s x)
early_add limit low s x here was = record { all = all-add (Until limit) s x was.all here; next_is = ap (λ (ids : List (List ℕ)). length ids) (add_ids s x) ∙ was.next_is }

early_all : (limit low : ℕ) (xs : List Fact) (s : State) → AllDeeds (Until limit) xs → Early limit low s → Early limit low (add_all s xs)
early_all limit low [] s all was = was
early_all limit low (x ∷ xs) s all was = early_all limit low xs (add s x) all.1 (early_add limit low s x all.0 was)

early_each : {X : Type 0} (limit low : ℕ) (step : State → X → State) → ((s : State) (x : X) → Early limit low s → Early limit low (step s x)) → (xs : List X) (s : State) → Early limit low s → Early limit low (fold step s xs)
early_each limit low step one [] s was = was
early_each limit low step one (x ∷ xs) s was = early_each limit low step one xs (step s x) (one s x was)

numbered_all : {X : Type 0} (limit : ℕ) (make : ℕ → X → Fact) → ((i : ℕ) (x : X) → Until limit (make i x).deed) → (index : ℕ) (xs : List X) → AllDeeds (Until limit) (numbered make index xs)
numbered_all limit make each index [] = tt
numbered_all limit make each index (x ∷ xs) = (each index x, numbered_all limit make each (index + 1) xs)

spent_all : (limit : ℕ) (inputs : List CoinInput) → AllDeeds (Until limit) (map (λ (input : CoinInput). spent input.parent) inputs)
spent_all limit [] = tt
spent_all limit (input ∷ inputs) = (tt, spent_all limit inputs)

settlement_all : (limit from : ℕ) (contract : List ℕ) (valid : Bool) (index : ℕ) (outputs : List CoinOutput) → from ≤ limit → AllDeeds (Until limit) (settlement_facts from contract valid index outputs)
settlement_all limit from contract valid index [] low = tt
settlement_all limit from contract valid index (output ∷ outputs) low = by (is_paying output) (settlement_all limit from contract valid (index + 1) outputs low)
  where
    by : (b : Bool) → AllDeeds (Until limit) (settlement_facts from contract valid (index + 1) outputs) → AllDeeds (Until limit) (if b then fact (settlement_id contract valid index) (deed.Coin output from) ∷ settlement_facts from contract valid (index + 1) outputs else settlement_facts from contract valid (index + 1) outputs)
    by true rest = (low, rest)
    by false rest = rest

early_settled : (limit low from : ℕ) (valid : Bool) (s : State) (contract : List ℕ) → from ≤ limit → Early limit low s → Early limit low (settled from valid s contract)
early_settled limit low from valid s contract within was = by (terms_at s.facts contract)
  where
    by : (found : Option Terms) → Early limit low (settled_with from valid s contract found)
    by None = was
    by (Some terms) = early_all limit low (fact contract (deed.Settled valid) ∷ settlement_facts from contract valid 0 (if valid then terms.valid else terms.missed)) s (tt, settlement_all limit from contract valid 0 (if valid then terms.valid else terms.missed) within) was

early_revised : (limit low : ℕ) (s : State) (revision : Revision) → Early limit low s → Early limit low (revised_with s revision (terms_at s.facts revision.parent))
early_revised limit low s revision was = by (terms_at s.facts revision.parent)
  where
    by : (found : Option Terms) → Early limit low (revised_with s revision found)
    by None = was
    by (Some terms) = early_add limit low s (fact revision.parent (deed.Revised (revised terms revision))) tt was

early_claim : (limit low maturity : ℕ) (s : State) (input : FundInput) → low + maturity ≤ limit → Early limit low s → Early limit low (add_all s (spent input.parent ∷ claim_facts (next s + maturity) input (claim_at s.facts input.parent)))
early_claim limit low maturity s input within was = early_all limit low (spent input.parent ∷ claim_facts (next s + maturity) input (claim_at s.facts input.parent)) s (tt, by (claim_at s.facts input.parent == 0)) was
  where
    here : next s + maturity ≤ limit
    here = omega (arith, within, was.next_is)

    by : (b : Bool) → AllDeeds (Until limit) (if b then [] else fact (claim_id input.parent) (deed.Coin (record { value = claim_at s.facts input.parent; address = input.claim_address }) (next s + maturity)) ∷ [])
    by true = tt
    by false = (here, tt)

early_transaction : (limit low maturity : ℕ) (s : State) (tx : Transaction) → low + maturity ≤ limit → Early limit low s → Early limit low (after_transaction maturity s tx)
unfolding after_transaction with_coin_inputs with_coin_outputs with_contracts with_revisions with_proofs with_fund_inputs with_fund_outputs
early_transaction limit low maturity s tx within was =
    let s1 = with_coin_inputs tx s in
    let s2 = with_coin_outputs tx s1 in
    let s3 = with_contracts tx s2 in
    let s4 = with_revisions tx s3 in
    let s5 = with_proofs maturity tx s4 in
    let s6 = with_fund_inputs maturity tx s5 in
    let h1 : Early limit low s1 = early_all limit low (map (λ (input : CoinInput). spent input.parent) tx.coin_inputs) s (spent_all limit tx.coin_inputs) was in
    let at1 : next s1 ≤ limit = omega (arith, within, h1.next_is) in
    let h2 : Early limit low s2 = early_all limit low (numbered (λ i (output : CoinOutput). fact (coin_id tx i) (deed.Coin output (next s1))) 0 tx.coin_outputs) s1 (numbered_all limit (λ i (output : CoinOutput). fact (coin_id tx i) (deed.Coin output (next s1))) (λ i output. at1) 0 tx.coin_outputs) h1 in
    let h3 : Early limit low s3 = early_all limit low (numbered (λ i (contract : FileContract). fact (contract_id tx i) (deed.Formed (formed contract))) 0 tx.contracts) s2 (numbered_all limit (λ i (contract : FileContract). fact (contract_id tx i) (deed.Formed (formed contract))) (λ i contract. tt) 0 tx.contracts) h2 in
    let h4 : Early limit low s4 = early_each limit low (λ t (revision : Revision). revised_with t revision (terms_at t.facts revision.parent)) (early_revised limit low) tx.revisions s3 h3 in
    let h5 : Early limit low s5 = early_each limit low (λ t (proof : StorageProof). settled (next t + maturity) true t proof.parent) (λ t proof here. early_settled limit low (next t + maturity) true t proof.parent (omega (arith, within, here.next_is)) here) tx.proofs s4 h4 in
    let h6 : Early limit low s6 = early_each limit low (λ t (input : FundInput). add_all t (spent input.parent ∷ claim_facts (next t + maturity) input (claim_at t.facts input.parent))) (λ t input here. early_claim limit low maturity t input within here) tx.fund_inputs s5 h5 in
    early_all limit low (numbered (λ i (output : FundOutput). fact (fund_id tx i) (deed.Fund output)) 0 tx.fund_outputs) s6 (numbered_all limit (λ i (output : FundOutput). fact (fund_id tx i) (deed.Fund output)) (λ i output. tt) 0 tx.fund_outputs) h6

-- one block more
early_block : (limit maturity : ℕ) (s : State) (block : Block) → next s + maturity ≤ limit → AllDeeds (Until limit) s.facts → AllDeeds (Until limit) (after_block maturity s block).facts
unfolding after_block done_by with_block with_transactions with_missed with_payouts
early_block limit maturity s block within was =
    let low = next s in
    let s1 = with_block block s in
    let s2 = with_transactions maturity block.transactions s1 in
    let s3 = with_missed maturity s2 in
    let h0 : Early limit low (record s { twice = None }) = record { all = was; next_is = refl } in
    let h1 : Early limit low s1 = early_add limit low (record s { twice = None }) (fact (block_id block) deed.Block) tt h0 in
    let h2 : Early limit low s2 = early_each limit low (after_transaction maturity) (λ t tx here. early_transaction limit low maturity t tx within here) block.transactions s1 h1 in
    let at2 : next s2 + maturity ≤ limit = omega (arith, within, h2.next_is) in
    let h3 : Early limit low s3 = early_each limit low (settled (next s2 + maturity) false) (λ t contract here. early_settled limit low (next s2 + maturity) false t contract at2 here) (ending (next s2) s2.facts) s2 h2 in
    let at3 : next s3 + maturity ≤ limit = omega (arith, within, h3.next_is) in
    (early_all limit low (numbered (λ i (payout : CoinOutput). fact (payout_id (block_id block) i) (deed.Coin payout (next s3 + maturity))) 0 block.payouts) s3 (numbered_all limit (λ i (payout : CoinOutput). fact (payout_id (block_id block) i) (deed.Coin payout (next s3 + maturity))) (λ i payout. at3) 0 block.payouts) h3).all

-- some blocks more, none of them too high
early_blocks : (limit maturity : ℕ) (blocks : List Block) (s : State) → next s + length blocks + maturity ≤ limit + 1 → AllDeeds (Until limit) s.facts → AllDeeds (Until limit) (fold (after_block maturity) s blocks).facts
early_blocks limit maturity [] s within was = was
early_blocks limit maturity (block ∷ blocks) s within was =
    let whole : length (block ∷ blocks) ≡ length blocks + 1 = omega arith in
    let here : next s + maturity ≤ limit = omega (arith, within, whole) in
    let later : next (after_block maturity s block) + length blocks + maturity ≤ limit + 1 = omega (arith, within, whole, next-more maturity s block) in
    early_blocks limit maturity blocks (after_block maturity s block) later (early_block limit maturity s block here was)

-- the genesis makes no output that rests
early_genesis : (limit : ℕ) (funds : List FundOutput) → AllDeeds (Until limit) (genesis_state funds).facts
unfolding genesis_state
early_genesis limit funds =
    let empty : State = record { ids = genesis_id funds ∷ []; facts = []; twice = None } in
    let own = fact (genesis_id funds) deed.Block in
    let h0 : Early limit 1 empty = record { all = tt; next_is = refl } in
    (early_all limit 1 (numbered (λ i (fund : FundOutput). fact (genesis_fund_id (genesis_id funds) i) (deed.Fund (new_fund fund))) 0 funds) (add empty own) (numbered_all limit (λ i (fund : FundOutput). fact (genesis_fund_id (genesis_id funds) i) (deed.Fund (new_fund fund))) (λ i fund. tt) 0 funds) (early_add limit 1 empty own tt h0)).all

-- so it is behind so many blocks
early_chain : (limit maturity : ℕ) (funds : List FundOutput) (blocks : List Block) → (0 < length blocks → length blocks + maturity ≤ limit) → AllDeeds (Until limit) (fold (after_block maturity) (genesis_state funds) blocks).facts
early_chain limit maturity funds [] within = early_genesis limit funds
early_chain limit maturity funds (block ∷ blocks) within =
    let some : 0 < length (block ∷ blocks) = omega arith in
    let one = within some in
    early_blocks limit maturity (block ∷ blocks) (genesis_state funds) (omega (arith, one, genesis_next funds)) (early_genesis limit funds)

-- what can be spent at a height doesn't rest then
no_rest : (at : ℕ) (what : Deed) → Until at what → resting_at at what ≡ 0
no_rest at deed.Block within = refl
no_rest at (deed.Coin output from) within = ap (λ b. if b then output.value else 0) (le-ltb at from within)
no_rest at (deed.Fund output) within = refl
no_rest at (deed.Formed terms) within = refl
no_rest at deed.Spent within = refl
no_rest at (deed.Revised terms) within = refl
no_rest at (deed.Settled valid) within = refl

-- facts that count nothing can be left out at the front
left_out : (at : ℕ) (front rest : List Fact) → AllDeeds (Until at) front → immature at (front ++ rest) ≡ immature at rest
left_out at [] rest all = refl
left_out at (x ∷ front) rest all = held-cons (resting_at at) x (front ++ rest) ∙ by (is_known (front ++ rest) x.id) (no_rest at x.deed all.0) ∙ left_out at front rest all.1
  where
    by : (b : Bool) → resting_at at x.deed ≡ 0 → (if b then 0 else resting_at at x.deed) + immature at (front ++ rest) ≡ immature at (front ++ rest)
    by true none = omega arith
    by false none = omega (arith, none)

adds_all : (maturity : ℕ) (blocks : List Block) (s : State) → Begins s.facts (fold (after_block maturity) s blocks).facts
adds_all maturity [] s = ([], sym (append-nil s.facts))
adds_all maturity (block ∷ blocks) s =
    let one = block_adds maturity s block in
    let rest = adds_all maturity blocks (after_block maturity s block) in
    (one.0 ++ rest.0, rest.1 ∙ ap (λ (front : List Fact). front ++ rest.0) one.1 ∙ append_assoc s.facts one.0 rest.0)

fold_split : (maturity : ℕ) (front rest : List Block) (s : State) → fold (after_block maturity) s (front ++ rest) ≡ fold (after_block maturity) (fold (after_block maturity) s front) rest
fold_split maturity [] rest s = refl
fold_split maturity (block ∷ front) rest s = fold_split maturity front rest (after_block maturity s block)

marks_at : (maturity : ℕ) (blocks : List Block) (s : State) (k d : ℕ) → k < length blocks → get_or (marks_of maturity s blocks) k d ≡ length (fold (after_block maturity) s (take k blocks)).facts
marks_at maturity [] s k d low = absurd (omega (arith, low))
marks_at maturity (block ∷ blocks) s zero d low = refl
marks_at maturity (block ∷ blocks) s (suc k) d low =
    let whole : length (block ∷ blocks) ≡ length blocks + 1 = omega arith in
    marks_at maturity blocks (after_block maturity s block) k d (omega (arith, low, whole))

pub marks-count : (maturity : ℕ) (blocks : List Block) (s : State) → length (marks_of maturity s blocks) ≡ length blocks
marks-count maturity [] s = refl
marks-count maturity (block ∷ blocks) s = ap suc (marks-count maturity blocks (after_block maturity s block))

-- what rests stands behind the mark of the first block that isn't older than the maturity
pub rests_behind : (chain : Chain) (ids : List (List ℕ)) (made : List Fact) (marks : List ℕ) (k mark : ℕ) → IsKept chain ids made marks → k ≡ height chain + 1 - chain.maturity → k < length marks → mark ≡ get_or marks k mark → immature (height chain + 1) (drop mark made) ≡ immature (height chain + 1) made
unfolding state_of
rests_behind chain ids made marks k mark kept is low there =
    let first = genesis_state chain.funds in
    let count : length marks ≡ height chain = ap (λ (all : List ℕ). length all) kept.marks_are ∙ marks-count chain.maturity chain.blocks first in
    let front = take k chain.blocks in
    let s = fold (after_block chain.maturity) first front in
    let mark_is : mark ≡ length s.facts = there ∙ ap (λ (all : List ℕ). get_or all k mark) kept.marks_are ∙ marks_at chain.maturity chain.blocks first k mark (omega (arith, low, count)) in
    let adds = adds_all chain.maturity (drop k chain.blocks) s in
    let whole : made ≡ s.facts ++ adds.0 = sym (ap (λ (t : State). t.facts) kept.state)
    ∙ ap (λ (all : List Block). (fold (after_block chain.maturity) first all).facts) (sym (take-append-drop k chain.blocks))
    ∙ ap (λ (t : State). t.facts) (fold_split chain.maturity front (drop k chain.blocks) first)
    ∙ adds.1 in
    let taken : length front ≡ k = length-take-le k chain.blocks (omega (arith, low, count)) in
    let early : AllDeeds (Until (height chain + 1)) s.facts = early_chain (height chain + 1) chain.maturity chain.funds front (λ some. omega (arith, some, taken, is)) in
    let behind : drop mark made ≡ adds.0 = ap (λ n. drop n made) mark_is ∙ ap (drop (length s.facts)) whole ∙ drop-append_seam s.facts adds.0 in
    ap (immature (height chain + 1)) behind ∙ sym (ap (immature (height chain + 1)) whole ∙ left_out (height chain + 1) s.facts adds.0 early)

-- where the maturity is a block at most, nothing rests
pub rests_nowhere : (chain : Chain) (ids : List (List ℕ)) (made : List Fact) (marks : List ℕ) (k : ℕ) → IsKept chain ids made marks → k ≡ height chain + 1 - chain.maturity → false ≡ ltb k (length marks) → immature (height chain + 1) [] ≡ immature (height chain + 1) made
unfolding state_of
rests_nowhere chain ids made marks k kept is past =
    let high : length marks ≤ k = ltb-false k (length marks) (sym past) in
    let first = genesis_state chain.funds in
    let count : length marks ≡ height chain = ap (λ (all : List ℕ). length all) kept.marks_are ∙ marks-count chain.maturity chain.blocks first in
    let whole : made ≡ (fold (after_block chain.maturity) first chain.blocks).facts = sym (ap (λ (t : State). t.facts) kept.state) in
    let early : AllDeeds (Until (height chain + 1)) made = subst (AllDeeds (Until (height chain + 1))) (sym whole) (early_chain (height chain + 1) chain.maturity chain.funds chain.blocks (λ some. omega (arith, some, count, is, high))) in
    sym (ap (immature (height chain + 1)) (sym (append-nil made)) ∙ left_out (height chain + 1) made [] early)

-- each mark stands within the facts
pub mark_within : (chain : Chain) (ids : List (List ℕ)) (made : List Fact) (marks : List ℕ) (k mark : ℕ) → IsKept chain ids made marks → k < length marks → mark ≡ get_or marks k mark → mark ≤ length made
unfolding state_of
mark_within chain ids made marks k mark kept low there =
    let first = genesis_state chain.funds in
    let count : length marks ≡ height chain = ap (λ (all : List ℕ). length all) kept.marks_are ∙ marks-count chain.maturity chain.blocks first in
    let s = fold (after_block chain.maturity) first (take k chain.blocks) in
    let mark_is : mark ≡ length s.facts = there ∙ ap (λ (all : List ℕ). get_or all k mark) kept.marks_are ∙ marks_at chain.maturity chain.blocks first k mark (omega (arith, low, count)) in
    let adds = adds_all chain.maturity (drop k chain.blocks) s in
    let whole : made ≡ s.facts ++ adds.0 = sym (ap (λ (t : State). t.facts) kept.state)
    ∙ ap (λ (all : List Block). (fold (after_block chain.maturity) first all).facts) (sym (take-append-drop k chain.blocks))
    ∙ ap (λ (t : State). t.facts) (fold_split chain.maturity (take k chain.blocks) (drop k chain.blocks) first)
    ∙ adds.1 in
    omega (arith, mark_is, ap (λ (all : List Fact). length all) whole ∙ length-append s.facts adds.0)
