-- What holds of the facts of every chain, whether its blocks break rules or not.
use Rattle.std.proofs.Common.{◌≡◌, ℕ, ◌+◌, ◌≤◌, Bool, true, false, List, [], ◌∷◌, ◌++◌, map, refl, ap, sym, ◌∙◌, arith, append_assoc, subst}
use Rattle.std.proofs.lemmas.List.{append-nil}
use Rattle.std.specs.Prelude.{◌||◌, ◌&&◌, ◌==◌, not, fold, Option, Some, None, if◌then◌else◌}
use Rattle.std.specs.Option.{option_or}
use Rattle.std.specs.List.{sum_by}
use Rattle.std.proofs.lemmas.List.Sums.{sum_by-append, sum_by-cons}
use Rattle.std.specs.Cmp.Lexicographic.{same_text}
use Rattle.sia_ledger.specs.declared.fact.Deed.TheVariants as deed
use Rattle.sia_ids.specs.Identifiers.{block_id, payout_id, new_fund, genesis_id, genesis_fund_id}
use Rattle.sia_ids.specs.Transactions.{coin_id, fund_id, contract_id, claim_id, settlement_id}
use Rattle.sia_ledger.specs.Blocks.{facts, ending, with_block, with_transactions, with_missed, with_payouts, done_by, after_block, genesis_state, state_of}
use Rattle.sia_ledger.specs.Chain.{Chain}
use Rattle.sia_ledger.specs.Courses.{is_settlement, settles_at, settlements}
use Rattle.sia_ledger.specs.Effects.{formed, revised, is_paying, settlement_facts, settled_with, settled, with_coin_inputs, with_coin_outputs, with_contracts, revised_with, with_revisions, with_proofs, claim_facts, with_fund_inputs, with_fund_outputs, after_transaction}
use Rattle.sia_ledger.specs.Facts.{fact, spent, is_known, last_deed, terms_in, terms_at, claim_at}
use Rattle.sia_ledger.specs.Holdings.{outputs}
use Rattle.sia_ledger.specs.State.{State, next, makes, add, add_all, numbered}
use Rattle.sia_ledger.specs.declared.fact.Deed.{Deed}
use Rattle.sia_ledger.specs.declared.fact.Fact.{Fact}
use Rattle.sia_types.specs.declared.block.Block.{Block}
use Rattle.sia_types.specs.declared.coins.CoinInput.{CoinInput}
use Rattle.sia_types.specs.declared.coins.CoinOutput.{CoinOutput}
use Rattle.sia_types.specs.declared.file_contracts.FileContract.{FileContract}
use Rattle.sia_types.specs.declared.file_contracts.Revision.{Revision}
use Rattle.sia_types.specs.declared.file_contracts.StorageProof.{StorageProof}
use Rattle.sia_types.specs.declared.funds.FundInput.{FundInput}
use Rattle.sia_types.specs.declared.funds.FundOutput.{FundOutput}
use Rattle.sia_types.specs.declared.terms.Terms.{Terms}
use Rattle.sia_types.specs.declared.transaction.Transaction.{Transaction}
use Rattle.std.specs.Str.{bytes_eq}
use Rattle.sia_ledger.proofs.Held.{unknown, last-push, known-push, same-self}
use Rattle.sia_ledger.proofs.Keeps.{other_last}

-- what each way of adding a fact keeps
pub record Stays (P : List Fact → Type 0) : Type 0 where
  pub made : (facts : List Fact) (x : Fact) → makes x.deed ≡ true → is_known facts x.id ≡ false → P facts → P (facts ++ x ∷ [])
  pub spends : (facts : List Fact) (id : List ℕ) → P facts → P (facts ++ fact id deed.Spent ∷ [])
  pub revises : (facts : List Fact) (id : List ℕ) (terms new : Terms) → terms_at facts id ≡ Some terms → P facts → P (facts ++ fact id (deed.Revised new) ∷ [])
  pub settles : (facts : List Fact) (id : List ℕ) (valid : Bool) (terms : Terms) → terms_at facts id ≡ Some terms → P facts → P (facts ++ fact id (deed.Settled valid) ∷ [])

pub make : (P : List Fact → Type 0) → Stays P → (s : State) (x : Fact) → makes x.deed ≡ true → P s.facts → P (add s x).facts
unfolding add
make P stays s x is here = by (makes x.deed) (is_known s.facts x.id) refl is
  where
    by : (m k : Bool) → is_known s.facts x.id ≡ k → m ≡ true → P (if m && k then record s { twice = option_or s.twice (Some x.id) } else record s { facts = s.facts ++ x ∷ [] }).facts
    by true true known e = here
    by true false new e = stays.made s.facts x is new here
    by false k known e = cc

-- a property of states that each step keeps
pub each : {X : Type 0} (P : List Fact → Type 0) (step : State → X → State) → ((s : State) (x : X) → P s.facts → P (step s x).facts) → (xs : List X) (s : State) → P s.facts → P (fold step s xs).facts
each P step one [] s here = here
each P step one (x ∷ xs) s here = each P step one xs (step s x) (one s x here)

pub make_each : {X : Type 0} (P : List Fact → Type 0) → Stays P → (mk : ℕ → X → Fact) → ((i : ℕ) (x : X) → makes (mk i x).deed ≡ true) → (index : ℕ) (xs : List X) (s : State) → P s.facts → P (add_all s (numbered mk index xs)).facts
make_each P stays mk makes_it index [] s here = here
make_each P stays mk makes_it index (x ∷ xs) s here = make_each P stays mk makes_it (index + 1) xs (add s (mk index x)) (make P stays s (mk index x) (makes_it index x) here)

pub make_settlement : (P : List Fact → Type 0) → Stays P → (from : ℕ) (contract : List ℕ) (valid : Bool) (index : ℕ) (outputs : List CoinOutput) (s : State) → P s.facts → P (add_all s (settlement_facts from contract valid index outputs)).facts
make_settlement P stays from contract valid index [] s here = here
make_settlement P stays from contract valid index (output ∷ outputs) s here = by (is_paying output) (λ t. make_settlement P stays from contract valid (index + 1) outputs t)
  where
    x : Fact
    x = fact (settlement_id contract valid index) (deed.Coin output from)

    by : (b : Bool) → ((t : State) → P t.facts → P (add_all t (settlement_facts from contract valid (index + 1) outputs)).facts) → P (add_all s (if b then x ∷ settlement_facts from contract valid (index + 1) outputs else settlement_facts from contract valid (index + 1) outputs)).facts
    by true later = later (add s x) (make P stays s x refl here)
    by false later = later s here

pub settle_one : (P : List Fact → Type 0) → Stays P → (from : ℕ) (valid : Bool) (s : State) (contract : List ℕ) → P s.facts → P (settled from valid s contract).facts
unfolding add
settle_one P stays from valid s contract here = by (terms_at s.facts contract) refl
  where
    by : (found : Option Terms) → terms_at s.facts contract ≡ found → P (settled_with from valid s contract found).facts
    by None is = here
    by (Some terms) is = make_settlement P stays from contract valid 0 (if valid then terms.valid else terms.missed) (record s { facts = s.facts ++ fact contract (deed.Settled valid) ∷ [] }) (stays.settles s.facts contract valid terms is here)

pub revise_one : (P : List Fact → Type 0) → Stays P → (s : State) (revision : Revision) → P s.facts → P (revised_with s revision (terms_at s.facts revision.parent)).facts
unfolding add
revise_one P stays s revision here = by (terms_at s.facts revision.parent) refl
  where
    by : (found : Option Terms) → terms_at s.facts revision.parent ≡ found → P (revised_with s revision found).facts
    by None is = here
    by (Some terms) is = stays.revises s.facts revision.parent terms (revised terms revision) is here

spend_one : (P : List Fact → Type 0) → Stays P → (s : State) (id : List ℕ) → P s.facts → P (add s (spent id)).facts
unfolding add
spend_one P stays s id here = stays.spends s.facts id here

pub claim_one : (P : List Fact → Type 0) → Stays P → (maturity : ℕ) (s : State) (input : FundInput) → P s.facts → P (add_all s (spent input.parent ∷ claim_facts (next s + maturity) input (claim_at s.facts input.parent))).facts
claim_one P stays maturity s input here = by (claim_at s.facts input.parent == 0)
  where
    x : Fact
    x = fact (claim_id input.parent) (deed.Coin (record { value = claim_at s.facts input.parent; address = input.claim_address }) (next s + maturity))

    by : (b : Bool) → P (add_all (add s (spent input.parent)) (if b then [] else x ∷ [])).facts
    by true = spend_one P stays s input.parent here
    by false = make P stays (add s (spent input.parent)) x refl (spend_one P stays s input.parent here)

pub spend_all : (P : List Fact → Type 0) → Stays P → (inputs : List CoinInput) (s : State) → P s.facts → P (add_all s (map (λ (input : CoinInput). spent input.parent) inputs)).facts
spend_all P stays [] s here = here
spend_all P stays (input ∷ inputs) s here = spend_all P stays inputs (add s (spent input.parent)) (spend_one P stays s input.parent here)

pub after_transaction-keeps : (P : List Fact → Type 0) → Stays P → (maturity : ℕ) (s : State) (tx : Transaction) → P s.facts → P (after_transaction maturity s tx).facts
unfolding after_transaction with_coin_inputs with_coin_outputs with_contracts with_revisions with_proofs with_fund_inputs with_fund_outputs
after_transaction-keeps P stays maturity s tx here =
    let s1 = with_coin_inputs tx s in
    let s2 = with_coin_outputs tx s1 in
    let s3 = with_contracts tx s2 in
    let s4 = with_revisions tx s3 in
    let s5 = with_proofs maturity tx s4 in
    let s6 = with_fund_inputs maturity tx s5 in
    let h1 : P s1.facts = spend_all P stays tx.coin_inputs s here in
    let h2 : P s2.facts = make_each P stays (λ i (output : CoinOutput). fact (coin_id tx i) (deed.Coin output (next s1))) (λ i output. refl) 0 tx.coin_outputs s1 h1 in
    let h3 : P s3.facts = make_each P stays (λ i (contract : FileContract). fact (contract_id tx i) (deed.Formed (formed contract))) (λ i contract. refl) 0 tx.contracts s2 h2 in
    let h4 : P s4.facts = each P (λ t (revision : Revision). revised_with t revision (terms_at t.facts revision.parent)) (revise_one P stays) tx.revisions s3 h3 in
    let h5 : P s5.facts = each P (λ t (proof : StorageProof). settled (next t + maturity) true t proof.parent) (λ t proof. settle_one P stays (next t + maturity) true t proof.parent) tx.proofs s4 h4 in
    let h6 : P s6.facts = each P (λ t (input : FundInput). add_all t (spent input.parent ∷ claim_facts (next t + maturity) input (claim_at t.facts input.parent))) (claim_one P stays maturity) tx.fund_inputs s5 h5 in
    make_each P stays (λ i (output : FundOutput). fact (fund_id tx i) (deed.Fund output)) (λ i output. refl) 0 tx.fund_outputs s6 h6

pub after_block-keeps : (P : List Fact → Type 0) → Stays P → (maturity : ℕ) (s : State) (block : Block) → P s.facts → P (after_block maturity s block).facts
unfolding after_block done_by with_block with_transactions with_missed with_payouts
after_block-keeps P stays maturity s block here =
    let s1 = with_block block s in
    let s2 = with_transactions maturity block.transactions s1 in
    let s3 = with_missed maturity s2 in
    let h1 : P s1.facts = make P stays (record s { twice = None }) (fact (block_id block) deed.Block) refl here in
    let h2 : P s2.facts = each P (after_transaction maturity) (after_transaction-keeps P stays maturity) block.transactions s1 h1 in
    let h3 : P s3.facts = each P (settled (next s2 + maturity) false) (settle_one P stays (next s2 + maturity) false) (ending (next s2) s2.facts) s2 h2 in
    make_each P stays (λ i (payout : CoinOutput). fact (payout_id (block_id block) i) (deed.Coin payout (next s3 + maturity))) (λ i payout. refl) 0 block.payouts s3 h3

pub always : (P : List Fact → Type 0) → Stays P → P [] → (chain : Chain) → P (facts chain)
unfolding state_of genesis_state
always P stays none chain = each P (after_block chain.maturity) (after_block-keeps P stays chain.maturity) chain.blocks (genesis_state chain.funds) begins
  where
    own : Fact
    own = fact (genesis_id chain.funds) deed.Block

    empty : State
    empty = record { ids = genesis_id chain.funds ∷ []; facts = []; twice = None }

    begins : P (genesis_state chain.funds).facts
    begins = make_each P stays (λ i (fund : FundOutput). fact (genesis_fund_id (genesis_id chain.funds) i) (deed.Fund (new_fund fund))) (λ i fund. refl) 0 chain.funds (add empty own) (make P stays empty own refl none)

-- Facts are only added.

abbrev pub Begins : List Fact → List Fact → Type 0
Begins before facts = (new : List Fact) × (facts ≡ before ++ new)

one_more : (before facts : List Fact) (x : Fact) → Begins before facts → Begins before (facts ++ x ∷ [])
one_more before facts x (new, is) = (new ++ x ∷ [], ap (λ l. l ++ x ∷ []) is ∙ append_assoc before new (x ∷ []))

begins_stays : (before : List Fact) → Stays (Begins before)
begins_stays before = record {
  made = λ facts x is new here. one_more before facts x here;
  spends = λ facts id here. one_more before facts (fact id deed.Spent) here;
  revises = λ facts id terms new is here. one_more before facts (fact id (deed.Revised new)) here;
  settles = λ facts id valid terms is here. one_more before facts (fact id (deed.Settled valid)) here;
}

-- what a block makes and does stands behind what was
pub block_adds : (maturity : ℕ) (s : State) (block : Block) → Begins s.facts (after_block maturity s block).facts
block_adds maturity s block = after_block-keeps (Begins s.facts) (begins_stays s.facts) maturity s block ([], sym (append-nil s.facts))

-- No contract is settled twice.

-- at most one, and none before anything is known or while the contract runs
pub record IsSettledOnce (id : List ℕ) (facts : List Fact) : Type 0 where
  pub once : settlements id facts ≤ 1
  pub running : (terms : Terms) → terms_at facts id ≡ Some terms → settlements id facts ≡ 0
  pub nothing : is_known facts id ≡ false → settlements id facts ≡ 0

settlements-push : (id : List ℕ) (facts : List Fact) (x : Fact) → settlements id (facts ++ x ∷ []) ≡ settlements id facts + settles_at id x
unfolding settlements
settlements-push id facts x =
    let split = sum_by-append (settles_at id) facts (x ∷ []) in
    let one = sum_by-cons (settles_at id) x [] in
    omega (arith, split, one)

none_some : {X : Type 0} (x : X) → None ≡ Some x → ⊥
none_some x e = cc

-- one fact more that settles nothing: what runs behind it ran before, or nothing was known of it
no_settlement : (id : List ℕ) (facts : List Fact) (x : Fact) → settles_at id x ≡ 0 → ((terms : Terms) → bytes_eq x.id id ≡ true → terms_in (Some x.deed) ≡ Some terms → settlements id facts ≡ 0) → IsSettledOnce id facts → IsSettledOnce id (facts ++ x ∷ [])
no_settlement id facts x zero_here runs was =
    let push = settlements-push id facts x in
    record {
      once = omega (arith, push, zero_here, was.once);
      running = λ terms now. omega (arith, push, zero_here, by (bytes_eq x.id id) refl terms now);
      nothing = λ not_known. omega (arith, push, zero_here, was.nothing (left (is_known facts id) (bytes_eq x.id id) (sym (known-push facts x id) ∙ not_known)));
    }
  where
    by : (b : Bool) → bytes_eq x.id id ≡ b → (terms : Terms) → terms_at (facts ++ x ∷ []) id ≡ Some terms → settlements id facts ≡ 0
    by true same terms now = runs terms same (sym (ap terms_in (last-push facts x id ∙ ap (λ b. if b then Some x.deed else last_deed facts id) same)) ∙ now)
    by false other terms now = was.running terms (sym (ap terms_in (other_last facts x id other)) ∙ now)

    left : (a b : Bool) → (a || b) ≡ false → a ≡ false
    left true b e = cc
    left false b e = refl

making_settles_none : (what : Deed) → makes what ≡ true → is_settlement what ≡ 0
making_settles_none deed.Block is = refl
making_settles_none (deed.Coin output from) is = refl
making_settles_none (deed.Fund output) is = refl
making_settles_none (deed.Formed terms) is = refl
making_settles_none deed.Spent is = cc
making_settles_none (deed.Revised terms) is = cc
making_settles_none (deed.Settled valid) is = cc

zero_if : (b : Bool) (n : ℕ) → n ≡ 0 → (if b then n else 0) ≡ 0
zero_if true n e = e
zero_if false n e = refl

settled_once_stays : (id : List ℕ) → Stays (IsSettledOnce id)
settled_once_stays id = record {
  made = λ facts x is new was. no_settlement id facts x (zero_if (bytes_eq x.id id) (is_settlement x.deed) (making_settles_none x.deed is)) (λ terms same runs. was.nothing (ap (is_known facts) (sym (same_text x.id id (sym same))) ∙ new)) was;
  spends = λ facts at was. no_settlement id facts (fact at deed.Spent) (zero_if (bytes_eq at id) 0 refl) (λ terms same runs. absurd (none_some terms runs)) was;
  revises = λ facts at terms new runs was. no_settlement id facts (fact at (deed.Revised new)) (zero_if (bytes_eq at id) 0 refl) (λ now same is. was.running terms (ap (terms_at facts) (sym (same_text at id (sym same))) ∙ runs)) was;
  settles = λ facts at valid terms runs was. settle facts at valid terms runs was (bytes_eq at id) refl;
}
  where
    settle : (facts : List Fact) (at : List ℕ) (valid : Bool) (terms : Terms) → terms_at facts at ≡ Some terms → IsSettledOnce id facts → (b : Bool) → bytes_eq at id ≡ b → IsSettledOnce id (facts ++ fact at (deed.Settled valid) ∷ [])
    settle facts at valid terms runs was false other = no_settlement id facts (fact at (deed.Settled valid)) (ap (λ b. if b then 1 else 0) other) (λ now same is. absurd (none_some now is)) was
    settle facts at valid terms runs was true same =
        let x = fact at (deed.Settled valid) in
        let push = settlements-push id facts x in
        let one : settles_at id x ≡ 1 = ap (λ b. if b then 1 else 0) same in
        let none : settlements id facts ≡ 0 = was.running terms (ap (terms_at facts) (sym (same_text at id (sym same))) ∙ runs) in
        record {
          once = omega (arith, push, one, none);
          running = λ now is. absurd (none_some now (sym (ap terms_in (last-push facts x id ∙ ap (λ b. if b then Some x.deed else last_deed facts id) same)) ∙ is));
          nothing = λ not_known. absurd (true_false (is_known facts id) (sym (known-push facts x id) ∙ not_known));
        }
      where
        true_false : (k : Bool) → (k || bytes_eq at id) ≡ false → ⊥
        true_false k e = both k (bytes_eq at id) same e
          where
            both : (a b : Bool) → b ≡ true → (a || b) ≡ false → ⊥
            both true b is e = cc
            both false true is e = cc
            both false false is e = cc

-- in no chain has a contract two settlements
pub settled_once : (chain : Chain) (id : List ℕ) → settlements id (facts chain) ≤ 1
unfolding settlements
settled_once chain id = (always (IsSettledOnce id) (settled_once_stays id) (record { once = omega arith; running = λ terms is. refl; nothing = λ none. refl }) chain).once
