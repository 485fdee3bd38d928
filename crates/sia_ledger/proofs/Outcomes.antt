-- A contract is settled as valid exactly where a block holds a storage proof for it, and as missed exactly where its end has come and
-- no block up to that one does.
use Rattle.std.proofs.Common.{◌≡◌, ℕ, zero, suc, ◌+◌, ◌<◌, ◌≤◌, Bool, true, false, List, [], ◌∷◌, ◌++◌, length, map, take, refl, ap, sym, ◌∙◌, arith, subst, append_assoc, length-append}
use Rattle.std.specs.Prelude.{◌||◌, ◌&&◌, ◌==◌, ◌↔◌, ◌≢◌, not, fold, nat_lt, nat_eq, Option, Some, None, if◌then◌else◌, is_some}
use Rattle.std.specs.Option.{option_or, option_and_then}
use Rattle.std.specs.List.{list_any}
use Rattle.std.proofs.lemmas.Bool.{ltb-true, ltb-false, eqb-true, eqb-false, not-true}
use Rattle.std.proofs.lemmas.List.{append-nil}
use Rattle.sia_encoding.specs.Firsts.{broken, ◌or_else◌, first_at}
use Rattle.sia_types.specs.declared.block.Block.{Block}
use Rattle.sia_types.specs.declared.coins.CoinInput.{CoinInput}
use Rattle.sia_types.specs.declared.coins.CoinOutput.{CoinOutput}
use Rattle.sia_types.specs.declared.file_contracts.FileContract.{FileContract}
use Rattle.sia_types.specs.declared.file_contracts.Revision.{Revision}
use Rattle.sia_types.specs.declared.file_contracts.StorageProof.{StorageProof}
use Rattle.sia_types.specs.declared.funds.FundInput.{FundInput}
use Rattle.sia_types.specs.declared.funds.FundOutput.{FundOutput}
use Rattle.sia_types.specs.declared.terms.Terms.{Terms}
use Rattle.sia_types.specs.declared.transaction.Transaction.{Transaction}
use Rattle.sia_ids.specs.Identifiers.{payout_id, block_id, genesis_id, genesis_fund_id, new_fund}
use Rattle.sia_ids.specs.Transactions.{coin_id, fund_id, contract_id}
use Rattle.sia_rules.specs.declared.fault.BlockFault.TheVariants as block_fault
use Rattle.sia_rules.specs.Amounts.{subsidy, issued}
use Rattle.sia_rules.specs.FileContracts.{is_ahead, revision_window}
use Rattle.sia_rules.specs.Shape.{names_twice, proof_parents, repeated}
use Rattle.sia_rules.specs.Sums.{fees_of}
use Rattle.sia_rules.proofs.Issue.{issued-more}
use Rattle.sia_ledger.specs.declared.fact.Fact.{Fact}
use Rattle.sia_ledger.specs.declared.fact.Deed.{Deed}
use Rattle.sia_ledger.specs.declared.fact.Deed.TheVariants as deed
use Rattle.sia_ledger.specs.declared.sums.Status.TheVariants as status
use Rattle.sia_ledger.specs.Chain.{Chain, height}
use Rattle.sia_ledger.specs.Facts.{fact, spent, is_known, last_deed, terms_in, terms_at, claim_at}
use Rattle.sia_ledger.specs.State.{State, next, makes, add, add_all, numbered}
use Rattle.sia_ledger.specs.Effects.{formed, revised, settlement_facts, settled_with, settled, with_coin_inputs, with_coin_outputs, with_contracts, revised_with, with_revision, with_revisions, with_proof, with_proofs, claim_facts, with_fund_input, with_fund_inputs, with_fund_outputs, after_transaction}
use Rattle.sia_ledger.specs.Blocks.{facts, ends_at, ending, with_block, with_transactions, with_missed, with_payouts, done_by, after_block, genesis_state, state_of}
use Rattle.sia_ledger.specs.Holdings.{status_in, status_of}
use Rattle.sia_ledger.specs.Bounded.{IsMost}
use Rattle.sia_ledger.specs.Courses.{proves, proves_in, is_proved, final_in, HoldsProof, EndedUnproved}
use Rattle.sia_ledger.specs.Kept.{AllAccepted, IsSound}
use Rattle.sia_ledger.specs.Rules.{no_contract, unprovable, rev_window, coins_in, funds_in}
use Rattle.sia_ledger.specs.Refusal.{transaction_refusal, transactions_refusal, verdict}
use Rattle.sia_ledger.proofs.Held.{or_false}
use Rattle.sia_ledger.proofs.Keeps.{Runs, KeepsTerms, KeepsFunds}
use Rattle.sia_ledger.proofs.Stages.{LiveFunds, AllRevise}
use Rattle.sia_ledger.proofs.Standing.{breaks_none, or_none, unbroken, not-false, and-true, or-false, there}
use Rattle.sia_ledger.proofs.Conserved.{IsWholly, spent_coins, made_coins, formed_contracts, revised_contracts, proved_contracts, spent_funds, transaction_passes, transaction_most, own_most, wholly_most, block_stands, block_whole, genesis_whole, genesis_next, next-more, numbered-new}
use Rattle.sia_ledger.proofs.Course.{Course, CourseAt, past_of, running, course_add, AllLater, AllEndLater, all_later, course_inputs, course_coins, course_contracts, course_revisions, course_funds}
use Rattle.sia_ledger.proofs.Missed.{AllRun, all_run-kept, second, course_proofs, course_fund_inputs, AllEnd, AllMissed, miss_all}
use Rattle.sia_ledger.proofs.Endings.{all_end, is_ending}

all_run : (facts : List Fact) (t i : ℕ) (proofs : List StorageProof) → first_at (unprovable facts t) i proofs ≡ None → AllRun facts proofs
all_run facts t i [] none = tt
all_run facts t i (proof ∷ proofs) none =
    let both = or_none (unprovable facts t i proof) _ none in
    let found = there (terms_at facts proof.parent) (unbroken _ _ both.0) in
    let terms = found.0 in
    ((terms.payout, (terms, found.1, refl)), all_run facts t (i + 1) proofs both.1)

all_end_later : (height : ℕ) (facts : List Fact) (t i : ℕ) (revisions : List Revision) → AllRevise facts revisions → first_at (rev_window height facts t) i revisions ≡ None → AllEndLater height revisions
unfolding revision_window
all_end_later height facts t i [] sound none = tt
all_end_later height facts t i (revision ∷ revisions) ((payout, (terms, runs, pays), valid, missed), sound) none =
    let both = or_none (rev_window height facts t i revision) _ none in
    let test : revision_window height t i terms revision ≡ None = sym (ap (option_and_then (λ (terms : Terms). revision_window height t i terms revision)) runs) ∙ both.0 in
    let ahead = and-true (nat_lt height revision.start) (nat_lt revision.start revision.end) (and-true (nat_lt height terms.start) (is_ahead height revision.start revision.end) (not-false _ (unbroken _ _ test))).1 in
    let low : height ≤ revision.end = omega (arith, ltb-true height revision.start ahead.0, ltb-true revision.start revision.end ahead.1) in
    (low, all_end_later height facts t (i + 1) revisions sound both.1)

-- no two proofs name one contract
proved_once : (t : ℕ) (tx : Transaction) → repeated t tx ≡ None → names_twice (proof_parents tx.proofs) ≡ false
unfolding repeated
proved_once t tx none = (or-false _ (names_twice (proof_parents tx.proofs)) (unbroken _ _ none)).1

pub course_transaction : (accepts : List ℕ → List ℕ → List ℕ → Bool) (maturity : ℕ) (s : State) (t : ℕ) (tx : Transaction) (fees sum : ℕ) (past : Bool → ℕ → Bool) (proved : Bool) (id : List ℕ) → IsMost s fees sum → transaction_refusal accepts s t tx ≡ None → (proves id tx.proofs ≡ true → (end : ℕ) → next s ≤ end → past true end ≡ true) → CourseAt (next s) past proved id s.facts → CourseAt (next s) past (proved || proves id tx.proofs) id (after_transaction maturity s tx).facts
unfolding after_transaction with_coin_inputs with_coin_outputs with_contracts with_revisions with_proofs with_fund_inputs with_fund_outputs
course_transaction accepts maturity s t tx fees sum past proved id was accepted early course =
    let s1 = spent_coins tx s in
    let s2 = made_coins tx s in
    let s3 = formed_contracts tx s in
    let s4 = revised_contracts tx s in
    let s5 = proved_contracts maturity tx s in
    let s6 = spent_funds maturity tx s in
    let all = transaction_passes accepts maturity s t tx fees sum was accepted in
    let rules = breaks_none accepts s t tx accepted in
    let kept : KeepsTerms s.facts s4.facts = λ i payout runs. all.revisions.terms i payout (all.contracts.terms i payout (all.coin_outputs.terms i payout (all.coin_inputs.terms i payout runs))) in
    let c1 : CourseAt (next s) past proved id s1.facts = course_inputs (next s) past proved id tx.coin_inputs s (coins_in s.facts tx) all.stands.coins all.stands.coins_once course in
    let c2 : CourseAt (next s) past proved id s2.facts = course_coins (next s) past proved id (coin_id tx) (next s1) 0 tx.coin_outputs s1 c1 in
    let c3 : CourseAt (next s) past proved id s3.facts = course_contracts (next s) past proved id (contract_id tx) 0 tx.contracts s2 (all_later (next s) t 0 tx.contracts rules.windows) c2 in
    let c4 : CourseAt (next s) past proved id s4.facts = course_revisions (next s) past proved id tx.revisions s3 (all_end_later (next s) s.facts t 0 tx.revisions all.stands.revises rules.rev_windows) c3 in
    let run = all_run-kept s.facts s4.facts tx.proofs kept (all_run s.facts t 0 tx.proofs rules.provable) in
    let c5 : CourseAt (next s) past (proved || proves id tx.proofs) id s5.facts = course_proofs (next s) past proved id maturity tx.proofs s4 run (proved_once t tx rules.once) early c4 in
    let c6 : CourseAt (next s) past (proved || proves id tx.proofs) id s6.facts = course_fund_inputs (next s) past (proved || proves id tx.proofs) id maturity tx.fund_inputs s5 (funds_in s.facts tx) all.live all.stands.funds_once all.proofs.pays c5 in
    course_funds (next s) past (proved || proves id tx.proofs) id (fund_id tx) 0 tx.fund_outputs s6 c6

eqb-refl : (n : ℕ) → (n == n) ≡ true
eqb-refl n = by (n == n) refl
  where
    by : (b : Bool) → (n == n) ≡ b → (n == n) ≡ true
    by true e = e
    by false e = absurd (eqb-false n n e refl)

-- Within a block the identifiers of blocks stay.

pub add_ids : (s : State) (x : Fact) → (add s x).ids ≡ s.ids
unfolding add
add_ids s x = by (makes x.deed && is_known s.facts x.id)
  where
    by : (b : Bool) → (if b then record s { twice = option_or s.twice (Some x.id) } else record s { facts = s.facts ++ x ∷ [] }).ids ≡ s.ids
    by true = refl
    by false = refl

pub each_ids : {X : Type 0} (step : State → X → State) → ((s : State) (x : X) → (step s x).ids ≡ s.ids) → (xs : List X) (s : State) → (fold step s xs).ids ≡ s.ids
each_ids step one [] s = refl
each_ids step one (x ∷ xs) s = each_ids step one xs (step s x) ∙ one s x

pub settled_ids : (from : ℕ) (valid : Bool) (s : State) (contract : List ℕ) → (settled from valid s contract).ids ≡ s.ids
settled_ids from valid s contract = by (terms_at s.facts contract)
  where
    by : (found : Option Terms) → (settled_with from valid s contract found).ids ≡ s.ids
    by None = refl
    by (Some terms) = each_ids add add_ids (fact contract (deed.Settled valid) ∷ settlement_facts from contract valid 0 (if valid then terms.valid else terms.missed)) s

revised_ids : (s : State) (revision : Revision) → (with_revision s revision).ids ≡ s.ids
revised_ids s revision = by (terms_at s.facts revision.parent)
  where
    by : (found : Option Terms) → (revised_with s revision found).ids ≡ s.ids
    by None = refl
    by (Some terms) = add_ids s (fact revision.parent (deed.Revised (revised terms revision)))

pub transaction_ids : (maturity : ℕ) (s : State) (tx : Transaction) → (after_transaction maturity s tx).ids ≡ s.ids
unfolding after_transaction with_coin_inputs with_coin_outputs with_contracts with_revisions with_proofs with_fund_inputs with_fund_outputs
transaction_ids maturity s tx =
    let s1 = with_coin_inputs tx s in
    let s2 = with_coin_outputs tx s1 in
    let s3 = with_contracts tx s2 in
    let s4 = with_revisions tx s3 in
    let s5 = with_proofs maturity tx s4 in
    let s6 = with_fund_inputs maturity tx s5 in
    each_ids add add_ids (numbered (λ i (output : FundOutput). fact (fund_id tx i) (deed.Fund output)) 0 tx.fund_outputs) s6
    ∙ each_ids (with_fund_input maturity) (λ u (input : FundInput). each_ids add add_ids (spent input.parent ∷ claim_facts (next u + maturity) input (claim_at u.facts input.parent)) u) tx.fund_inputs s5
    ∙ each_ids (with_proof maturity) (λ u proof. settled_ids (next u + maturity) true u proof.parent) tx.proofs s4
    ∙ each_ids with_revision revised_ids tx.revisions s3
    ∙ each_ids add add_ids (numbered (λ i (contract : FileContract). fact (contract_id tx i) (deed.Formed (formed contract))) 0 tx.contracts) s2
    ∙ each_ids add add_ids (numbered (λ i (output : CoinOutput). fact (coin_id tx i) (deed.Coin output (next s1))) 0 tx.coin_outputs) s1
    ∙ each_ids add add_ids (map (λ (input : CoinInput). spent input.parent) tx.coin_inputs) s

-- Blocks.

or_assoc : (a b c : Bool) → ((a || b) || c) ≡ (a || (b || c))
or_assoc true b c = refl
or_assoc false b c = refl

course_transactions : (accepts : List ℕ → List ℕ → List ℕ → Bool) (maturity : ℕ) (t : ℕ) (txs : List Transaction) (s : State) (fees sum low : ℕ) (past : Bool → ℕ → Bool) (proved : Bool) (id : List ℕ) → next s ≡ low → IsMost s fees sum → transactions_refusal accepts maturity s t txs ≡ None → (proves_in id txs ≡ true → (end : ℕ) → low ≤ end → past true end ≡ true) → CourseAt low past proved id s.facts → CourseAt low past (proved || proves_in id txs) id (fold (after_transaction maturity) s txs).facts
unfolding transactions_refusal
course_transactions accepts maturity t [] s fees sum low past proved id at was accepted early course = subst (λ p. CourseAt low past p id s.facts) (sym (or_false proved)) course
course_transactions accepts maturity t (tx ∷ txs) s fees sum low past proved id at was accepted early course =
    let both = or_none (transaction_refusal accepts s t tx) _ accepted in
    let s1 = after_transaction maturity s tx in
    let first : proves id tx.proofs ≡ true → (end : ℕ) → next s ≤ end → past true end ≡ true = λ e end from. early (ap (λ b. b || proves_in id txs) e) end (subst (λ l. l ≤ end) at from) in
    let one = course_transaction accepts maturity s t tx fees sum past proved id was both.0 first (subst (λ l. CourseAt l past proved id s.facts) (sym at) course) in
    let here : CourseAt low past (proved || proves id tx.proofs) id s1.facts = subst (λ l. CourseAt l past (proved || proves id tx.proofs) id s1.facts) at one in
    let at1 : next s1 ≡ low = ap (λ (ids : List (List ℕ)). length ids) (transaction_ids maturity s tx) ∙ at in
    let rest = course_transactions accepts maturity (t + 1) txs s1 (fees + fees_of tx) sum low past (proved || proves id tx.proofs) id at1 (transaction_most accepts maturity s t tx fees sum was both.0) both.1 (λ e. early (second (proves id tx.proofs) (proves_in id txs) e)) here in
    subst (λ p. CourseAt low past p id (fold (after_transaction maturity) s1 txs).facts) (or_assoc proved (proves id tx.proofs) (proves_in id txs)) rest

pub course_weaker : (low : ℕ) (before after : Bool → ℕ → Bool) (proved : Bool) (final : Option Terms) (found : Option Deed) → ((valid : Bool) (end : ℕ) → before valid end ≡ true → after valid end ≡ true) → Course low before proved final found → Course low after proved final found
course_weaker low before after proved final None kept c = c
course_weaker low before after proved final (Some deed.Block) kept c = c
course_weaker low before after proved final (Some (deed.Coin output from)) kept c = c
course_weaker low before after proved final (Some (deed.Fund output)) kept c = c
course_weaker low before after proved final (Some (deed.Formed t)) kept c = c
course_weaker low before after proved final (Some deed.Spent) kept c = c
course_weaker low before after proved final (Some (deed.Revised t)) kept c = c
course_weaker low before after proved final (Some (deed.Settled valid)) kept (is, (terms, last, passed)) = (is, (terms, last, kept valid terms.end passed))

course_raised : (low higher : ℕ) (past : Bool → ℕ → Bool) (proved : Bool) (final : Option Terms) (found : Option Deed) → ((terms : Terms) → terms_in found ≡ Some terms → higher ≤ terms.end) → Course low past proved final found → Course higher past proved final found
course_raised low higher past proved final None up c = c
course_raised low higher past proved final (Some deed.Block) up c = c
course_raised low higher past proved final (Some (deed.Coin output from)) up c = c
course_raised low higher past proved final (Some (deed.Fund output)) up c = c
course_raised low higher past proved final (Some (deed.Formed t)) up c = (c.0, up t refl, c.2)
course_raised low higher past proved final (Some deed.Spent) up c = c
course_raised low higher past proved final (Some (deed.Revised t)) up c = (c.0, up t refl, c.2)
course_raised low higher past proved final (Some (deed.Settled valid)) up c = c

ends_true : (height : ℕ) (found : Option Terms) (terms : Terms) → found ≡ Some terms → terms.end ≡ height → ends_at height found ≡ true
ends_true height found terms is e = ap (ends_at height) is ∙ ap (λ n. n == height) e ∙ eqb-refl height

-- A block at a height leaves what has come to pass; one that holds a proof proves by that height, and the ends at it have come.
pub record Passes (before after : Bool → ℕ → Bool) (height : ℕ) (proves_here : Bool) : Type 0 where
  pub kept : (valid : Bool) (end : ℕ) → before valid end ≡ true → after valid end ≡ true
  pub proved : proves_here ≡ true → (end : ℕ) → height ≤ end → after true end ≡ true
  pub ended : after false height ≡ true

pub course_block : (accepts : List ℕ → List ℕ → List ℕ → Bool) (maturity : ℕ) (s : State) (block : Block) (sum height : ℕ) (before after : Bool → ℕ → Bool) (proved : Bool) (id : List ℕ) → Passes before after (height + 1) (proves_in id block.transactions) → next s ≡ height + 1 → IsWholly s sum → verdict accepts maturity s block ≡ None → CourseAt (height + 1) before proved id s.facts → CourseAt (height + 1 + 1) after (proved || proves_in id block.transactions) id (after_block maturity s block).facts
unfolding after_block done_by with_block with_transactions with_missed with_payouts
course_block accepts maturity s block sum height before after proved id passes at was accepted course =
    let stands = block_stands accepts maturity s block accepted in
    let x = fact (block_id block) deed.Block in
    let s0 : State = record s { twice = None } in
    let s1 = with_block block s in
    let s2 = with_transactions maturity block.transactions s1 in
    let s3 = with_missed maturity s2 in
    let low = height + 1 in
    let p = proved || proves_in id block.transactions in
    let most1 : IsMost s1 0 sum = own_most s block sum (wholly_most s sum was) was.whole in
    let at1 : next s1 ≡ low = ap (λ (ids : List (List ℕ)). length ids) (add_ids s0 x) ∙ at in
    let at2 : next s2 ≡ low = ap (λ (ids : List (List ℕ)). length ids) (each_ids (after_transaction maturity) (transaction_ids maturity) block.transactions s1) ∙ at1 in
    let c0 : CourseAt low after proved id s0.facts = course_weaker low before after proved (final_in s.facts id) (last_deed s.facts id) passes.kept course in
    let c1 : CourseAt low after proved id s1.facts = course_add low after proved id s0 x refl (λ final none unproved. (unproved, none)) c0 in
    let c2 : CourseAt low after p id s2.facts = course_transactions accepts maturity 0 block.transactions s1 0 sum low after proved id at1 most1 stands.each passes.proved c1 in
    let ends : AllEnd (after false) s2.facts (ending (next s2) s2.facts) = all_end (after false) (next s2) s2.facts (ap (after false) at2 ∙ passes.ended) in
    let missed : AllMissed low after p id s2 s3 (ending (next s2) s2.facts) = miss_all low after p id (next s2 + maturity) (ending (next s2) s2.facts) s2 ends c2 in
    let up : (terms : Terms) → terms_at s3.facts id ≡ Some terms → low + 1 ≤ terms.end = λ terms runs. by terms (running low after p (final_in s3.facts id) (last_deed s3.facts id) terms runs missed.course).1 (λ e. missed.gone (is_ending (next s2) id s2.facts ∙ ends_true (next s2) (terms_at s2.facts id) terms (missed.back id terms runs) (e ∙ sym at2)) terms runs) in
    let c3 : CourseAt (low + 1) after p id s3.facts = course_raised low (low + 1) after p (final_in s3.facts id) (last_deed s3.facts id) up missed.course in
    course_coins (low + 1) after p id (payout_id (block_id block)) (next s3 + maturity) 0 block.payouts s3 c3
  where
    by : (terms : Terms) → height + 1 ≤ terms.end → (terms.end ≡ height + 1 → ⊥) → height + 1 + 1 ≤ terms.end
    by terms low not_now = cases (terms.end == height + 1) refl
      where
        cases : (b : Bool) → (terms.end == height + 1) ≡ b → height + 1 + 1 ≤ terms.end
        cases true e = absurd (not_now (eqb-true terms.end (height + 1) e))
        cases false e = let differ : terms.end ≢ height + 1 = λ same. true_false (sym (ap (λ n. n == height + 1) same ∙ eqb-refl (height + 1)) ∙ e) in omega (arith, low, differ)
          where
            true_false : true ≡ false → ⊥
            true_false e = cc

proved_more : (id : List ℕ) (end : ℕ) (blocks : List Block) (block : Block) → is_proved id (take end blocks) ≡ true → is_proved id (take end (blocks ++ block ∷ [])) ≡ true
proved_more id zero blocks block e = cc
proved_more id (suc end) [] block e = cc
proved_more id (suc end) (first ∷ rest) block e = by (proves_in id first.transactions) (proved_more id end rest block) e
  where
    by : (b : Bool) → (is_proved id (take end rest) ≡ true → is_proved id (take end (rest ++ block ∷ [])) ≡ true) → (b || is_proved id (take end rest)) ≡ true → (b || is_proved id (take end (rest ++ block ∷ []))) ≡ true
    by true more e = refl
    by false more e = more e

proved_now : (id : List ℕ) (end : ℕ) (blocks : List Block) (block : Block) → proves_in id block.transactions ≡ true → length blocks + 1 ≤ end → is_proved id (take end (blocks ++ block ∷ [])) ≡ true
proved_now id zero blocks block e from = absurd (omega (arith, from))
proved_now id (suc end) [] block e from = ap (λ b. b || is_proved id (take end [])) e
proved_now id (suc end) (first ∷ rest) block e from =
    let later : length rest + 1 ≤ end = omega (arith, from) in
    second (proves_in id first.transactions) (is_proved id (take end (rest ++ block ∷ []))) (proved_now id end rest block e later)

not_below : (n end : ℕ) → end ≤ n → not (nat_lt n end) ≡ true
not_below n end low = by (nat_lt n end) refl
  where
    by : (b : Bool) → nat_lt n end ≡ b → not (nat_lt n end) ≡ true
    by true e = let high : n < end = ltb-true n end e in absurd (omega (arith, high, low))
    by false e = ap not e

passes_on : (id : List ℕ) (blocks : List Block) (block : Block) (height : ℕ) → length blocks ≡ height → Passes (past_of id blocks) (past_of id (blocks ++ block ∷ [])) (height + 1) (proves_in id block.transactions)
passes_on id blocks block height count =
    let more : length (blocks ++ block ∷ []) ≡ height + 1 = length-append blocks (block ∷ []) ∙ ap (λ n. n + 1) count in
    record {
      kept = by more;
      proved = λ e end from. proved_now id end blocks block e (subst (λ n. n + 1 ≤ end) (sym count) from);
      ended = not_below (length (blocks ++ block ∷ [])) (height + 1) (omega (arith, more));
    }
  where
    by : length (blocks ++ block ∷ []) ≡ height + 1 → (valid : Bool) (end : ℕ) → past_of id blocks valid end ≡ true → past_of id (blocks ++ block ∷ []) valid end ≡ true
    by more true end e = proved_more id end blocks block e
    by more false end e = not_below (length (blocks ++ block ∷ [])) end (let low = ltb-false (length blocks) end (not-true _ e) in omega (arith, low, more, count))

course_blocks : (maturity : ℕ) (earlier blocks : List Block) (s : State) (height : ℕ) (proved : Bool) (id : List ℕ) → length earlier ≡ height → next s ≡ height + 1 → IsWholly s (issued height) → AllAccepted maturity s blocks → CourseAt (height + 1) (past_of id earlier) proved id s.facts → CourseAt (height + length blocks + 1) (past_of id (earlier ++ blocks)) (proved || is_proved id blocks) id (fold (after_block maturity) s blocks).facts
course_blocks maturity earlier [] s height proved id count at was accepted course =
    let here : height + 0 ≡ height = omega arith in
    subst (λ p. CourseAt (height + 0 + 1) (past_of id (earlier ++ [])) p id s.facts) (sym (or_false proved))
    (subst (λ h. CourseAt (h + 1) (past_of id (earlier ++ [])) proved id s.facts) (sym here)
    (subst (λ bs. CourseAt (height + 1) (past_of id bs) proved id s.facts) (sym (append-nil earlier)) course))
course_blocks maturity earlier (block ∷ blocks) s height proved id count at was ((accepts, accepted), rest) course =
    let s1 = after_block maturity s block in
    let one = course_block accepts maturity s block (issued height) height (past_of id earlier) (past_of id (earlier ++ block ∷ [])) proved id (passes_on id earlier block height count) at was accepted course in
    let more : issued height + subsidy (next s) ≡ issued (height + 1) = ap (λ n. issued height + subsidy n) at ∙ sym (issued-more height) in
    let whole : IsWholly s1 (issued (height + 1)) = subst (IsWholly s1) more (block_whole accepts maturity s block (issued height) was accepted) in
    let at1 : next s1 ≡ height + 1 + 1 = next-more maturity s block ∙ ap (λ n. n + 1) at in
    let count1 : length (earlier ++ block ∷ []) ≡ height + 1 = length-append earlier (block ∷ []) ∙ ap (λ n. n + 1) count in
    let later = course_blocks maturity (earlier ++ block ∷ []) blocks s1 (height + 1) (proved || proves_in id block.transactions) id count1 at1 whole rest one in
    let last : height + 1 + length blocks ≡ height + length (block ∷ blocks) = omega arith in
    let end = fold (after_block maturity) s1 blocks in
    subst (λ h. CourseAt (h + 1) (past_of id (earlier ++ block ∷ blocks)) (proved || is_proved id (block ∷ blocks)) id end.facts) last
    (subst (λ q. CourseAt (height + 1 + length blocks + 1) (past_of id (earlier ++ block ∷ blocks)) q id end.facts) (or_assoc proved (proves_in id block.transactions) (is_proved id blocks))
    (subst (λ bs. CourseAt (height + 1 + length blocks + 1) (past_of id bs) ((proved || proves_in id block.transactions) || is_proved id blocks) id end.facts) (append_assoc earlier (block ∷ []) blocks) later))

pub course_genesis : (past : Bool → ℕ → Bool) (funds : List FundOutput) (id : List ℕ) → CourseAt 1 past false id (genesis_state funds).facts
unfolding genesis_state
course_genesis past funds id =
    let empty : State = record { ids = genesis_id funds ∷ []; facts = []; twice = None } in
    let x = fact (genesis_id funds) deed.Block in
    let first : CourseAt 1 past false id (add empty x).facts = course_add 1 past false id empty x refl (λ final none unproved. (unproved, none)) (refl, refl) in
    subst (λ (t : State). CourseAt 1 past false id t.facts) (sym (ap (add_all (add empty x)) (numbered-new (genesis_fund_id (genesis_id funds)) 0 funds))) (course_funds 1 past false id (genesis_fund_id (genesis_id funds)) 0 (map new_fund funds) (add empty x) first)

pub course_of : (chain : Chain) → IsSound chain → (id : List ℕ) → CourseAt (height chain + 1) (past_of id chain.blocks) (is_proved id chain.blocks) id (facts chain)
unfolding state_of
course_of chain sound id =
    let all = course_blocks chain.maturity [] chain.blocks (genesis_state chain.funds) 0 false id refl (genesis_next chain.funds) (genesis_whole chain.funds sound.funds sound.new) sound.accepted (course_genesis (past_of id []) chain.funds id) in
    let at : 0 + length chain.blocks ≡ length chain.blocks = omega arith in
    subst (λ h. CourseAt (h + 1) (past_of id chain.blocks) (is_proved id chain.blocks) id (fold (after_block chain.maturity) (genesis_state chain.funds) chain.blocks).facts) at all

-- valid exactly where a block holds a proof
valid_from : (low : ℕ) (past : Bool → ℕ → Bool) (proved : Bool) (final : Option Terms) (found : Option Deed) → Course low past proved final found → (status_in found ≡ status.Valid → proved ≡ true) × (proved ≡ true → status_in found ≡ status.Valid)
valid_from low past proved final None c = (λ e. cc, λ e. absurd (both proved e c.0))
  where
    both : (b : Bool) → b ≡ true → b ≡ false → ⊥
    both true e f = cc
    both false e f = cc
valid_from low past proved final (Some deed.Block) c = (λ e. cc, λ e. let f = c.0 in cc)
valid_from low past proved final (Some (deed.Coin output from)) c = (λ e. cc, λ e. let f = c.0 in cc)
valid_from low past proved final (Some (deed.Fund output)) c = (λ e. cc, λ e. let f = c.0 in cc)
valid_from low past proved final (Some (deed.Formed t)) c = (λ e. cc, λ e. let f = c.2 in cc)
valid_from low past proved final (Some deed.Spent) c = (λ e. cc, λ e. let f = c.0 in cc)
valid_from low past proved final (Some (deed.Revised t)) c = (λ e. cc, λ e. let f = c.2 in cc)
valid_from low past proved final (Some (deed.Settled valid)) c = by valid c.0
  where
    by : (v : Bool) → proved ≡ v → ((if v then status.Valid else status.Missed) ≡ status.Valid → proved ≡ true) × (proved ≡ true → (if v then status.Valid else status.Missed) ≡ status.Valid)
    by true is = (λ e. is, λ e. refl)
    by false is = (λ e. cc, λ e. cc)

pub settled_valid : (chain : Chain) → IsSound chain → (id : List ℕ) → (status_of chain id ≡ status.Valid) ↔ HoldsProof chain id
settled_valid chain sound id = valid_from (height chain + 1) (past_of id chain.blocks) (is_proved id chain.blocks) (final_in (facts chain) id) (last_deed (facts chain) id) (course_of chain sound id)

-- no block up to a height holds a proof where none of all does
unproved_by : (id : List ℕ) (end : ℕ) (blocks : List Block) → is_proved id blocks ≡ false → is_proved id (take end blocks) ≡ false
unproved_by id zero blocks e = refl
unproved_by id (suc end) [] e = refl
unproved_by id (suc end) (block ∷ blocks) e = by (proves_in id block.transactions) (unproved_by id end blocks) e
  where
    by : (b : Bool) → (is_proved id blocks ≡ false → is_proved id (take end blocks) ≡ false) → (b || is_proved id blocks) ≡ false → (b || is_proved id (take end blocks)) ≡ false
    by true less e = cc
    by false less e = less e

-- missed exactly where its end has come and no block up to that one holds a proof

-- its end has come, and no block up to that one holds a proof
abbrev IsOver : List ℕ → List Block → Option Terms → Type 0
IsOver id blocks final = (terms : Terms) × (final ≡ Some terms) × (terms.end ≤ length blocks) × (is_proved id (take terms.end blocks) ≡ false)

-- what runs isn't over
runs_on : (id : List ℕ) (blocks : List Block) (final : Option Terms) (t : Terms) → final ≡ Some t → length blocks + 1 ≤ t.end → IsOver id blocks final → ⊥
runs_on id blocks final t is low (terms, last, ended, unproved) =
    let both : Some t ≡ Some terms = sym is ∙ last in
    let same : t ≡ terms = cc in
    let end : t.end ≡ terms.end = ap (λ (x : Terms). x.end) same in
    omega (arith, end, low, ended)

missed_from : (id : List ℕ) (blocks : List Block) (final : Option Terms) (found : Option Deed) → Course (length blocks + 1) (past_of id blocks) (is_proved id blocks) final found → (status_in found ≡ status.Missed → IsOver id blocks final) × (IsOver id blocks final → status_in found ≡ status.Missed)
missed_from id blocks final None c = (λ e. cc, λ h. let n = c.1 in let f = h.1 in cc)
missed_from id blocks final (Some deed.Block) c = (λ e. cc, λ h. let n = c.1 in let f = h.1 in cc)
missed_from id blocks final (Some (deed.Coin output from)) c = (λ e. cc, λ h. let n = c.1 in let f = h.1 in cc)
missed_from id blocks final (Some (deed.Fund output)) c = (λ e. cc, λ h. let n = c.1 in let f = h.1 in cc)
missed_from id blocks final (Some deed.Spent) c = (λ e. cc, λ h. let n = c.1 in let f = h.1 in cc)
missed_from id blocks final (Some (deed.Formed t)) c = (λ e. cc, λ h. absurd (runs_on id blocks final t c.0 c.1 h))
missed_from id blocks final (Some (deed.Revised t)) c = (λ e. cc, λ h. absurd (runs_on id blocks final t c.0 c.1 h))
missed_from id blocks final (Some (deed.Settled valid)) (proved, (t, is, passed)) = by valid proved passed
  where
    by : (v : Bool) → is_proved id blocks ≡ v → past_of id blocks v t.end ≡ true → ((if v then status.Valid else status.Missed) ≡ status.Missed → IsOver id blocks final) × (IsOver id blocks final → (if v then status.Valid else status.Missed) ≡ status.Missed)
    by true proved passed = (λ e. cc, λ h. absurd (in_time h))
      where
        in_time : IsOver id blocks final → ⊥
        in_time (terms, last, ended, unproved) =
            let both : Some t ≡ Some terms = sym is ∙ last in
            let same : t ≡ terms = cc in
            let now : is_proved id (take terms.end blocks) ≡ true = ap (λ (x : Terms). is_proved id (take x.end blocks)) (sym same) ∙ passed in
            let never : true ≡ false = sym now ∙ unproved in
            cc
    by false proved passed = (λ e. (t, is, ltb-false (length blocks) t.end (not-true _ passed), unproved_by id t.end blocks proved), λ h. refl)

pub settled_missed : (chain : Chain) → IsSound chain → (id : List ℕ) → (status_of chain id ≡ status.Missed) ↔ EndedUnproved chain id
settled_missed chain sound id = missed_from id chain.blocks (final_in (facts chain) id) (last_deed (facts chain) id) (course_of chain sound id)
