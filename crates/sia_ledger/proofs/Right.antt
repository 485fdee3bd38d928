-- Each storage proof of a chain is inside the window of its contract's terms, and correct where these store something.
use Rattle.std.proofs.Common.{◌≡◌, ℕ, ◌+◌, ◌<◌, ◌≤◌, Bool, true, false, List, [], ◌∷◌, ◌++◌, length, refl, ap, sym, ◌∙◌, arith, subst}
use Rattle.std.specs.Prelude.{◌||◌, ◌&&◌, ◌==◌, ◌≢◌, not, fold, nat_lt, Option, Some, None}
use Rattle.std.specs.Option.{option_and_then}
use Rattle.std.specs.Str.{bytes_eq}
use Rattle.std.specs.Cmp.Lexicographic.{same_text}
use Rattle.std.proofs.lemmas.Bool.{ltb-false, eqb-true}
use Rattle.sia_encoding.specs.Firsts.{broken, first_at}
use Rattle.sia_merkle.specs.Computations.{hash_of}
use Rattle.sia_merkle.specs.Paths.{IsCorrect, leaf_tree, path_of}
use Rattle.sia_merkle.specs.Roots.{leaf_count}
use Rattle.sia_types.specs.declared.block.Block.{Block}
use Rattle.sia_types.specs.declared.file_contracts.StorageProof.{StorageProof}
use Rattle.sia_types.specs.declared.terms.Terms.{Terms}
use Rattle.sia_types.specs.declared.transaction.Transaction.{Transaction}
use Rattle.sia_ids.specs.Identifiers.{block_id}
use Rattle.sia_rules.specs.declared.fault.BlockFault.TheVariants as block_fault
use Rattle.sia_rules.specs.Amounts.{subsidy, issued}
use Rattle.sia_rules.specs.Sums.{fees_of}
use Rattle.sia_rules.proofs.Issue.{issued-more}
use Rattle.sia_ledger.specs.declared.fact.Fact.{Fact}
use Rattle.sia_ledger.specs.declared.fact.Deed.TheVariants as deed
use Rattle.sia_ledger.specs.Bounded.{IsMost}
use Rattle.sia_ledger.specs.Chain.{Chain}
use Rattle.sia_ledger.specs.Courses.{final_in, proves, proves_in, IsRight, ProofsAreRight, TransactionsAreRight, BlocksAreRight, EachProofIsRight}
use Rattle.sia_ledger.specs.Facts.{fact, last_deed, terms_at}
use Rattle.sia_ledger.specs.State.{State, next, add}
use Rattle.sia_ledger.specs.Effects.{after_transaction}
use Rattle.sia_ledger.specs.Blocks.{with_block, after_block, genesis_state}
use Rattle.sia_ledger.specs.Kept.{AllAccepted, IsSound}
use Rattle.sia_ledger.specs.Rules.{unprovable, proof_window, bad_proof, is_correct, is_unproved, place_to_prove}
use Rattle.sia_ledger.specs.Refusal.{transaction_refusal, transactions_refusal, verdict}
use Rattle.sia_ledger.proofs.Conserved.{IsWholly, wholly_most, own_most, transaction_most, block_stands, block_whole, genesis_whole, genesis_next, next-more}
use Rattle.sia_ledger.proofs.Course.{CourseAt, running, course_add}
use Rattle.sia_ledger.proofs.Outcomes.{add_ids, transaction_ids, course_transaction, course_block, course_genesis}
use Rattle.sia_ledger.proofs.Standing.{breaks_none, or_none, unbroken, not-false, and-true, there}

-- anything may have come to pass
abbrev anything : Bool → ℕ → Bool
anything valid end = true

-- how each contract stands, whatever proofs were held for it
abbrev AllCourse : ℕ → List Fact → Type 0
AllCourse low facts = (id : List ℕ) → (proved : Bool) × CourseAt low anything proved id facts

-- the hashes join the leaf to the root, and each is used
pub correct_is : (root : List ℕ) (size place : ℕ) (leaf : List ℕ) (hashes : List (List ℕ)) → is_correct root size place leaf hashes ≡ true → IsCorrect root size place leaf hashes
correct_is root size place leaf hashes e =
    let both = and-true (length hashes == length (path_of (leaf_count size) place)) (bytes_eq (hash_of (leaf_tree size place leaf hashes)) root) e in
    record { used = eqb-true (length hashes) (length (path_of (leaf_count size) place)) both.0; joined = same_text (hash_of (leaf_tree size place leaf hashes)) root (sym both.1) }

proved_right : (ids : List (List ℕ)) (proof : StorageProof) (terms : Terms) → is_unproved ids proof terms ≡ false → terms.size ≢ 0 → IsCorrect terms.root terms.size (place_to_prove ids terms proof.parent) proof.leaf proof.hashes
proved_right ids proof terms e some = by (terms.size == 0) refl (is_correct terms.root terms.size (place_to_prove ids terms proof.parent) proof.leaf proof.hashes) refl e
  where
    by : (b : Bool) → (terms.size == 0) ≡ b → (c : Bool) → is_correct terms.root terms.size (place_to_prove ids terms proof.parent) proof.leaf proof.hashes ≡ c → (not b && not c) ≡ false → IsCorrect terms.root terms.size (place_to_prove ids terms proof.parent) proof.leaf proof.hashes
    by true none c is e = absurd (some (eqb-true terms.size 0 none))
    by false stored true is e = correct_is terms.root terms.size (place_to_prove ids terms proof.parent) proof.leaf proof.hashes is
    by false stored false is e = cc

proofs_right : (s : State) (t i : ℕ) (proofs : List StorageProof) → AllCourse (next s) s.facts → first_at (unprovable s.facts t) i proofs ≡ None → first_at (proof_window (next s) s.facts t) i proofs ≡ None → first_at (bad_proof s t) i proofs ≡ None → ProofsAreRight s proofs
proofs_right s t i [] course none windows right = tt
proofs_right s t i (proof ∷ proofs) course none windows right =
    let both = or_none (unprovable s.facts t i proof) _ none in
    let window = or_none (proof_window (next s) s.facts t i proof) _ windows in
    let proved = or_none (bad_proof s t i proof) _ right in
    let found = there (terms_at s.facts proof.parent) (unbroken _ _ both.0) in
    let terms = found.0 in
    let begun : broken (nat_lt (next s) terms.start) (block_fault.ProofWindow t i terms.start) ≡ None = sym (ap (option_and_then (λ (terms : Terms). broken (nat_lt (next s) terms.start) (block_fault.ProofWindow t i terms.start))) found.1) ∙ window.0 in
    let joined : broken (is_unproved s.ids proof terms) (block_fault.BadProof t i) ≡ None = sym (ap (option_and_then (λ (terms : Terms). broken (is_unproved s.ids proof terms) (block_fault.BadProof t i))) found.1) ∙ proved.0 in
    let low = ltb-false (next s) terms.start (unbroken _ _ begun) in
    let at = course proof.parent in
    let last = running (next s) anything at.0 (final_in s.facts proof.parent) (last_deed s.facts proof.parent) terms found.1 at.1 in
    (record { terms = terms; runs = found.1; begun = low; going_on = last.1; correct = proved_right s.ids proof terms (unbroken _ _ joined) }, proofs_right s t (i + 1) proofs course both.1 window.1 proved.1)

transactions_right : (accepts : List ℕ → List ℕ → List ℕ → Bool) (maturity t : ℕ) (txs : List Transaction) (s : State) (fees sum low : ℕ) → next s ≡ low → IsMost s fees sum → transactions_refusal accepts maturity s t txs ≡ None → AllCourse low s.facts → TransactionsAreRight maturity s txs
unfolding transactions_refusal
transactions_right accepts maturity t [] s fees sum low at was accepted course = tt
transactions_right accepts maturity t (tx ∷ txs) s fees sum low at was accepted course =
    let both = or_none (transaction_refusal accepts s t tx) _ accepted in
    let rules = breaks_none accepts s t tx both.0 in
    let s1 = after_transaction maturity s tx in
    let here : AllCourse (next s) s.facts = subst (λ l. AllCourse l s.facts) (sym at) course in
    let at1 : next s1 ≡ low = ap (λ (ids : List (List ℕ)). length ids) (transaction_ids maturity s tx) ∙ at in
    let later : AllCourse low s1.facts = subst (λ l. AllCourse l s1.facts) at (λ id. let was_there = here id in (was_there.0 || proves id tx.proofs, course_transaction accepts maturity s t tx fees sum anything was_there.0 id was both.0 (λ e end from. refl) was_there.1)) in
    (proofs_right s t 0 tx.proofs here rules.provable rules.proof_windows rules.right, transactions_right accepts maturity (t + 1) txs s1 (fees + fees_of tx) sum low at1 (transaction_most accepts maturity s t tx fees sum was both.0) both.1 later)

block_right : (accepts : List ℕ → List ℕ → List ℕ → Bool) (maturity : ℕ) (s : State) (block : Block) (sum height : ℕ) → next s ≡ height + 1 → IsWholly s sum → verdict accepts maturity s block ≡ None → AllCourse (height + 1) s.facts → TransactionsAreRight maturity (with_block block s) block.transactions
unfolding with_block
block_right accepts maturity s block sum height at was accepted course =
    let stands = block_stands accepts maturity s block accepted in
    let x = fact (block_id block) deed.Block in
    let s0 : State = record s { twice = None } in
    let low = height + 1 in
    let at1 : next (add s0 x) ≡ low = ap (λ (ids : List (List ℕ)). length ids) (add_ids s0 x) ∙ at in
    let here : AllCourse low (add s0 x).facts = λ id. let was_there = course id in (was_there.0, course_add low anything was_there.0 id s0 x refl (λ final none unproved. (unproved, none)) was_there.1) in
    transactions_right accepts maturity 0 block.transactions (add s0 x) 0 sum low at1 (own_most s block sum (wholly_most s sum was) was.whole) stands.each here

blocks_right : (maturity : ℕ) (blocks : List Block) (s : State) (height : ℕ) → next s ≡ height + 1 → IsWholly s (issued height) → AllAccepted maturity s blocks → AllCourse (height + 1) s.facts → BlocksAreRight maturity s blocks
blocks_right maturity [] s height at was accepted course = tt
blocks_right maturity (block ∷ blocks) s height at was ((accepts, accepted), rest) course =
    let s1 = after_block maturity s block in
    let more : issued height + subsidy (next s) ≡ issued (height + 1) = ap (λ n. issued height + subsidy n) at ∙ sym (issued-more height) in
    let whole : IsWholly s1 (issued (height + 1)) = subst (IsWholly s1) more (block_whole accepts maturity s block (issued height) was accepted) in
    let at1 : next s1 ≡ height + 1 + 1 = next-more maturity s block ∙ ap (λ n. n + 1) at in
    let later : AllCourse (height + 1 + 1) s1.facts = λ id. let was_there = course id in (was_there.0 || proves_in id block.transactions, course_block accepts maturity s block (issued height) height anything anything was_there.0 id (record { kept = λ valid end e. refl; proved = λ e end from. refl; ended = refl }) at was accepted was_there.1) in
    (block_right accepts maturity s block (issued height) height at was accepted course, blocks_right maturity blocks s1 (height + 1) at1 whole rest later)

-- each storage proof of a chain is right
pub each_proof_right : (chain : Chain) → IsSound chain → EachProofIsRight chain
each_proof_right chain sound =
    blocks_right chain.maturity chain.blocks (genesis_state chain.funds) 0 (genesis_next chain.funds) (genesis_whole chain.funds sound.funds sound.new) sound.accepted (λ id. (false, course_genesis anything chain.funds id))
