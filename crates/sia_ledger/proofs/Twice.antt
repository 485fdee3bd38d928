-- Where a block makes an identifier a second time, two different texts of the chain have one digest.
use Rattle.std.proofs.Common.{◌≡◌, ℕ, ◌+◌, ◌-◌, ◌^◌, ◌<◌, ◌≤◌, Bool, true, false, List, [], ◌∷◌, ◌++◌, length, map, refl, ap, sym, ◌∙◌, subst, arith, inl, inr, zero-add}
use Rattle.std.specs.Prelude.{◌||◌, ◌==◌, ◌⊎◌, ◌≢◌, codes, fold, not, Option, Some, None, Result, Ok, Err, IfErr, IfSome}
use Rattle.std.specs.List.{All}
use Rattle.std.specs.Str.{bytes_eq}
use Rattle.std.proofs.lemmas.List.Elements.{All-head, All-tail}
use Rattle.std.specs.Cmp.Lexicographic.{same_text}
use Rattle.sia_encoding.specs.Answer.{Answers, unless}
use Rattle.sia_encoding.specs.Firsts.{broken, first_at}
use Rattle.sia_encoding.proofs.Answering.{unless_err}
use Rattle.std.proofs.lemmas.List.{append_cancel_left}
use Rattle.sia_encoding.specs.Spelling.{label, spelled_u64, spelled_list}
use Rattle.sia_types.specs.declared.block.Block.{Block}
use Rattle.sia_types.specs.declared.funds.FundOutput.{FundOutput}
use Rattle.sia_types.specs.declared.transaction.Transaction.{Transaction}
use Rattle.sia_types.specs.Funds.{fund_output}
use Rattle.sia_ids.specs.Identifiers.{AreSized, new_fund, block_id, genesis_text, genesis_id, genesis_fund_text, genesis_fund_id}
use Rattle.sia_ids.specs.Transactions.{made_text}
use Rattle.sia_rules.specs.declared.fault.BlockFault.{BlockFault}
use Rattle.sia_rules.specs.declared.fault.BlockFault.TheVariants as block_fault
use Rattle.sia_rules.specs.Answers.{block_told}
use Rattle.sia_rules.specs.Amounts.{subsidy, issued}
use Rattle.sia_rules.specs.Sums.{fund_sum}
use Rattle.sia_rules.specs.Values.{bad_value}
use Rattle.sia_rules.proofs.Issue.{issued-more}
use Rattle.sia_ledger.specs.declared.fact.Fact.{Fact}
use Rattle.sia_ledger.specs.declared.fact.Deed.TheVariants as deed
use Rattle.sia_ledger.specs.Chain.{Chain, height, extended}
use Rattle.sia_ledger.specs.Facts.{fact, is_known}
use Rattle.sia_ledger.specs.State.{State, next, add, add_all, numbered}
use Rattle.sia_ledger.specs.Blocks.{after_block, done_by, genesis_state, state_of}
use Rattle.sia_ledger.specs.Holdings.{last_id}
use Rattle.sia_ledger.specs.Kept.{AllAccepted, IsKept}
use Rattle.sia_ledger.specs.Refusal.{bad_parent, too_large, height_end, sums_too_large, bad_values, verdict, refusal}
use Rattle.sia_ledger.specs.Texts.{IsNumbered, IsGenesisText, IsBlockText, IsTextAmong, IsText, IsTwice, IsMadeTwice, IsOfType, AllOfType}
use Rattle.sia_ledger.proofs.Always.{make_each}
use Rattle.sia_ledger.proofs.BlockTexts.{Before, After, covered_block, own_known}
use Rattle.sia_ledger.proofs.Conserved.{IsWholly, wholly_most, block_stands, block_whole, genesis_whole, genesis_ids, genesis_next, next-more, chain_whole}
use Rattle.sia_ledger.proofs.Consumed.{IsMade, front, labels_differ, not_less, made_long, made_label}
use Rattle.sia_ledger.proofs.Covering.{IsCovered, IsFresh, IsNew, covered_as, covered_make, covered_numbered}
use Rattle.sia_ledger.proofs.Grown.{after_is, done_new}
use Rattle.sia_ledger.proofs.Lengths.{length-genesis, length-genesis_id, length-genesis_fund_text, same_u64}
use Rattle.sia_ledger.proofs.NewTexts.{IsTold}
use Rattle.sia_ledger.proofs.OtherFaults.{repeats}
use Rattle.sia_ledger.proofs.Standing.{or_none, unbroken, not-false}
use Rattle.sia_ledger.proofs.Told.{Told, OfGenesis, IsGenesisLong, Later, later_same, later_stays}
use Rattle.sia_ledger.proofs.TransactionTexts.{Anything, short_by}

-- The genesis.

labels_apart : (what : List ℕ) → IsMade what → label (codes "genesis") ≡ label what → ⊥
labels_apart what (inl is) same = labels_differ (label (codes "genesis")) (label (codes "siacoin output")) refl (same ∙ ap label is)
labels_apart what (inr (inl is)) same = labels_differ (label (codes "genesis")) (label (codes "file contract")) refl (same ∙ ap label is)
labels_apart what (inr (inr is)) same = labels_differ (label (codes "genesis")) (label (codes "siafund output")) refl (same ∙ ap label is)

genesis_not_made : (funds : List FundOutput) (what : List ℕ) (tx : Transaction) (i : ℕ) → IsMade what → genesis_text funds ≢ made_text what tx i
unfolding genesis_text made_text
genesis_not_made funds what tx i kind same = labels_apart what kind (front (label (codes "genesis")) (label what) _ _ 16 refl (made_label what kind) same)

long_56 : (n : ℕ) → n ≡ 56 → 96 ≤ n → ⊥
long_56 n e high = omega (arith, e, high)

other_length : (n : ℕ) → (n ≡ 74) ⊎ (120 ≤ n) → n ≡ 56 → ⊥
other_length n (inl a) b = omega (arith, a, b)
other_length n (inr a) b = omega (arith, a, b)

genesis_long : (n : ℕ) → (n ≡ 74) ⊎ (120 ≤ n) → IsGenesisLong n
genesis_long n (inl a) = inl a
genesis_long n (inr a) = inr (inl a)

funds_differ : (genesis : List ℕ) (i j : ℕ) → i < j → j < 2 ^ 64 → genesis_fund_text genesis i ≢ genesis_fund_text genesis j
unfolding genesis_fund_text
funds_differ genesis i j low fits same =
    let a = append_cancel_left (label (codes "siafund output")) (genesis ++ spelled_u64 i) (genesis ++ spelled_u64 j) same in
    not_less i j low (same_u64 i j (omega (arith, low, fits)) fits (append_cancel_left genesis (spelled_u64 i) (spelled_u64 j) a))

never : (X : Type 0) (id : List ℕ) → None ≡ Some id → X
never X id e = cc

covered_genesis : (Text : List ℕ → Type 0) (funds : List FundOutput) → length funds < 2 ^ 64 → AreSized funds → fund_sum funds ≡ 10000 → ((text : List ℕ) → IsGenesisText funds text → Text text) → After Text (genesis_id funds) (genesis_state funds)
unfolding genesis_state genesis_id genesis_fund_id
covered_genesis Text funds few sized sums own =
    let empty : State = record { ids = genesis_id funds ∷ []; facts = []; twice = None } in
    let x = fact (genesis_id funds) deed.Block in
    let s1 = add empty x in
    let s2 = add_all s1 (numbered fund_fact 0 funds) in
    let nothing : IsCovered Text (λ text. ⊥) empty = record { known = λ none id known. absurd (false_true known); twice = λ id e. never (IsTwice Text id) id e; short = tt } in
    let made = covered_make Text (λ text. ⊥) empty x (genesis_text funds) refl tt refl (λ none. record { own = own (genesis_text funds) (inl refl); inside = λ text kind. absurd kind; new = λ text kind. absurd kind }) nothing in
    let first : IsCovered Text (λ text. (text ≡ genesis_text funds) ⊎ IsNumbered (genesis_fund_text (genesis_id funds)) 0 text) s1 = covered_as Text (λ text. ⊥ ⊎ (text ≡ genesis_text funds)) (λ text. (text ≡ genesis_text funds) ⊎ IsNumbered (genesis_fund_text (genesis_id funds)) 0 text) s1 (λ none text kind. only text kind) made in
    let all = covered_numbered Text (λ text. text ≡ genesis_text funds) (genesis_fund_text (genesis_id funds)) fund_fact Anything (length funds) (λ i y. refl) (λ i y u. tt) (λ i y. refl) 0 funds s1 (λ k d low. tt) (omega arith) (λ none. new) first in
    let later : Later s1.facts s2.facts = make_each (Later s1.facts) (later_stays s1.facts) fund_fact (λ i fund. refl) 0 funds s1 (later_same s1.facts) in
    record {
      known = later.known (genesis_id funds) (own_known empty x refl);
      covered = covered_as Text (λ text. (text ≡ genesis_text funds) ⊎ IsNumbered (genesis_fund_text (genesis_id funds)) (length funds) text) (IsTold (genesis_id funds) s2.facts Text) s2 (λ none text kind. tell s2.facts text kind) all;
    }
  where
    fund_fact : ℕ → FundOutput → Fact
    fund_fact i fund = fact (genesis_fund_id (genesis_id funds) i) (deed.Fund (new_fund fund))

    false_true : false ≡ true → ⊥
    false_true e = cc

    only : (text : List ℕ) → ⊥ ⊎ (text ≡ genesis_text funds) → (text ≡ genesis_text funds) ⊎ IsNumbered (genesis_fund_text (genesis_id funds)) 0 text
    only text (inl kind) = absurd kind
    only text (inr is) = inl is

    fund_long : (text : List ℕ) (i : ℕ) → text ≡ genesis_fund_text (genesis_id funds) i → length text ≡ 56
    fund_long text i is = ap length is ∙ length-genesis_fund_text (genesis_id funds) i (length-genesis_id funds)

    new : IsNew Text (λ text. text ≡ genesis_text funds) (genesis_fund_text (genesis_id funds)) (length funds)
    new = record {
      own = λ i low. own (genesis_fund_text (genesis_id funds) i) (inr (i, low, refl));
      inside = λ text is. subst Text (sym is) (own (genesis_text funds) (inl refl));
      new = λ text is i low same. other_length (length (genesis_text funds)) (length-genesis funds sized sums) (fund_long (genesis_text funds) i (sym is ∙ same));
      differ = λ i j low below. funds_differ (genesis_id funds) i j low (short_by j (length funds) (2 ^ 64) below few);
    }

    tell : (facts : List Fact) (text : List ℕ) → (text ≡ genesis_text funds) ⊎ IsNumbered (genesis_fund_text (genesis_id funds)) (length funds) text → IsTold (genesis_id funds) facts Text text
    tell facts text (inl is) =
        let long : IsGenesisLong (length text) = subst (λ (t : List ℕ). IsGenesisLong (length t)) (sym is) (genesis_long (length (genesis_text funds)) (length-genesis funds sized sums)) in
        (OfGenesis long (λ what tx i kind same. genesis_not_made funds what tx i kind (sym is ∙ same)), subst Text (sym is) (own (genesis_text funds) (inl refl)))
    tell facts text (inr (i, low, is)) =
        let long = fund_long text i is in
        (OfGenesis (inr (inr long)) (λ what tx j kind same. long_56 (length text) long (made_long text what tx j kind same)), subst Text (sym is) (own (genesis_fund_text (genesis_id funds) i) (inr (i, low, refl))))

-- Blocks that break no rule.

last-push : (ids : List (List ℕ)) (id : List ℕ) → last_id (ids ++ id ∷ []) ≡ id
last-push [] id = refl
last-push (first ∷ []) id = refl
last-push (first ∷ second ∷ ids) id = last-push (second ∷ ids) id

on_tip : (s : State) (block : Block) → bad_parent s block ≡ None → block.parent ≡ last_id s.ids
unfolding bad_parent
on_tip s block none = same_text block.parent (last_id s.ids) (sym (not-false (bytes_eq block.parent (last_id s.ids)) (unbroken _ _ none)))

right_values : (block : Block) → bad_values block ≡ None → first_at bad_value 0 block.transactions ≡ None
unfolding bad_values
right_values block none = (or_none (first_at bad_value 0 block.transactions) _ none).0

covered_fresh : (Text T : List ℕ → Type 0) (s : State) → s.twice ≡ None → IsCovered Text T s → IsCovered Text T (record s { twice = None })
covered_fresh Text T s none was = record { known = λ same. was.known none; twice = λ id e. never (IsTwice Text id) id e; short = was.short }

accepted_before : (accepts : List ℕ → List ℕ → List ℕ → Bool) (maturity : ℕ) (s : State) (block : Block) → verdict accepts maturity s block ≡ None → is_known s.facts (last_id s.ids) ≡ true → IsOfType block → Before accepts maturity s block (last_id s.ids)
unfolding verdict
accepted_before accepts maturity s block none known fits =
    let stands = block_stands accepts maturity s block none in
    let b1 = or_none (bad_parent s block) _ none in
    let b2 = or_none (too_large block) _ b1.1 in
    let b3 = or_none (height_end s) _ b2.1 in
    let b4 = or_none (sums_too_large s block) _ b3.1 in
    let b5 = or_none (bad_values block) _ b4.1 in
    record { on = on_tip s block b1.0; tip_known = known; values = right_values block b5.0; each = stands.each; fits = fits }

-- behind a state, where its last identifier is the tip
abbrev AfterAll : (List ℕ → Type 0) → State → Type 0
AfterAll Text s = After Text (last_id s.ids) s

after_one : (Text : List ℕ → Type 0) (maturity : ℕ) (s : State) (block : Block) → After Text (block_id block) (done_by maturity block s) → AfterAll Text (after_block maturity s block)
unfolding after_block
after_one Text maturity s block was =
    let done = done_by maturity block s in
    let moved : After Text (block_id block) (record done { ids = s.ids ++ block_id block ∷ [] }) = record { known = was.known; covered = record { known = was.covered.known; twice = was.covered.twice; short = was.covered.short } } in
    subst (λ (tip : List ℕ). After Text tip (record done { ids = s.ids ++ block_id block ∷ [] })) (sym (last-push s.ids (block_id block))) moved

covered_blocks : (Text : List ℕ → Type 0) (maturity : ℕ) (blocks : List Block) (s : State) (height : ℕ) → next s ≡ height + 1 → IsWholly s (issued height) → AllAccepted maturity s blocks → AllOfType blocks → s.twice ≡ None → ((text : List ℕ) → IsTextAmong maturity s blocks text → Text text) → AfterAll Text s → AfterAll Text (fold (after_block maturity) s blocks)
covered_blocks Text maturity [] s height at whole accepted fits none own was = was
covered_blocks Text maturity (block ∷ blocks) s height at whole ((accepts, accepted), rest) fits none own was =
    let before = accepted_before accepts maturity s block accepted was.known fits.0 in
    let done = covered_block accepts maturity s block (issued height) Text (last_id s.ids) (wholly_most s (issued height) whole) whole.whole before (λ text kind. own text (inl kind)) (covered_fresh Text (IsTold (last_id s.ids) s.facts Text) s none was.covered) in
    let s1 = after_block maturity s block in
    let more : issued height + subsidy (next s) ≡ issued (height + 1) = ap (λ n. issued height + subsidy n) at ∙ sym (issued-more height) in
    let whole1 : IsWholly s1 (issued (height + 1)) = subst (IsWholly s1) more (block_whole accepts maturity s block (issued height) whole accepted) in
    let at1 : next s1 ≡ height + 1 + 1 = next-more maturity s block ∙ ap (λ n. n + 1) at in
    let none1 : s1.twice ≡ None = ap (λ (t : State). t.twice) (after_is maturity s block) ∙ done_new accepts maturity s block accepted in
    covered_blocks Text maturity blocks s1 (height + 1) at1 whole1 rest fits.1 none1 (λ text kind. own text (inr kind)) (after_one Text maturity s block done)

-- Texts of the longer chain.

among_front : (maturity : ℕ) (blocks : List Block) (block : Block) (s : State) (text : List ℕ) → IsTextAmong maturity s blocks text → IsTextAmong maturity s (blocks ++ block ∷ []) text
among_front maturity [] block s text kind = absurd kind
among_front maturity (first ∷ blocks) block s text (inl kind) = inl kind
among_front maturity (first ∷ blocks) block s text (inr kind) = inr (among_front maturity blocks block (after_block maturity s first) text kind)

among_last : (maturity : ℕ) (blocks : List Block) (block : Block) (s : State) (text : List ℕ) → IsBlockText maturity (fold (after_block maturity) s blocks) block text → IsTextAmong maturity s (blocks ++ block ∷ []) text
among_last maturity [] block s text kind = inl kind
among_last maturity (first ∷ blocks) block s text kind = inr (among_last maturity blocks block (after_block maturity s first) text kind)

-- each part of a siafund output is of its type
abbrev FundFits : FundOutput → Type 0
FundFits fund = fund_output.fits (2 ^ 64 - 1) fund

are_sized : (funds : List FundOutput) → All FundFits funds → AreSized funds
are_sized [] fits = tt
are_sized (fund ∷ funds) fits = ((All-head FundFits fund funds fits).1.0.0, are_sized funds (All-tail FundFits fund funds fits))

-- a block that is refused for an identifier shows two texts of it
pub made_twice : (accepts : List ℕ → List ℕ → List ℕ → Bool) (chain : Chain) (ids : List (List ℕ)) (facts : List Fact) (marks : List ℕ) (block : Block) (id : List ℕ) → IsKept chain ids facts marks → IsOfType block → refusal accepts chain block ≡ Some (block_fault.SameId id) → IsMadeTwice (extended chain block) id
unfolding state_of
made_twice accepts chain ids facts marks block id kept typed refused =
    let first = genesis_state chain.funds in
    let s = fold (after_block chain.maturity) first chain.blocks in
    let Text : List ℕ → Type 0 = IsText (extended chain block) in
    let start : AfterAll Text first = subst (λ (tip : List ℕ). After Text tip first) (sym (ap last_id (genesis_ids chain.funds))) (covered_genesis Text chain.funds kept.types.funds.0.1 (are_sized chain.funds kept.types.funds.1) kept.sound.funds (λ text kind. inl kind)) in
    let whole : IsWholly s (issued (height chain)) = chain_whole chain kept.sound in
    let all = covered_blocks Text chain.maturity chain.blocks first 0 (genesis_next chain.funds) (genesis_whole chain.funds kept.sound.funds kept.sound.new) kept.sound.accepted kept.types.blocks kept.sound.new (λ text kind. inr (among_front chain.maturity chain.blocks block first text kind)) start in
    let none : s.twice ≡ None = ap (λ (t : State). t.twice) kept.state in
    let wrong = repeats accepts chain.maturity s block id refused in
    let before : Before accepts chain.maturity s block (last_id s.ids) = record { on = on_tip s block wrong.parent; tip_known = all.known; values = right_values block wrong.values; each = wrong.each; fits = typed } in
    let done = covered_block accepts chain.maturity s block (issued (height chain)) Text (last_id s.ids) (wholly_most s (issued (height chain)) whole) whole.whole before (λ text kind. inr (among_last chain.maturity chain.blocks block first text kind)) (covered_fresh Text (IsTold (last_id s.ids) s.facts Text) s none all.covered) in
    done.covered.twice id wrong.twice

-- where a judgement answers that an identifier is made a second time, it is so
pub judges_twice : {X : Type 0} (accepts : List ℕ → List ℕ → List ℕ → Bool) (result : Result X BlockFault) (chain : Chain) (ids : List (List ℕ)) (facts : List Fact) (marks : List ℕ) (block : Block) → IsKept chain ids facts marks → IsOfType block → Answers {A = Unit {0}} (λ _. tt) block_told result (unless (refusal accepts chain block)) → IfErr result (λ fault. (id : List ℕ) → fault ≡ block_fault.SameId id → IsMadeTwice (extended chain block) id)
judges_twice accepts (Ok x) chain ids facts marks block kept typed judged = tt
judges_twice accepts (Err fault) chain ids facts marks block kept typed judged = λ id is.
    let P : BlockFault → Type 0 = λ f. IfSome (block_told f) (λ told. unless (refusal accepts chain block) ≡ Err told) in
    made_twice accepts chain ids facts marks block id kept typed (unless_err (refusal accepts chain block) (block_fault.SameId id) (subst P is judged))
