-- What a ledger keeps of a chain, with one block more and with one less.
use Rattle.std.proofs.Common.{◌≡◌, ℕ, ◌+◌, ◌-◌, ◌^◌, ◌<◌, ◌≤◌, Bool, false, List, [], ◌∷◌, ◌++◌, length, take, refl, ap, sym, ◌∙◌, subst, arith, length-append, add-zero}
use Rattle.std.proofs.Math.Seq.{take-append_seam}
use Rattle.std.proofs.lemmas.Bool.{eqb-false}
use Rattle.std.specs.Prelude.{◌==◌, ◌≢◌, fold, Option, Some, None, Ok}
use Rattle.sia_encoding.specs.Answer.{unless}
use Rattle.sia_encoding.specs.Firsts.{broken}
use Rattle.sia_encoding.proofs.Answering.{unless_ok}
use Rattle.sia_types.specs.declared.block.Block.{Block}
use Rattle.sia_types.specs.declared.funds.FundOutput.{FundOutput}
use Rattle.sia_ids.specs.Identifiers.{block_id}
use Rattle.sia_rules.specs.declared.fault.BlockFault.TheVariants as block_fault
use Rattle.sia_rules.specs.Sums.{fund_sum}
use Rattle.sia_ledger.specs.declared.fact.Fact.{Fact}
use Rattle.sia_ledger.specs.Chain.{Chain, height, extended}
use Rattle.sia_ledger.specs.State.{State, next}
use Rattle.sia_ledger.specs.Blocks.{after_block, done_by, genesis_state, state_of}
use Rattle.sia_ledger.specs.Refusal.{bad_parent, too_large, height_end, refusal, verdict}
use Rattle.sia_ledger.specs.Kept.{AllAccepted, IsSound, IsKept, marks_of}
use Rattle.sia_encoding.specs.Items.{list_of}
use Rattle.sia_types.specs.Funds.{fund_output}
use Rattle.sia_ledger.specs.Texts.{IsOfType, AllOfType}
use Rattle.sia_ledger.proofs.Always.{block_adds}
use Rattle.sia_ledger.proofs.Conserved.{block_stands, genesis_next, next-more}
use Rattle.sia_ledger.proofs.Standing.{or_none, unbroken}

abbrev known : List (List ℕ) → List Fact → Option (List ℕ) → State
known ids facts twice = record { ids = ids; facts = facts; twice = twice }

whole : (a b : List (List ℕ)) (f g : List Fact) (t u : Option (List ℕ)) → a ≡ b → f ≡ g → t ≡ u → known a f t ≡ known b g u
whole a b f g t u p q r = rw (p, q, r) refl

fold_more : (maturity : ℕ) (blocks : List Block) (block : Block) (s : State) → fold (after_block maturity) s (blocks ++ block ∷ []) ≡ after_block maturity (fold (after_block maturity) s blocks) block
fold_more maturity [] block s = refl
fold_more maturity (first ∷ blocks) block s = fold_more maturity blocks block (after_block maturity s first)

marks_more : (maturity : ℕ) (blocks : List Block) (block : Block) (s : State) → marks_of maturity s (blocks ++ block ∷ []) ≡ marks_of maturity s blocks ++ length (fold (after_block maturity) s blocks).facts ∷ []
marks_more maturity [] block s = refl
marks_more maturity (first ∷ blocks) block s = ap (λ rest. length s.facts ∷ rest) (marks_more maturity blocks block (after_block maturity s first))

accepted_more : (maturity : ℕ) (blocks : List Block) (block : Block) (s : State) → AllAccepted maturity s blocks → (accepts : List ℕ → List ℕ → List ℕ → Bool) → verdict accepts maturity (fold (after_block maturity) s blocks) block ≡ None → AllAccepted maturity s (blocks ++ block ∷ [])
accepted_more maturity [] block s all accepts none = ((accepts, none), tt)
accepted_more maturity (first ∷ blocks) block s (here, all) accepts none = (here, accepted_more maturity blocks block (after_block maturity s first) all accepts none)

accepted_less : (maturity : ℕ) (blocks : List Block) (block : Block) (s : State) → AllAccepted maturity s (blocks ++ block ∷ []) → AllAccepted maturity s blocks
accepted_less maturity [] block s all = tt
accepted_less maturity (first ∷ blocks) block s (here, all) = (here, accepted_less maturity blocks block (after_block maturity s first) all)

pub done_new : (accepts : List ℕ → List ℕ → List ℕ → Bool) (maturity : ℕ) (s : State) (block : Block) → verdict accepts maturity s block ≡ None → (done_by maturity block s).twice ≡ None
done_new accepts maturity s block none = (block_stands accepts maturity s block none).new

pub after_is : (maturity : ℕ) (s : State) (block : Block) → after_block maturity s block ≡ known (s.ids ++ block_id block ∷ []) (done_by maturity block s).facts (done_by maturity block s).twice
unfolding after_block
after_is maturity s block = refl

pub all_new : (maturity : ℕ) (blocks : List Block) (s : State) → s.twice ≡ None → AllAccepted maturity s blocks → (fold (after_block maturity) s blocks).twice ≡ None
all_new maturity [] s new all = new
all_new maturity (block ∷ blocks) s new ((accepts, none), all) = all_new maturity blocks (after_block maturity s block) (ap (λ (t : State). t.twice) (after_is maturity s block) ∙ done_new accepts maturity s block none) all

next_after : (maturity : ℕ) (blocks : List Block) (s : State) → next (fold (after_block maturity) s blocks) ≡ next s + length blocks
next_after maturity [] s = sym (add-zero (next s))
next_after maturity (block ∷ blocks) s = let rest = next_after maturity blocks (after_block maturity s block) in let one = next-more maturity s block in omega (arith, rest, one)

-- the height of the next block is one above that of the last
pub next_of : (chain : Chain) → next (state_of chain) ≡ height chain + 1
unfolding state_of
next_of chain = let all = next_after chain.maturity chain.blocks (genesis_state chain.funds) in let first = genesis_next chain.funds in omega (arith, all, first)

-- as many identifiers are kept as there are blocks, and the genesis
pub kept_count : (chain : Chain) (ids : List (List ℕ)) (facts : List Fact) (marks : List ℕ) → IsKept chain ids facts marks → length ids ≡ height chain + 1
kept_count chain ids facts marks kept = ap (λ (s : State). next s) (sym kept.state) ∙ next_of chain

-- a block that breaks no rule stands below the last height
below_end : (accepts : List ℕ → List ℕ → List ℕ → Bool) (maturity : ℕ) (s : State) (block : Block) → verdict accepts maturity s block ≡ None → (next s == 2 ^ 32) ≡ false
unfolding verdict height_end
below_end accepts maturity s block none =
    let b1 = or_none (bad_parent s block) _ none in
    let b2 = or_none (too_large block) _ b1.1 in
    let b3 = or_none (broken (next s == 2 ^ 32) block_fault.HeightEnd) _ b2.1 in
    unbroken _ _ b3.0

pub types_front : (blocks : List Block) (block : Block) → AllOfType (blocks ++ block ∷ []) → AllOfType blocks × IsOfType block
types_front [] block all = (tt, all.0)
types_front (first ∷ blocks) block all = let rest = types_front blocks block all.1 in ((all.0, rest.0), rest.1)

types_more : (blocks : List Block) (block : Block) → AllOfType blocks → IsOfType block → AllOfType (blocks ++ block ∷ [])
types_more [] block all typed = (typed, tt)
types_more (first ∷ blocks) block all typed = (all.0, types_more blocks block all.1 typed)

-- one block more
pub kept_more : (accepts : List ℕ → List ℕ → List ℕ → Bool) (chain : Chain) (ids : List (List ℕ)) (facts : List Fact) (marks : List ℕ) (block : Block) (made : List Fact) → IsKept chain ids facts marks → IsOfType block → verdict accepts chain.maturity (known ids facts None) block ≡ None → facts ++ made ≡ (done_by chain.maturity block (known ids facts None)).facts
    → IsKept (extended chain block) (ids ++ block_id block ∷ []) (facts ++ made) (marks ++ length facts ∷ [])
unfolding state_of
kept_more accepts chain ids facts marks block made was typed none is =
    let first = genesis_state chain.funds in
    let s = fold (after_block chain.maturity) first chain.blocks in
    let accepted : verdict accepts chain.maturity s block ≡ None = ap (λ (t : State). verdict accepts chain.maturity t block) was.state ∙ none in
    let now : after_block chain.maturity s block ≡ known (ids ++ block_id block ∷ []) (facts ++ made) None = ap (λ (t : State). after_block chain.maturity t block) was.state ∙ after_is chain.maturity (known ids facts None) block ∙ whole _ _ _ _ _ _ refl (sym is) (done_new accepts chain.maturity (known ids facts None) block none) in
    let marks_now : marks_of chain.maturity first (chain.blocks ++ block ∷ []) ≡ marks ++ length facts ∷ [] = marks_more chain.maturity chain.blocks block first ∙ ap (λ m. m ++ length s.facts ∷ []) (sym was.marks_are) ∙ ap (λ (t : State). marks ++ length t.facts ∷ []) was.state in
    let count = kept_count chain ids facts marks was in
    let more = length-append chain.blocks (block ∷ []) in
    let below : length ids ≢ 2 ^ 32 = eqb-false (length ids) (2 ^ 32) (below_end accepts chain.maturity (known ids facts None) block none) in
    record {
      state = fold_more chain.maturity chain.blocks block first ∙ now;
      marks_are = sym marks_now;
      sound = record { funds = was.sound.funds; new = was.sound.new; accepted = accepted_more chain.maturity chain.blocks block first was.sound.accepted accepts accepted };
      low = omega (arith, was.low, count, more, below);
      rested = was.rested;
      types = record { funds = was.types.funds; blocks = types_more chain.blocks block was.types.blocks typed };
    }

none_longer : {X : Type 0} (xs : List X) (x : X) → [] ≡ xs ++ x ∷ [] → ⊥
none_longer xs x e =
    let lengths : 0 ≡ length xs + 1 = ap length e ∙ length-append xs (x ∷ []) in
    omega (arith, lengths)

push_same : (xs ys : List ℕ) (x y : ℕ) → xs ++ x ∷ [] ≡ ys ++ y ∷ [] → (xs ≡ ys) × (x ≡ y)
push_same [] [] x y e = (refl, cc)
push_same [] (b ∷ ys) x y e = let rest : [] ≡ ys ++ y ∷ [] = cc in absurd (none_longer ys y rest)
push_same (a ∷ xs) [] x y e = let rest : [] ≡ xs ++ x ∷ [] = cc in absurd (none_longer xs x rest)
push_same (a ∷ xs) (b ∷ ys) x y e =
    let first : a ≡ b = cc in
    let rest : xs ++ x ∷ [] ≡ ys ++ y ∷ [] = cc in
    let same = push_same xs ys x y rest in
    let front = same.0 in
    (cc, same.1)

-- one block less: what it added is cut off
pub kept_less : (chain : Chain) (block : Block) (ids : List (List ℕ)) (facts : List Fact) (marks : List ℕ) (mark : ℕ) → IsKept (extended chain block) ids facts (marks ++ mark ∷ []) → IsKept chain (take (length ids - 1) ids) (take mark facts) marks
unfolding state_of
kept_less chain block ids facts marks mark was =
    let first = genesis_state chain.funds in
    let s = fold (after_block chain.maturity) first chain.blocks in
    let now = after_block chain.maturity s block in
    let e : now ≡ known ids facts None = sym (fold_more chain.maturity chain.blocks block first) ∙ was.state in
    let marks_are = push_same marks (marks_of chain.maturity first chain.blocks) mark (length s.facts) (was.marks_are ∙ marks_more chain.maturity chain.blocks block first) in
    let added = block_adds chain.maturity s block in
    let all : facts ≡ s.facts ++ added.0 = sym (ap (λ (t : State). t.facts) e) ∙ added.1 in
    let front : take mark facts ≡ s.facts = ap (λ n. take n facts) marks_are.1 ∙ ap (take (length s.facts)) all ∙ take-append_seam s.facts added.0 in
    let all_ids : ids ≡ s.ids ++ block_id block ∷ [] = sym (ap (λ (t : State). t.ids) e) ∙ ap (λ (t : State). t.ids) (after_is chain.maturity s block) in
    let count : length ids ≡ length s.ids + 1 = ap length all_ids ∙ length-append s.ids (block_id block ∷ []) in
    let before : length ids - 1 ≡ length s.ids = omega (arith, count) in
    let front_ids : take (length ids - 1) ids ≡ s.ids = ap (λ n. take n ids) before ∙ ap (take (length s.ids)) all_ids ∙ take-append_seam s.ids (block_id block ∷ []) in
    let accepted = accepted_less chain.maturity chain.blocks block first was.sound.accepted in
    let more = length-append chain.blocks (block ∷ []) in
    record {
      state = whole s.ids (take (length ids - 1) ids) s.facts (take mark facts) s.twice None (sym front_ids) (sym front) (all_new chain.maturity chain.blocks first was.sound.new accepted);
      marks_are = marks_are.0;
      sound = record { funds = was.sound.funds; new = was.sound.new; accepted = accepted };
      low = omega (arith, was.low, more);
      rested = was.rested;
      types = record { funds = was.types.funds; blocks = (types_front chain.blocks block was.types.blocks).0 };
    }

-- the genesis alone
pub kept_none : (maturity : ℕ) (funds : List FundOutput) (ids : List (List ℕ)) (facts : List Fact) → genesis_state funds ≡ known ids facts None → fund_sum funds ≡ 10000 → maturity ≤ 10000 → (list_of fund_output).fits (2 ^ 64 - 1) funds → IsKept (record { maturity = maturity; funds = funds; blocks = [] }) ids facts []
unfolding state_of
kept_none maturity funds ids facts is sums rested typed = record {
  state = is;
  marks_are = refl;
  sound = record { funds = sums; new = ap (λ (t : State). t.twice) is; accepted = tt };
  low = omega arith;
  rested = rested;
  types = record { funds = typed; blocks = tt };
}

-- the same, where the last block and the last mark were taken off
pub kept_dropped : (maturity : ℕ) (funds : List FundOutput) (blocks left : List Block) (block : Block) (ids : List (List ℕ)) (facts after : List Fact) (marks rest : List ℕ) → IsKept (record { maturity = maturity; funds = funds; blocks = blocks }) ids facts marks → blocks ≡ left ++ block ∷ [] → ((earlier : List ℕ) (mark : ℕ) → marks ≡ earlier ++ mark ∷ [] → after ≡ take mark facts) → ((earlier : List ℕ) (mark : ℕ) → marks ≡ earlier ++ mark ∷ [] → rest ≡ earlier)
    → IsKept (record { maturity = maturity; funds = funds; blocks = left }) (take (length ids - 1) ids) after rest
kept_dropped maturity funds blocks left block ids facts after marks rest was are facts_are rest_are =
    let chain : Chain = record { maturity = maturity; funds = funds; blocks = left } in
    let longer : IsKept (extended chain block) ids facts marks = subst (λ (all : List Block). IsKept (record { maturity = maturity; funds = funds; blocks = all }) ids facts marks) are was in
    let first = genesis_state funds in
    let earlier = marks_of maturity first left in
    let mark = length (fold (after_block maturity) first left).facts in
    let split : marks ≡ earlier ++ mark ∷ [] = longer.marks_are ∙ marks_more maturity left block first in
    rw (facts_are earlier mark split, rest_are earlier mark split) (kept_less chain block ids facts earlier mark (subst (λ (all : List ℕ). IsKept (extended chain block) ids facts all) split longer))

-- one block more, where the answer says that it breaks no rule
pub kept_applied : (accepts : List ℕ → List ℕ → List ℕ → Bool) (chain : Chain) (ids : List (List ℕ)) (facts : List Fact) (marks : List ℕ) (block : Block) (made : List Fact) → IsKept chain ids facts marks → IsOfType block → unless (refusal accepts chain block) ≡ Ok tt → (state_of chain).facts ++ made ≡ (done_by chain.maturity block (state_of chain)).facts
    → IsKept (extended chain block) (ids ++ block_id block ∷ []) (facts ++ made) (marks ++ length facts ∷ [])
kept_applied accepts chain ids facts marks block made was typed ok is =
    kept_more accepts chain ids facts marks block made was typed
    (ap (λ (s : State). verdict accepts chain.maturity s block) (sym was.state) ∙ unless_ok (refusal accepts chain block) ok)
    (ap (λ (s : State). s.facts ++ made) (sym was.state) ∙ is ∙ ap (λ (s : State). (done_by chain.maturity block s).facts) was.state)
