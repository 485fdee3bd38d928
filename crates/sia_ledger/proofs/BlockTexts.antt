-- The texts by which a block makes identifiers are new.
use Rattle.std.proofs.Common.{◌≡◌, ℕ, ◌+◌, ◌-◌, ◌^◌, ◌<◌, ◌≤◌, Bool, true, false, List, [], ◌∷◌, ◌++◌, length, map, refl, ap, sym, ◌∙◌, subst, arith, inl, inr}
use Rattle.std.specs.Prelude.{◌||◌, ◌&&◌, ◌==◌, ◌⊎◌, ◌≢◌, fold, not, Option, Some, None, if◌then◌else◌}
use Rattle.std.specs.Option.{option_or}
use Rattle.std.specs.List.{All}
use Rattle.std.specs.Str.{bytes_eq}
use Rattle.std.proofs.lemmas.List.Elements.{All-head, All-tail}
use Rattle.std.proofs.lemmas.List.{append_cancel_left}
use Rattle.sia_encoding.specs.Firsts.{first_at}
use Rattle.sia_encoding.specs.Spelling.{spelled_u64}
use Rattle.sia_types.specs.declared.block.Block.{Block}
use Rattle.sia_types.specs.declared.coins.CoinOutput.{CoinOutput}
use Rattle.sia_types.specs.declared.transaction.Transaction.{Transaction}
use Rattle.sia_ids.specs.Identifiers.{block_text, block_id, payout_text, payout_id}
use Rattle.sia_rules.specs.Sums.{fees_of}
use Rattle.sia_rules.specs.Values.{bad_value}
use Rattle.sia_ledger.specs.declared.fact.Fact.{Fact}
use Rattle.sia_ledger.specs.declared.fact.Deed.TheVariants as deed
use Rattle.sia_ledger.specs.Bounded.{IsMost, IsWhole}
use Rattle.sia_ledger.specs.Facts.{fact, is_known}
use Rattle.sia_ledger.specs.State.{State, next, makes, add, add_all, numbered}
use Rattle.sia_ledger.specs.Effects.{settled, after_transaction}
use Rattle.sia_ledger.specs.Blocks.{ending, with_block, with_transactions, with_missed, with_payouts, done_by}
use Rattle.sia_ledger.specs.Refusal.{transaction_refusal, transactions_refusal}
use Rattle.sia_ledger.specs.Texts.{IsNumbered, IsTransactionsText, IsBlockText, IsOfType}
use Rattle.sia_ledger.proofs.Always.{make, make_each, each, settle_one, after_transaction-keeps}
use Rattle.sia_ledger.proofs.Conserved.{own_most, transaction_most}
use Rattle.sia_ledger.proofs.Consumed.{Consumes, Fits, consumes-length, not_less}
use Rattle.sia_ledger.proofs.Covering.{IsCovered, IsFresh, IsNew, covered_as, covered_make, covered_numbered}
use Rattle.sia_ledger.proofs.Held.{known-push, same-self}
use Rattle.sia_ledger.proofs.Keeps.{IsAdded, added}
use Rattle.sia_ledger.proofs.Lengths.{length-block_id, same_u64}
use Rattle.sia_ledger.proofs.NewTexts.{IsTold, Besides, covered_missed}
use Rattle.sia_ledger.proofs.Standing.{or_none}
use Rattle.sia_ledger.proofs.Told.{Told, OfGenesis, OfBlock, OfPayout, OfUse, Later, later_same, later_then, later_stays, told_later, not_block, not_payout, lengths, block_long, payout_long, not_both}
use Rattle.sia_ledger.proofs.TransactionTexts.{Aside, Anything, short_by, covered_transaction}

-- The transactions of a block.

pub covered_transactions : (accepts : List ℕ → List ℕ → List ℕ → Bool) (maturity t : ℕ) (txs : List Transaction) (s : State) (fees sum : ℕ) (Text Side : List ℕ → Type 0) (tip : List ℕ) → IsMost s fees sum → transactions_refusal accepts maturity s t txs ≡ None → first_at bad_value t txs ≡ None → All Fits txs → Aside Text Side → ((text : List ℕ) → IsTransactionsText txs text → Text text)
    → IsCovered Text (IsTold tip s.facts Side) s → IsCovered Text (IsTold tip (fold (after_transaction maturity) s txs).facts Side) (fold (after_transaction maturity) s txs)
unfolding transactions_refusal
covered_transactions accepts maturity t [] s fees sum Text Side tip most accepted values fits aside own was = was
covered_transactions accepts maturity t (tx ∷ txs) s fees sum Text Side tip most accepted values fits aside own was =
    let both = or_none (transaction_refusal accepts s t tx) _ accepted in
    let value = or_none (bad_value t tx) (first_at bad_value (t + 1) txs) values in
    let one = covered_transaction accepts maturity s t tx fees sum Text Side tip most both.0 value.0 (All-head Fits tx txs fits) aside (λ text kind. own text (inl kind)) was in
    covered_transactions accepts maturity (t + 1) txs (after_transaction maturity s tx) (fees + fees_of tx) sum Text Side tip (transaction_most accepts maturity s t tx fees sum most both.0) both.1 value.1 (All-tail Fits tx txs fits) aside (λ text kind. own text (inr kind)) one

-- A block.

-- a text of the chain that is none of the block's payouts
abbrev pub InBlock : (List ℕ → Type 0) → Block → List ℕ → Type 0
InBlock Text block text = Text text × ((i : ℕ) → text ≢ payout_text (block_id block) i)

in_block : (Text : List ℕ → Type 0) (block : Block) → Aside Text (InBlock Text block)
in_block Text block = record {
  inside = λ text kind. kind.0;
  apart = λ text ids uses own. (own, λ i same. lengths (length text) (consumes-length text ids uses) (inr (payout_long text (block_id block) i (length-block_id block) same)));
}

beside_block : (Text : List ℕ → Type 0) (block : Block) → Besides Text (InBlock Text block)
beside_block Text block = let aside = in_block Text block in record { inside = aside.inside; besides = λ text ids uses low own. aside.apart text ids uses own }

-- its own identifier is known behind it
pub own_known : (s : State) (x : Fact) → makes x.deed ≡ true → is_known (add s x).facts x.id ≡ true
unfolding add
own_known s x is = by (makes x.deed) (is_known s.facts x.id) refl is
  where
    right : (a b : Bool) → b ≡ true → (a || b) ≡ true
    right true b e = refl
    right false b e = e

    by : (m k : Bool) → is_known s.facts x.id ≡ k → m ≡ true → is_known (if m && k then record s { twice = option_or s.twice (Some x.id) } else record s { facts = s.facts ++ x ∷ [] }).facts x.id ≡ true
    by true true there e = there
    by true false new e = known-push s.facts x x.id ∙ right (is_known s.facts x.id) (bytes_eq x.id x.id) (same-self x.id)
    by false k there e = cc

payouts_differ : (block : List ℕ) (i j : ℕ) → i < j → j < 2 ^ 64 → payout_text block i ≢ payout_text block j
unfolding payout_text
payouts_differ block i j low fits same = not_less i j low (same_u64 i j (omega (arith, low, fits)) fits (append_cancel_left block (spelled_u64 i) (spelled_u64 j) same))

true_false : true ≡ false → ⊥
true_false e = cc

-- what was told with one tip is told with a new one
new_tip : (tip block : List ℕ) (before after : List Fact) (text : List ℕ) → is_known before block ≡ false → Later before after → Told tip before text → Told block after text
new_tip tip block before after text new later (OfGenesis long not_made) = OfGenesis long not_made
new_tip tip block before after text new later (OfBlock other parent nonce is known older) = OfBlock other parent nonce is (later.known other.parent known) (λ same. true_false (sym known ∙ ap (is_known before) same ∙ new))
new_tip tip block before after text new later (OfPayout other i long is known) = told_later block before after text later (OfPayout other i long is known)
new_tip tip block before after text new later (OfUse ids uses over) = told_later block before after text later (OfUse ids uses over)

-- what holds before a block of which no rule but the last is broken
pub record Before (accepts : List ℕ → List ℕ → List ℕ → Bool) (maturity : ℕ) (s : State) (block : Block) (tip : List ℕ) : Type 0 where
  pub on : block.parent ≡ tip
  pub tip_known : is_known s.facts tip ≡ true
  pub values : first_at bad_value 0 block.transactions ≡ None
  pub each : transactions_refusal accepts maturity (with_block block s) 0 block.transactions ≡ None
  pub fits : IsOfType block

-- what is known behind a block
pub record After (Text : List ℕ → Type 0) (block : List ℕ) (s : State) : Type 0 where
  pub known : is_known s.facts block ≡ true
  pub covered : IsCovered Text (IsTold block s.facts Text) s

pub covered_block : (accepts : List ℕ → List ℕ → List ℕ → Bool) (maturity : ℕ) (s : State) (block : Block) (sum : ℕ) (Text : List ℕ → Type 0) (tip : List ℕ) → IsMost s 0 sum → IsWhole s 0 sum → Before accepts maturity s block tip → ((text : List ℕ) → IsBlockText maturity s block text → Text text)
    → IsCovered Text (IsTold tip s.facts Text) (record s { twice = None }) → After Text (block_id block) (done_by maturity block s)
unfolding done_by with_block with_transactions with_missed with_payouts block_id payout_id
covered_block accepts maturity s block sum Text tip most whole stands own was =
    let s0 : State = record s { twice = None } in
    let x = fact (block_id block) deed.Block in
    let s1 = add s0 x in
    let s2 = fold (after_transaction maturity) s1 block.transactions in
    let s3 = fold (settled (next s2 + maturity) false) s2 (ending (next s2) s2.facts) in
    let payout_fact : ℕ → CoinOutput → Fact = λ i payout. fact (payout_id (block_id block) i) (deed.Coin payout (next s3 + maturity)) in
    let s4 = add_all s3 (numbered payout_fact 0 block.payouts) in
    let id = block_id block in
    let Side : List ℕ → Type 0 = InBlock Text block in
    let made = covered_make Text (IsTold tip s.facts Text) s0 x (block_text block) refl tt refl (λ none. fresh) was in
    let l1 : Later s.facts s1.facts = make (Later s.facts) (later_stays s.facts) s0 x refl (later_same s.facts) in
    let told1 : IsCovered Text (IsTold id s1.facts Side) s1 = covered_as Text (λ text. IsTold tip s.facts Text text ⊎ (text ≡ block_text block)) (IsTold id s1.facts Side) s1 (λ none text kind. tell s1.facts l1 (added s0 x refl none) text kind) made in
    let told2 : IsCovered Text (IsTold id s2.facts Side) s2 = covered_transactions accepts maturity 0 block.transactions s1 0 sum Text Side id (own_most s block sum most whole) stands.each stands.values stands.fits.1.1.1.1.1 (in_block Text block) (λ text kind. own text (inr (inl kind))) told1 in
    let told3 : IsCovered Text (IsTold id s3.facts Side) s3 = covered_missed Text Side id (next s2 + maturity) (ending (next s2) s2.facts) s2 (beside_block Text block) (λ text kind. own text (inr (inr (inl kind)))) told2 in
    let told4 = covered_numbered Text (IsTold id s3.facts Side) (payout_text id) payout_fact Anything (length block.payouts) (λ i y. refl) (λ i y u. tt) (λ i y. refl) 0 block.payouts s3 (λ k d low. tt) (omega arith) (λ none. new s3.facts)
    (covered_as Text (IsTold id s3.facts Side) (λ text. IsTold id s3.facts Side text ⊎ IsNumbered (payout_text id) 0 text) s3 (λ none text kind. inl kind) told3) in
    let l2 : Later s1.facts s2.facts = each (Later s1.facts) (after_transaction maturity) (after_transaction-keeps (Later s1.facts) (later_stays s1.facts) maturity) block.transactions s1 (later_same s1.facts) in
    let l3 : Later s1.facts s3.facts = each (Later s1.facts) (settled (next s2 + maturity) false) (settle_one (Later s1.facts) (later_stays s1.facts) (next s2 + maturity) false) (ending (next s2) s2.facts) s2 l2 in
    let l4 : Later s1.facts s4.facts = make_each (Later s1.facts) (later_stays s1.facts) payout_fact (λ i payout. refl) 0 block.payouts s3 l3 in
    let l34 : Later s3.facts s4.facts = make_each (Later s3.facts) (later_stays s3.facts) payout_fact (λ i payout. refl) 0 block.payouts s3 (later_same s3.facts) in
    let known : is_known s4.facts id ≡ true = l4.known id (own_known s0 x refl) in
    record {
      known = known;
      covered = covered_as Text (λ text. IsTold id s3.facts Side text ⊎ IsNumbered (payout_text id) (length block.payouts) text) (IsTold id s4.facts Text) s4 (λ none text kind. tell_payouts s3.facts s4.facts l34 known text kind) told4;
    }
  where
    parent : length block.parent ≡ 32
    parent = stands.fits.0.0

    nonce : length block.nonce ≡ 8
    nonce = stands.fits.1.0.0

    fresh : IsFresh Text (IsTold tip s.facts Text) (block_text block)
    fresh = record {
      own = own (block_text block) (inl refl);
      inside = λ text kind. kind.1;
      new = λ text kind. not_block tip s.facts text block kind.0 parent nonce stands.on;
    }

    tell : (facts : List Fact) → Later s.facts facts → IsAdded (record s { twice = None }) (fact (block_id block) deed.Block) → (text : List ℕ) → IsTold tip s.facts Text text ⊎ (text ≡ block_text block) → IsTold (block_id block) facts (InBlock Text block) text
    tell facts later is text (inl kind) = (new_tip tip (block_id block) s.facts facts text is.new later kind.0, (kind.1, λ i. not_payout tip s.facts text (block_id block) i kind.0 (length-block_id block) is.new))
    tell facts later is text (inr same) =
        let before : is_known s.facts block.parent ≡ true = ap (is_known s.facts) stands.on ∙ stands.tip_known in (
          OfBlock block parent nonce same (later.known block.parent before) (λ e. true_false (sym before ∙ ap (is_known s.facts) e ∙ is.new)),
          (subst Text (sym same) (own (block_text block) (inl refl)), λ i e. not_both (length text) (block_long text block parent nonce same) (payout_long text (block_id block) i (length-block_id block) e)),
        )

    new : (facts : List Fact) → IsNew Text (IsTold (block_id block) facts (InBlock Text block)) (payout_text (block_id block)) (length block.payouts)
    new facts = record {
      own = λ i low. own (payout_text (block_id block) i) (inr (inr (inr (i, low, refl))));
      inside = λ text kind. kind.1.0;
      new = λ text kind i low same. kind.1.1 i same;
      differ = λ i j low below. payouts_differ (block_id block) i j low (short_by j (length block.payouts) (2 ^ 64) below stands.fits.1.1.1.0.0.1);
    }

    tell_payouts : (before after : List Fact) → Later before after → is_known after (block_id block) ≡ true → (text : List ℕ) → IsTold (block_id block) before (InBlock Text block) text ⊎ IsNumbered (payout_text (block_id block)) (length block.payouts) text → IsTold (block_id block) after Text text
    tell_payouts before after later known text (inl kind) = (told_later (block_id block) before after text later kind.0, kind.1.0)
    tell_payouts before after later known text (inr (i, low, is)) = (OfPayout (block_id block) i (length-block_id block) is known, own text (inr (inr (inr (i, low, is)))))
