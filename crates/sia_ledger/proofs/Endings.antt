-- Which contracts end at a height.
use Rattle.std.proofs.Common.{◌≡◌, ℕ, ◌+◌, ◌<◌, ◌≤◌, Bool, true, false, List, [], ◌∷◌, ◌++◌, map, refl, ap, sym, ◌∙◌, arith, subst}
use Rattle.std.specs.Prelude.{◌||◌, ◌&&◌, ◌==◌, not, fold, Option, Some, None, if◌then◌else◌}
use Rattle.std.specs.Option.{option_or}
use Rattle.std.specs.List.{list_any, filter}
use Rattle.std.specs.Ordering.{nat_cmp, is_le}
use Rattle.std.specs.Cmp.Lexicographic.{same_text, slice_cmp}
use Rattle.std.proofs.lemmas.Bool.{eqb-true}
use Rattle.sia_ledger.specs.declared.fact.Deed.TheVariants as deed
use Rattle.sia_ids.specs.Transactions.{claim_id, settlement_id}
use Rattle.sia_ledger.specs.Blocks.{ends_at, ending}
use Rattle.sia_ledger.specs.Chain.{height}
use Rattle.sia_ledger.specs.Courses.{final_in, proves, settlements}
use Rattle.sia_ledger.specs.Effects.{is_paying, settlement_facts, settled_with, settled, with_fund_input}
use Rattle.sia_ledger.specs.Facts.{fact, spent, is_known, last_deed, terms_in, terms_at, standing, claim_at}
use Rattle.sia_ledger.specs.Holdings.{outputs}
use Rattle.sia_ledger.specs.Order.{put_by, ascending_by}
use Rattle.sia_ledger.specs.Paying.{AllPay}
use Rattle.sia_ledger.specs.State.{State, next, add, add_all}
use Rattle.sia_ledger.specs.declared.fact.Deed.{Deed}
use Rattle.sia_ledger.specs.declared.fact.Fact.{Fact}
use Rattle.sia_rules.specs.Shape.{names_twice, fund_parents, proof_parents}
use Rattle.sia_types.specs.declared.coins.CoinOutput.{CoinOutput}
use Rattle.sia_types.specs.declared.file_contracts.StorageProof.{StorageProof}
use Rattle.sia_types.specs.declared.funds.FundInput.{FundInput}
use Rattle.sia_types.specs.declared.terms.Terms.{Terms}
use Rattle.std.specs.Str.{bytes_eq}
use Rattle.sia_ledger.proofs.Held.{unknown, known-some, last-push, same-self, or_false}
use Rattle.sia_ledger.proofs.Keeps.{other_last, Runs, KeepsTerms, keeps_made}
use Rattle.sia_ledger.proofs.Stages.{or_both, LiveFunds, spend_fund_input}
use Rattle.sia_ledger.proofs.Course.{Course, CourseAt, course_other, course_here, running, course_add, coin_begins, course_settlement}
use Rattle.sia_ledger.proofs.Missed.{AllEnd}

any_put : {X : Type 0} (key : X → List ℕ) (p : X → Bool) (x : X) (xs : List X) → list_any p (put_by key x xs) ≡ (p x || list_any p xs)
any_put key p x [] = refl
any_put key p x (first ∷ rest) = by (is_le (slice_cmp nat_cmp (key x) (key first))) (any_put key p x rest)
  where
    swap : (a b c : Bool) → (a || (b || c)) ≡ (b || (a || c))
    swap true true c = refl
    swap true false c = refl
    swap false b c = refl

    by : (b : Bool) → list_any p (put_by key x rest) ≡ (p x || list_any p rest) → list_any p (if b then x ∷ first ∷ rest else first ∷ put_by key x rest) ≡ (p x || (p first || list_any p rest))
    by true IH = refl
    by false IH = ap (λ b. p first || b) IH ∙ swap (p first) (p x) (list_any p rest)

any_sorted : {X : Type 0} (key : X → List ℕ) (p : X → Bool) (xs : List X) → list_any p (ascending_by key xs) ≡ list_any p xs
unfolding ascending_by
any_sorted key p [] = refl
any_sorted key p (x ∷ xs) = any_put key p x (ascending_by key xs) ∙ ap (λ b. p x || b) (any_sorted key p xs)

abbrev is_over_at : ℕ → Fact → Bool
is_over_at height x = ends_at height (terms_in (Some x.deed))

abbrev ending_ids : ℕ → List Fact → List (List ℕ)
ending_ids height xs = map (λ (x : Fact). x.id) (filter (is_over_at height) xs)

any_cons : (height : ℕ) (id : List ℕ) (x : Fact) (xs : List Fact) → list_any (λ c. bytes_eq c id) (ending_ids height (x ∷ xs)) ≡ ((is_over_at height x && bytes_eq x.id id) || list_any (λ c. bytes_eq c id) (ending_ids height xs))
any_cons height id x xs = by (is_over_at height x)
  where
    by : (b : Bool) → list_any (λ c. bytes_eq c id) (map (λ (y : Fact). y.id) (if b then x ∷ filter (is_over_at height) xs else filter (is_over_at height) xs)) ≡ ((b && bytes_eq x.id id) || list_any (λ c. bytes_eq c id) (ending_ids height xs))
    by true = refl
    by false = refl

any_ending : (height : ℕ) (id : List ℕ) (facts : List Fact) → list_any (λ c. bytes_eq c id) (ending_ids height (standing facts)) ≡ ends_at height (terms_at facts id)
any_ending height id [] = refl
any_ending height id (x ∷ rest) = by (is_known rest x.id) refl (bytes_eq x.id id) refl (any_ending height id rest)
  where
    terms_or : (found : Option Deed) → terms_in (option_or found None) ≡ terms_in found
    terms_or None = refl
    terms_or (Some what) = refl

    and_true : (b : Bool) → (b && true) ≡ b
    and_true true = refl
    and_true false = refl

    and_false : (b : Bool) → (b && false) ≡ false
    and_false true = refl
    and_false false = refl

    by : (k : Bool) → is_known rest x.id ≡ k → (b : Bool) → bytes_eq x.id id ≡ b → list_any (λ c. bytes_eq c id) (ending_ids height (standing rest)) ≡ ends_at height (terms_at rest id) → list_any (λ c. bytes_eq c id) (ending_ids height (if k then standing rest else x ∷ standing rest)) ≡ ends_at height (terms_in (option_or (last_deed rest id) (if b then Some x.deed else None)))
    by true known true same IH =
        let there = known-some rest id (ap (is_known rest) (sym (same_text x.id id (sym same))) ∙ known) in
        IH ∙ ap (λ found. ends_at height (terms_in found)) (there.1 ∙ sym (ap (λ found. option_or found (Some x.deed)) there.1))
    by true known false other IH = IH ∙ ap (ends_at height) (sym (terms_or (last_deed rest id)))
    by false known true same IH =
        let none : last_deed rest id ≡ None = unknown rest id (ap (is_known rest) (sym (same_text x.id id (sym same))) ∙ known) in
        let nothing : list_any (λ c. bytes_eq c id) (ending_ids height (standing rest)) ≡ false = IH ∙ ap (λ found. ends_at height (terms_in found)) none in
        any_cons height id x (standing rest) ∙ ap (λ b. (is_over_at height x && b) || list_any (λ c. bytes_eq c id) (ending_ids height (standing rest))) same ∙ ap (λ b. (is_over_at height x && true) || b) nothing ∙ or_false (is_over_at height x && true) ∙ and_true (is_over_at height x) ∙ ap (λ found. ends_at height (terms_in (option_or found (Some x.deed)))) (sym none)
    by false known false other IH =
        any_cons height id x (standing rest) ∙ ap (λ b. (is_over_at height x && b) || list_any (λ c. bytes_eq c id) (ending_ids height (standing rest))) other ∙ ap (λ b. b || list_any (λ c. bytes_eq c id) (ending_ids height (standing rest))) (and_false (is_over_at height x)) ∙ IH ∙ ap (ends_at height) (sym (terms_or (last_deed rest id)))

-- a contract is among those that end exactly where it runs to that height
pub is_ending : (height : ℕ) (id : List ℕ) (facts : List Fact) → list_any (λ c. bytes_eq c id) (ending height facts) ≡ ends_at height (terms_at facts id)
unfolding ending
is_ending height id facts = any_sorted (λ i. i) (λ c. bytes_eq c id) (ending_ids height (standing facts)) ∙ any_ending height id facts

ends_then : (height : ℕ) (found : Option Terms) (terms : Terms) → ends_at height found ≡ true → found ≡ Some terms → terms.end ≡ height
ends_then height None terms e is = cc
ends_then height (Some t) terms e is = let same : t ≡ terms = cc in ap (λ (x : Terms). x.end) (sym same) ∙ eqb-true t.end height e

all_from : (ended : ℕ → Bool) (facts : List Fact) (all part : List (List ℕ)) → ((id : List ℕ) → list_any (λ c. bytes_eq c id) part ≡ true → list_any (λ c. bytes_eq c id) all ≡ true) → ((id : List ℕ) → list_any (λ c. bytes_eq c id) all ≡ true → (terms : Terms) → terms_at facts id ≡ Some terms → ended terms.end ≡ true) → AllEnd ended facts part
all_from ended facts all [] inside ends = tt
all_from ended facts all (contract ∷ contracts) inside ends =
    (ends contract (inside contract (left (bytes_eq contract contract) (list_any (λ c. bytes_eq c contract) contracts) (same-self contract))), all_from ended facts all contracts (λ id there. inside id (right (bytes_eq contract id) (list_any (λ c. bytes_eq c id) contracts) there)) ends)
  where
    left : (b c : Bool) → b ≡ true → (b || c) ≡ true
    left b c e = ap (λ x. x || c) e

    right : (b c : Bool) → c ≡ true → (b || c) ≡ true
    right true c e = refl
    right false c e = e

pub all_end : (ended : ℕ → Bool) (height : ℕ) (facts : List Fact) → ended height ≡ true → AllEnd ended facts (ending height facts)
all_end ended height facts now = all_from ended facts (ending height facts) (ending height facts) (λ id there. there) (λ id there terms runs.
    ap ended (ends_then height (terms_at facts id) terms (sym (is_ending height id facts) ∙ there) runs) ∙ now)
