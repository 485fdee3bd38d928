-- What one fact more does to the sums over what stands.
use Rattle.std.proofs.Common.{◌≡◌, ℕ, ◌+◌, ◌<◌, length, drop, get_or, Bool, true, false, List, [], ◌∷◌, ◌++◌, refl, ap, sym, ◌∙◌, arith}
use Rattle.std.specs.Prelude.{◌||◌, Option, Some, None, if◌then◌else◌}
use Rattle.std.specs.Option.{option_or}
use Rattle.std.specs.List.{sum_by}
use Rattle.std.specs.Cmp.Lexicographic.{same_text}
use Rattle.std.proofs.lemmas.Cmp.{nat_list_eq_equiv}
use Rattle.std.proofs.lemmas.List.Folds.{list_any-append}
use Rattle.std.proofs.lemmas.List.{drop_more}
use Rattle.std.proofs.lemmas.List.Sums.{sum_by-cons}
use Rattle.sia_ledger.specs.Facts.{fact, is_known, last_deed, standing}
use Rattle.sia_ledger.specs.Holdings.{held}
use Rattle.sia_ledger.specs.Registered.{last_counts}
use Rattle.sia_ledger.specs.declared.fact.Deed.{Deed}
use Rattle.sia_ledger.specs.declared.fact.Fact.{Fact}
use Rattle.std.specs.Str.{bytes_eq}

pub or_false : (b : Bool) → (b || false) ≡ b
or_false true = refl
or_false false = refl

pub or_true : (b : Bool) → (b || true) ≡ true
or_true true = refl
or_true false = refl

pub known-push : (facts : List Fact) (x : Fact) (id : List ℕ) → is_known (facts ++ x ∷ []) id ≡ (is_known facts id || bytes_eq x.id id)
known-push facts x id = list_any-append (λ (fact : Fact). bytes_eq fact.id id) facts (x ∷ []) ∙ ap (λ b. is_known facts id || b) (or_false (bytes_eq x.id id))

pub same-self : (id : List ℕ) → bytes_eq id id ≡ true
same-self id = nat_list_eq_equiv.refl id

pub same-sym : (a b : List ℕ) → bytes_eq a b ≡ bytes_eq b a
same-sym a b = by (bytes_eq a b) refl (bytes_eq b a) refl
  where
    by : (x : Bool) → bytes_eq a b ≡ x → (y : Bool) → bytes_eq b a ≡ y → bytes_eq a b ≡ bytes_eq b a
    by true p true q = p ∙ sym q
    by false p false q = p ∙ sym q
    by true p false q =
        let e : a ≡ b = same_text a b (sym p) in
        let whole : bytes_eq b a ≡ true = ap (λ z. bytes_eq z a) (sym e) ∙ same-self a in
        p ∙ sym whole
    by false p true q =
        let e : b ≡ a = same_text b a (sym q) in
        let whole : bytes_eq a b ≡ true = ap (λ z. bytes_eq z b) (sym e) ∙ same-self b in
        whole ∙ sym q

-- nothing is known of what no fact is about
pub unknown : (facts : List Fact) (id : List ℕ) → is_known facts id ≡ false → last_deed facts id ≡ None
unknown [] id e = refl
unknown (fact ∷ rest) id e = by (bytes_eq fact.id id) (is_known rest id) refl e (unknown rest id)
  where
    by : (b k : Bool) → is_known rest id ≡ k → (b || k) ≡ false → (is_known rest id ≡ false → last_deed rest id ≡ None) → option_or (last_deed rest id) (if b then Some fact.deed else None) ≡ None
    by true k is e none = cc
    by false k is e none = rw (none (is ∙ e)) refl

pub last-push : (facts : List Fact) (x : Fact) (id : List ℕ) → last_deed (facts ++ x ∷ []) id ≡ (if bytes_eq x.id id then Some x.deed else last_deed facts id)
last-push [] x id = by (bytes_eq x.id id)
  where
    by : (b : Bool) → option_or None (if b then Some x.deed else None) ≡ (if b then Some x.deed else None)
    by true = refl
    by false = refl
last-push (fact ∷ rest) x id = ap (λ found. option_or found (if bytes_eq fact.id id then Some fact.deed else None)) (last-push rest x id) ∙ by (bytes_eq x.id id)
  where
    by : (b : Bool) → option_or (if b then Some x.deed else last_deed rest id) (if bytes_eq fact.id id then Some fact.deed else None) ≡ (if b then Some x.deed else option_or (last_deed rest id) (if bytes_eq fact.id id then Some fact.deed else None))
    by true = refl
    by false = refl

-- what is known has a last deed
pub known-some : (facts : List Fact) (id : List ℕ) → is_known facts id ≡ true → (what : Deed) × (last_deed facts id ≡ Some what)
known-some [] id e = cc
known-some (fact ∷ rest) id e = by (bytes_eq fact.id id) (last_deed rest id) refl e (known-some rest id)
  where
    by : (b : Bool) (found : Option Deed) → last_deed rest id ≡ found → (b || is_known rest id) ≡ true → (is_known rest id ≡ true → (what : Deed) × (last_deed rest id ≡ Some what)) → (what : Deed) × (option_or (last_deed rest id) (if b then Some fact.deed else None) ≡ Some what)
    by b (Some what) is e later = (what, rw is refl)
    by true None is e later = (fact.deed, rw is refl)
    by false None is e later = let there = later e in absurd (none_some there.0 (sym is ∙ there.1))
      where
        none_some : (what : Deed) → None ≡ Some what → ⊥
        none_some what p = cc

pub held-cons : (value : Deed → ℕ) (fact : Fact) (rest : List Fact) → held value (fact ∷ rest) ≡ (if is_known rest fact.id then 0 else value fact.deed) + held value rest
unfolding held
held-cons value fact rest = by (is_known rest fact.id)
  where
    by : (b : Bool) → sum_by (λ (f : Fact). value f.deed) (if b then standing rest else fact ∷ standing rest) ≡ (if b then 0 else value fact.deed) + sum_by (λ (f : Fact). value f.deed) (standing rest)
    by true = omega arith
    by false = sum_by-cons (λ (f : Fact). value f.deed) fact (standing rest)

pub held-nil : (value : Deed → ℕ) → held value [] ≡ 0
unfolding held
held-nil value = refl

-- one fact more adds what it counts, and takes away what the last one on its identifier counted
pub held-push : (value : Deed → ℕ) (facts : List Fact) (x : Fact) → held value (facts ++ x ∷ []) + last_counts value (last_deed facts x.id) ≡ held value facts + value x.deed
held-push value [] x = omega (arith, held-cons value x [], held-nil value)
held-push value (fact ∷ rest) x = by (held-push value rest x) (bytes_eq fact.id x.id) refl (is_known rest fact.id) refl
  where
    new : held value (fact ∷ (rest ++ x ∷ [])) ≡ (if is_known rest fact.id || bytes_eq x.id fact.id then 0 else value fact.deed) + held value (rest ++ x ∷ [])
    new = held-cons value fact (rest ++ x ∷ []) ∙ ap (λ b. (if b then 0 else value fact.deed) + held value (rest ++ x ∷ [])) (known-push rest x fact.id)

    by : held value (rest ++ x ∷ []) + last_counts value (last_deed rest x.id) ≡ held value rest + value x.deed → (b : Bool) → bytes_eq fact.id x.id ≡ b → (k : Bool) → is_known rest fact.id ≡ k → held value (fact ∷ (rest ++ x ∷ [])) + last_counts value (option_or (last_deed rest x.id) (if bytes_eq fact.id x.id then Some fact.deed else None)) ≡ held value (fact ∷ rest) + value x.deed
    by IH true same true known =
        let e : fact.id ≡ x.id = same_text fact.id x.id (sym same) in
        let there = known-some rest x.id (ap (is_known rest) (sym e) ∙ known) in
        let last : last_counts value (option_or (last_deed rest x.id) (if bytes_eq fact.id x.id then Some fact.deed else None)) ≡ last_counts value (last_deed rest x.id) = rw (there.1) refl in
        let old : held value (fact ∷ rest) ≡ 0 + held value rest = held-cons value fact rest ∙ ap (λ b. (if b then 0 else value fact.deed) + held value rest) known in
        let now : held value (fact ∷ (rest ++ x ∷ [])) ≡ 0 + held value (rest ++ x ∷ []) = new ∙ ap (λ b. (if b || bytes_eq x.id fact.id then 0 else value fact.deed) + held value (rest ++ x ∷ [])) known in
        omega (arith, IH, last, old, now)
    by IH true same false known =
        let e : fact.id ≡ x.id = same_text fact.id x.id (sym same) in
        let none : last_deed rest x.id ≡ None = unknown rest x.id (ap (is_known rest) (sym e) ∙ known) in
        let last : last_counts value (option_or (last_deed rest x.id) (if bytes_eq fact.id x.id then Some fact.deed else None)) ≡ value fact.deed = rw (none, same) refl in
        let before : last_counts value (last_deed rest x.id) ≡ 0 = rw none refl in
        let old : held value (fact ∷ rest) ≡ value fact.deed + held value rest = held-cons value fact rest ∙ ap (λ b. (if b then 0 else value fact.deed) + held value rest) known in
        let turned : bytes_eq x.id fact.id ≡ true = same-sym x.id fact.id ∙ same in
        let now : held value (fact ∷ (rest ++ x ∷ [])) ≡ 0 + held value (rest ++ x ∷ []) = new ∙ ap (λ b. (if is_known rest fact.id || b then 0 else value fact.deed) + held value (rest ++ x ∷ [])) turned ∙ ap (λ b. (if b then 0 else value fact.deed) + held value (rest ++ x ∷ [])) (or_true (is_known rest fact.id)) in
        omega (arith, IH, last, before, old, now)
    by IH false same k known =
        let last : last_counts value (option_or (last_deed rest x.id) (if bytes_eq fact.id x.id then Some fact.deed else None)) ≡ last_counts value (last_deed rest x.id) = ap (λ b. last_counts value (option_or (last_deed rest x.id) (if b then Some fact.deed else None))) same ∙ or_none (last_deed rest x.id) in
        let turned : bytes_eq x.id fact.id ≡ false = same-sym x.id fact.id ∙ same in
        let now : held value (fact ∷ (rest ++ x ∷ [])) ≡ (if is_known rest fact.id then 0 else value fact.deed) + held value (rest ++ x ∷ []) = new ∙ ap (λ b. (if is_known rest fact.id || b then 0 else value fact.deed) + held value (rest ++ x ∷ [])) turned ∙ ap (λ b. (if b then 0 else value fact.deed) + held value (rest ++ x ∷ [])) (or_false (is_known rest fact.id)) in
        omega (arith, IH, last, held-cons value fact rest, now)
      where
        or_none : (found : Option Deed) → last_counts value (option_or found None) ≡ last_counts value found
        or_none None = refl
        or_none (Some what) = refl

-- the sum over what stands from a place on
pub held_step : (value : Deed → ℕ) (facts : List Fact) (i : ℕ) (x : Fact) → i < length facts → x ≡ get_or facts i x → held value (drop i facts) ≡ (if is_known (drop (i + 1) facts) x.id then 0 else value x.deed) + held value (drop (i + 1) facts)
held_step value facts i x within is =
    let split : drop i facts ≡ x ∷ drop (i + 1) facts = drop_more facts i x within ∙ ap (λ y. y ∷ drop (i + 1) facts) (sym is) in
    ap (held value) split ∙ held-cons value x (drop (i + 1) facts)

pub held_known : (value : Deed → ℕ) (facts : List Fact) (i : ℕ) (x : Fact) → i < length facts → x ≡ get_or facts i x → true ≡ is_known (drop (i + 1) facts) x.id → held value (drop (i + 1) facts) ≡ held value (drop i facts)
held_known value facts i x within is known =
    let step = held_step value facts i x within is ∙ ap (λ b. (if b then 0 else value x.deed) + held value (drop (i + 1) facts)) (sym known) in
    omega (arith, step)

pub held_unknown : (value : Deed → ℕ) (facts : List Fact) (i : ℕ) (x : Fact) → i < length facts → x ≡ get_or facts i x → false ≡ is_known (drop (i + 1) facts) x.id → value x.deed + held value (drop (i + 1) facts) ≡ held value (drop i facts)
held_unknown value facts i x within is known =
    let step = held_step value facts i x within is ∙ ap (λ b. (if b then 0 else value x.deed) + held value (drop (i + 1) facts)) (sym known) in
    omega (arith, step)

pub held_nothing : (value : Deed → ℕ) (facts : List Fact) → length facts ≡ 0 → held value facts ≡ 0
held_nothing value [] is = held-nil value
held_nothing value (x ∷ facts) is = let more : length (x ∷ facts) ≡ length facts + 1 = omega arith in absurd (omega (arith, is, more))
