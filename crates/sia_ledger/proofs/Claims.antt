-- What one fact more does to the claims of the live siafund outputs.
use Rattle.std.proofs.Common.{◌≡◌, ℕ, zero, ◌+◌, ◌-◌, ◌*◌, ◌/◌, ◌<◌, ◌≤◌, Bool, true, false, List, [], ◌∷◌, ◌++◌, refl, ap, sym, ◌∙◌, arith, lit<}
use Rattle.std.specs.Prelude.{◌||◌, nat_eq, Option, Some, None, if◌then◌else◌}
use Rattle.std.specs.List.{sum_by}
use Rattle.std.specs.Cmp.Lexicographic.{pointwise, same_text}
use Rattle.std.proofs.lemmas.List.Sums.{sum_by-append, sum_by-cons}
use Rattle.std.proofs.Math.Nat.{add-mul-div_right, add-mul, mul-add, mul_assoc}
use Rattle.sia_ledger.specs.declared.fact.Deed.TheVariants as deed
use Rattle.sia_ledger.specs.Facts.{fact, is_known, tax_of, taxes, funds_of, share, claim_at}
use Rattle.sia_ledger.specs.Holdings.{held, outputs, unclaimed}
use Rattle.sia_ledger.specs.declared.fact.Deed.{Deed}
use Rattle.sia_ledger.specs.declared.fact.Fact.{Fact}
use Rattle.sia_rules.specs.Amounts.{tax}
use Rattle.std.specs.Str.{bytes_eq}
use Rattle.sia_ledger.proofs.Held.{or_false, or_true, known-push, same-sym, same-self, held-cons, held-nil}

taxes-push : (facts : List Fact) (x : Fact) → taxes (facts ++ x ∷ []) ≡ taxes facts + tax_of x.deed
unfolding taxes
taxes-push facts x =
    let split = sum_by-append (λ (f : Fact). tax_of f.deed) facts (x ∷ []) in
    let one = sum_by-cons (λ (f : Fact). tax_of f.deed) x [] in
    omega (arith, split, one)

taxes-nil : taxes [] ≡ 0
unfolding taxes
taxes-nil = refl

unclaimed-cons : (fact : Fact) (rest : List Fact) → unclaimed (fact ∷ rest) ≡ (if is_known rest fact.id then 0 else share fact.deed rest) + unclaimed rest
unfolding unclaimed
unclaimed-cons fact rest = refl

pub unclaimed-nil : unclaimed [] ≡ 0
unfolding unclaimed
unclaimed-nil = refl

share-nil : (what : Deed) → share what [] ≡ 0
share-nil what = rw taxes-nil (none (funds_of what))
  where
    none : (n : ℕ) → n * 0 / 10000 ≡ 0
    none n = let e : n * 0 ≡ 0 = omega arith in rw e refl

-- what nothing is known of claims nothing
no_claim : (facts : List Fact) (id : List ℕ) → is_known facts id ≡ false → claim_at facts id ≡ 0
no_claim [] id e = refl
no_claim (fact ∷ rest) id e = by (bytes_eq fact.id id) (is_known rest id) e
  where
    by : (b k : Bool) → (b || k) ≡ false → (if k then claim_at rest id else if b then share fact.deed rest else 0) ≡ 0
    by true k e = cc
    by false true e = cc
    by false false e = refl

-- a fact without a tax takes away what its identifier claimed
pub unclaimed-push : (facts : List Fact) (x : Fact) → tax_of x.deed ≡ 0 → unclaimed (facts ++ x ∷ []) + claim_at facts x.id ≡ unclaimed facts
unclaimed-push [] x untaxed = omega (arith, unclaimed-cons x [], unclaimed-nil, share-nil x.deed)
unclaimed-push (fact ∷ rest) x untaxed = by (unclaimed-push rest x untaxed) (bytes_eq fact.id x.id) refl (is_known rest fact.id) refl
  where
    same_share : share fact.deed (rest ++ x ∷ []) ≡ share fact.deed rest
    same_share =
        let e : taxes (rest ++ x ∷ []) ≡ taxes rest = omega (arith, taxes-push rest x, untaxed) in
        rw e refl

    new : unclaimed (fact ∷ (rest ++ x ∷ [])) ≡ (if is_known rest fact.id || bytes_eq x.id fact.id then 0 else share fact.deed rest) + unclaimed (rest ++ x ∷ [])
    new = unclaimed-cons fact (rest ++ x ∷ []) ∙ ap (λ b. (if b then 0 else share fact.deed (rest ++ x ∷ [])) + unclaimed (rest ++ x ∷ [])) (known-push rest x fact.id) ∙ ap (λ s. (if is_known rest fact.id || bytes_eq x.id fact.id then 0 else s) + unclaimed (rest ++ x ∷ [])) same_share

    by : unclaimed (rest ++ x ∷ []) + claim_at rest x.id ≡ unclaimed rest → (b : Bool) → bytes_eq fact.id x.id ≡ b → (k : Bool) → is_known rest fact.id ≡ k → unclaimed (fact ∷ (rest ++ x ∷ [])) + (if is_known rest x.id then claim_at rest x.id else if bytes_eq fact.id x.id then share fact.deed rest else 0) ≡ unclaimed (fact ∷ rest)
    by IH true same true known =
        let e : fact.id ≡ x.id = same_text fact.id x.id (sym same) in
        let there : is_known rest x.id ≡ true = ap (is_known rest) (sym e) ∙ known in
        let claim : (if is_known rest x.id then claim_at rest x.id else if bytes_eq fact.id x.id then share fact.deed rest else 0) ≡ claim_at rest x.id = rw there refl in
        let old : unclaimed (fact ∷ rest) ≡ 0 + unclaimed rest = unclaimed-cons fact rest ∙ ap (λ b. (if b then 0 else share fact.deed rest) + unclaimed rest) known in
        let now : unclaimed (fact ∷ (rest ++ x ∷ [])) ≡ 0 + unclaimed (rest ++ x ∷ []) = new ∙ ap (λ b. (if b || bytes_eq x.id fact.id then 0 else share fact.deed rest) + unclaimed (rest ++ x ∷ [])) known in
        omega (arith, IH, claim, old, now)
    by IH true same false known =
        let e : fact.id ≡ x.id = same_text fact.id x.id (sym same) in
        let gone : is_known rest x.id ≡ false = ap (is_known rest) (sym e) ∙ known in
        let claim : (if is_known rest x.id then claim_at rest x.id else if bytes_eq fact.id x.id then share fact.deed rest else 0) ≡ share fact.deed rest = rw (gone, same) refl in
        let before = no_claim rest x.id gone in
        let old : unclaimed (fact ∷ rest) ≡ share fact.deed rest + unclaimed rest = unclaimed-cons fact rest ∙ ap (λ b. (if b then 0 else share fact.deed rest) + unclaimed rest) known in
        let turned : bytes_eq x.id fact.id ≡ true = same-sym x.id fact.id ∙ same in
        let now : unclaimed (fact ∷ (rest ++ x ∷ [])) ≡ 0 + unclaimed (rest ++ x ∷ []) = new ∙ ap (λ b. (if is_known rest fact.id || b then 0 else share fact.deed rest) + unclaimed (rest ++ x ∷ [])) turned ∙ ap (λ b. (if b then 0 else share fact.deed rest) + unclaimed (rest ++ x ∷ [])) (or_true (is_known rest fact.id)) in
        omega (arith, IH, claim, before, old, now)
    by IH false same k known =
        let claim : (if is_known rest x.id then claim_at rest x.id else if bytes_eq fact.id x.id then share fact.deed rest else 0) ≡ claim_at rest x.id = ap (λ b. if is_known rest x.id then claim_at rest x.id else if b then share fact.deed rest else 0) same ∙ either (is_known rest x.id) refl in
        let turned : bytes_eq x.id fact.id ≡ false = same-sym x.id fact.id ∙ same in
        let now : unclaimed (fact ∷ (rest ++ x ∷ [])) ≡ (if is_known rest fact.id then 0 else share fact.deed rest) + unclaimed (rest ++ x ∷ []) = new ∙ ap (λ b. (if is_known rest fact.id || b then 0 else share fact.deed rest) + unclaimed (rest ++ x ∷ [])) turned ∙ ap (λ b. (if b then 0 else share fact.deed rest) + unclaimed (rest ++ x ∷ [])) (or_false (is_known rest fact.id)) in
        omega (arith, IH, claim, unclaimed-cons fact rest, now)
      where
        either : (b : Bool) → is_known rest x.id ≡ b → (if b then claim_at rest x.id else 0) ≡ claim_at rest x.id
        either true e = refl
        either false e = sym (no_claim rest x.id e)

-- a new fact with a tax adds its part for each live siafund
pub unclaimed-more : (facts : List Fact) (x : Fact) (s : ℕ) → tax_of x.deed ≡ s * 10000 → funds_of x.deed ≡ 0 → is_known facts x.id ≡ false → unclaimed (facts ++ x ∷ []) ≡ unclaimed facts + held funds_of facts * s
unclaimed-more [] x s taxed none new =
    let nothing : 0 * s ≡ 0 = omega arith in
    let product : held funds_of [] * s ≡ 0 = ap (λ n. n * s) (held-nil funds_of) ∙ nothing in
    omega (arith, unclaimed-cons x [], unclaimed-nil, share-nil x.deed, product)
unclaimed-more (fact ∷ rest) x s taxed none new = by (bytes_eq fact.id x.id) refl (is_known rest x.id) refl new (unclaimed-more rest x s taxed none) (is_known rest fact.id) refl
  where
    more_share : share fact.deed (rest ++ x ∷ []) ≡ share fact.deed rest + funds_of fact.deed * s
    more_share =
        let n = funds_of fact.deed in
        let e : taxes (rest ++ x ∷ []) ≡ taxes rest + s * 10000 = taxes-push rest x ∙ ap (λ t. taxes rest + t) taxed in
        let spread : n * (taxes rest + s * 10000) ≡ n * taxes rest + n * s * 10000 = mul-add n (taxes rest) (s * 10000) ∙ ap (λ p. n * taxes rest + p) (sym (mul_assoc n s 10000)) in
        let positive : 0 < 10000 = omega arith in
        ap (λ t. n * t / 10000) e ∙ ap (λ t. t / 10000) spread ∙ add-mul-div_right (n * taxes rest) (n * s) positive

    by : (b : Bool) → bytes_eq fact.id x.id ≡ b → (u : Bool) → is_known rest x.id ≡ u → (b || u) ≡ false → (is_known rest x.id ≡ false → unclaimed (rest ++ x ∷ []) ≡ unclaimed rest + held funds_of rest * s) → (k : Bool) → is_known rest fact.id ≡ k → unclaimed (fact ∷ (rest ++ x ∷ [])) ≡ unclaimed (fact ∷ rest) + held funds_of (fact ∷ rest) * s
    by true same u is e IH k known = cc
    by false same true is e IH k known = cc
    by false same false is e IH k known =
        let turned : bytes_eq x.id fact.id ≡ false = same-sym x.id fact.id ∙ same in
        let there : is_known (rest ++ x ∷ []) fact.id ≡ k = known-push rest x fact.id ∙ ap (λ b. is_known rest fact.id || b) turned ∙ or_false (is_known rest fact.id) ∙ known in
        let now = unclaimed-cons fact (rest ++ x ∷ []) ∙ ap (λ b. (if b then 0 else share fact.deed (rest ++ x ∷ [])) + unclaimed (rest ++ x ∷ [])) there in
        let old = unclaimed-cons fact rest ∙ ap (λ b. (if b then 0 else share fact.deed rest) + unclaimed rest) known in
        let funds = held-cons funds_of fact rest ∙ ap (λ b. (if b then 0 else funds_of fact.deed) + held funds_of rest) known in
        last k now old funds (IH is)
      where
        last : (b : Bool) → unclaimed (fact ∷ (rest ++ x ∷ [])) ≡ (if b then 0 else share fact.deed (rest ++ x ∷ [])) + unclaimed (rest ++ x ∷ []) → unclaimed (fact ∷ rest) ≡ (if b then 0 else share fact.deed rest) + unclaimed rest → held funds_of (fact ∷ rest) ≡ (if b then 0 else funds_of fact.deed) + held funds_of rest → unclaimed (rest ++ x ∷ []) ≡ unclaimed rest + held funds_of rest * s → unclaimed (fact ∷ (rest ++ x ∷ [])) ≡ unclaimed (fact ∷ rest) + held funds_of (fact ∷ rest) * s
        last true now old funds IH =
            let product : held funds_of (fact ∷ rest) * s ≡ held funds_of rest * s = ap (λ n. n * s) (funds ∙ omega arith) in
            omega (arith, now, old, product, IH)
        last false now old funds IH =
            let product : held funds_of (fact ∷ rest) * s ≡ funds_of fact.deed * s + held funds_of rest * s = ap (λ n. n * s) funds ∙ add-mul (funds_of fact.deed) (held funds_of rest) s in
            omega (arith, now, old, product, IH, more_share)
