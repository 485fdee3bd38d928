-- Claims in shares.
use Rattle.std.proofs.Common.{◌≡◌, ℕ, suc, ◌+◌, ◌*◌, ◌/◌, ◌<◌, ◌≤◌, Bool, true, false, List, [], ◌∷◌, ◌++◌, refl, ap, sym, ◌∙◌, arith}
use Rattle.std.specs.Prelude.{◌||◌, if◌then◌else◌}
use Rattle.std.specs.Str.{bytes_eq}
use Rattle.std.proofs.lemmas.List.Sums.{sum_by-cons}
use Rattle.std.proofs.Math.Nat.{mul_assoc, mul-div_cancel}
use Rattle.sia_ledger.specs.declared.fact.Fact.{Fact}
use Rattle.sia_ledger.specs.declared.fact.Deed.{Deed}
use Rattle.sia_ledger.specs.declared.fact.Deed.TheVariants as deed
use Rattle.sia_rules.specs.Amounts.{tax}
use Rattle.sia_ledger.specs.Claiming.{shares_in, all_shares}
use Rattle.sia_ledger.specs.Facts.{claim_at, funds_of, is_known, share, tax_of, taxes}

or_assoc : (a b c : Bool) → (a || (b || c)) ≡ ((a || b) || c)
or_assoc true b c = refl
or_assoc false b c = refl

-- a fact of either list is about the identifier
pub known_append : (xs ys : List Fact) (id : List ℕ) → is_known (xs ++ ys) id ≡ (is_known xs id || is_known ys id)
known_append [] ys id = refl
known_append (x ∷ xs) ys id = ap (λ known. bytes_eq x.id id || known) (known_append xs ys id) ∙ or_assoc (bytes_eq x.id id) (is_known xs id) (is_known ys id)

-- a claim is counted behind the last fact about it
pub claim_later : (x : Fact) (rest : List Fact) (id : List ℕ) → is_known rest id ≡ true → claim_at (x ∷ rest) id ≡ claim_at rest id
claim_later x rest id e = ap (λ k. if k then claim_at rest id else if bytes_eq x.id id then share x.deed rest else 0) e

pub claim_first : (x : Fact) (rest : List Fact) (id : List ℕ) → is_known rest id ≡ false → claim_at (x ∷ rest) id ≡ (if bytes_eq x.id id then share x.deed rest else 0)
claim_first x rest id e = ap (λ k. if k then claim_at rest id else if bytes_eq x.id id then share x.deed rest else 0) e

one_tax : (what : Deed) → tax_of what ≡ shares_in what * 10000
unfolding tax
one_tax deed.Block = refl
one_tax (deed.Coin output from) = refl
one_tax (deed.Fund output) = refl
one_tax (deed.Formed terms) = refl
one_tax deed.Spent = refl
one_tax (deed.Revised terms) = refl
one_tax (deed.Settled valid) = refl

pub taxes_in_shares : (facts : List Fact) → taxes facts ≡ all_shares facts * 10000
unfolding taxes
taxes_in_shares [] = refl
taxes_in_shares (x ∷ facts) =
    let one = sum_by-cons (λ (f : Fact). tax_of f.deed) x facts in
    let other = sum_by-cons (λ (f : Fact). shares_in f.deed) x facts in
    omega (arith, one, other, one_tax x.deed, taxes_in_shares facts)

-- a claim is so many siafunds times all shares
pub share_exact : (what : Deed) (since : List Fact) → share what since ≡ funds_of what * all_shares since
share_exact what since =
    let n = funds_of what in
    let positive : 0 < 10000 = omega arith in
    ap (λ t. n * t / 10000) (taxes_in_shares since) ∙ ap (λ t. t / 10000) (sym (mul_assoc n (all_shares since) 10000)) ∙ mul-div_cancel (n * all_shares since) positive

pub at_least : (v n : ℕ) → n ≤ suc v * n
at_least v n =
    let e : suc v * n ≡ v * n + n = omega arith in
    omega (arith, e)
