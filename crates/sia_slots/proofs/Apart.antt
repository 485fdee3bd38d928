-- No slot stands in a list twice just where none stands at two places.
use Rattle.std.proofs.Common.{◌≡◌, ◌∙◌, ℕ, zero, suc, ◌<◌, ◌≤◌, ◌==◌, Bool, true, false, List, [], ◌∷◌, Contains, length, get_or, refl, sym, subst, arith}
use Rattle.std.proofs.lemmas.Bool.{eq-eqb, eqb-true}
use Rattle.std.proofs.lemmas.List.Elements.{Contains-get_or}
use Rattle.sia_slots.specs.Slots.{NamedOnce, times}
use Rattle.sia_slots.proofs.Times.{contained, found, one_if, times_cons}

-- none stands at two places
abbrev StandsApart : List ℕ → Type 0
StandsApart slots = (i j d : ℕ) → i < j → j < length slots → get_or slots i d ≡ get_or slots j d → ⊥

counted : (slot x : ℕ) → x ≡ slot → one_if slot x ≡ 1
counted slot x same = rw (eq-eqb x slot same) refl

pub once_apart : (slots : List ℕ) → NamedOnce slots → StandsApart slots
once_apart [] once i j d less below same = omega (arith, below)
once_apart (x ∷ xs) once zero zero d less below same = omega (arith, less)
once_apart (x ∷ xs) once zero (suc j) d less below same =
    let there : Contains xs (get_or xs j d) = Contains-get_or xs j d (omega (arith, below)) in
    let again : 0 < times x xs = contained x xs (subst (Contains xs) (sym same) there) in
    omega (arith, once x, times_cons x x xs, counted x x refl, again)
once_apart (x ∷ xs) once (suc i) zero d less below same = omega (arith, less)
once_apart (x ∷ xs) once (suc i) (suc j) d less below same =
    once_apart xs (λ slot. omega (arith, once slot, times_cons slot x xs)) i j d (omega (arith, less)) (omega (arith, below)) same

apart_by : (x slot : ℕ) (xs : List ℕ) (b : Bool) → (x == slot) ≡ b → StandsApart (x ∷ xs) → times slot xs ≤ 1 → times slot (x ∷ xs) ≤ 1
apart_by x slot xs false is apart later =
    let none : one_if slot x ≡ 0 = rw is refl in
    omega (arith, none, later, times_cons slot x xs)
apart_by x slot xs true is apart later = by (times slot xs) refl
  where
    by : (n : ℕ) → times slot xs ≡ n → times slot (x ∷ xs) ≤ 1
    by zero none = omega (arith, none, counted slot x (eqb-true x slot is), times_cons slot x xs)
    by (suc n) some =
        let there = found slot xs (omega (arith, some)) in
        absurd (apart zero (suc there.0) slot (omega arith) (omega (arith, there.1)) (eqb-true x slot is ∙ sym there.2))

pub apart_once : (slots : List ℕ) → StandsApart slots → NamedOnce slots
apart_once [] apart slot = omega arith
apart_once (x ∷ xs) apart slot =
    apart_by x slot xs (x == slot) refl apart (apart_once xs (λ i j d less below same. apart (suc i) (suc j) d (omega (arith, less)) (omega (arith, below)) same) slot)
