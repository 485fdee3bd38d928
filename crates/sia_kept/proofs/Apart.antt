-- Contracts with identifiers of their own.
use Rattle.std.proofs.Common.{◌≡◌, ◌<◌, ℕ, zero, suc, ◌+◌, Bool, true, false, List, [], ◌∷◌, ◌++◌, length, map, find, get_or, set, if◌then◌else◌, Option, Some, None, refl, sym, ap, ◌∙◌, subst, arith}
use Rattle.std.specs.Option.{is_some}
use Rattle.std.specs.Str.{bytes_eq}
use Rattle.std.proofs.lemmas.Slice.Eq.{bytes_eq-Decides}
use Rattle.sia_kept.specs.State.{Kept, AreApart, IsSound, changed_at, contract_among, is_among, formed_by}

-- equal byte strings
pub same_bytes : (xs ys : List ℕ) → bytes_eq xs ys ≡ true → xs ≡ ys
same_bytes xs ys is = (bytes_eq-Decides xs ys).0 is

eq_itself : (xs : List ℕ) → bytes_eq xs xs ≡ true
eq_itself xs = (bytes_eq-Decides xs xs).1 refl

eq_flips : (xs ys : List ℕ) (b : Bool) → bytes_eq xs ys ≡ b → bytes_eq ys xs ≡ b
eq_flips xs ys true is = subst (λ zs. bytes_eq zs xs ≡ true) (same_bytes xs ys is) (eq_itself xs)
eq_flips xs ys false is = other (bytes_eq ys xs) refl
  where
    other : (b : Bool) → bytes_eq ys xs ≡ b → bytes_eq ys xs ≡ false
    other false at = at
    other true at =
        let back : bytes_eq xs ys ≡ true = subst (λ zs. bytes_eq zs ys ≡ true) (same_bytes ys xs at) (eq_itself ys) in
        (cc)

-- the contract that is found has the identifier
pub found_id : (id : List ℕ) (xs : List Kept) (c : Kept) → contract_among id xs ≡ Some c → c.id ≡ id
found_id id [] c is = (cc)
found_id id (x ∷ xs) c is = cases (bytes_eq x.id id) refl (found_id id xs c) is
  where
    cases : (b : Bool) → bytes_eq x.id id ≡ b → (contract_among id xs ≡ Some c → c.id ≡ id) → (if b then Some x else contract_among id xs) ≡ Some c → c.id ≡ id
    cases true at later is = let same : x ≡ c = (cc) in subst (λ (k : Kept). k.id ≡ id) same (same_bytes x.id id at)
    cases false at later is = later is

-- what isn't among some isn't the first of them, and not among the others
among_more : (id : List ℕ) (c : Kept) (others : List Kept) → is_among id (c ∷ others) ≡ false → (bytes_eq c.id id ≡ false) × (is_among id others ≡ false)
among_more id c others is = cases (bytes_eq c.id id) refl is
  where
    cases : (b : Bool) → bytes_eq c.id id ≡ b → is_some (if b then Some c else contract_among id others) ≡ false → (bytes_eq c.id id ≡ false) × (is_among id others ≡ false)
    cases true at none = (cc)
    cases false at none = (at, none)

among_behind : (id : List ℕ) (xs : List Kept) (c : Kept) → is_among id xs ≡ false → bytes_eq c.id id ≡ false → is_among id (xs ++ c ∷ []) ≡ false
among_behind id [] c is apart = rw apart refl
among_behind id (x ∷ xs) c is apart =
    let parts = among_more id x xs is in
    rw parts.0 (among_behind id xs c parts.1 apart)

-- one contract more, with an identifier of its own
pub apart_more : (xs : List Kept) (c : Kept) → AreApart xs → is_among c.id xs ≡ false → AreApart (xs ++ c ∷ [])
apart_more [] c are is = (refl, tt)
apart_more (x ∷ xs) c are is =
    let parts = among_more c.id x xs is in
    (among_behind x.id xs c are.0 (eq_flips x.id c.id false parts.0), apart_more xs c are.1 parts.1)

-- a change that keeps identifiers
pub among_changed : (id at : List ℕ) (f : Kept → Kept) → ((c : Kept) → (f c).id ≡ c.id) → (xs : List Kept) → is_among id (changed_at at f xs) ≡ is_among id xs
among_changed id at f keeps [] = refl
among_changed id at f keeps (x ∷ xs) = cases (bytes_eq x.id at) (among_changed id at f keeps xs)
  where
    inner : (y : Kept) (b c : Bool) → b ≡ c → is_among id (changed_at at f xs) ≡ is_among id xs → is_some (if b then Some y else contract_among id (changed_at at f xs)) ≡ is_some (if c then Some x else contract_among id xs)
    inner y true true is before = refl
    inner y false false is before = before
    inner y true false is before = (cc)
    inner y false true is before = (cc)

    cases : (b : Bool) → is_among id (changed_at at f xs) ≡ is_among id xs → is_some (find (λ (c : Kept). bytes_eq c.id id) ((if b then f x else x) ∷ changed_at at f xs)) ≡ is_some (find (λ (c : Kept). bytes_eq c.id id) (x ∷ xs))
    cases true before = inner (f x) (bytes_eq (f x).id id) (bytes_eq x.id id) (ap (λ z. bytes_eq z id) (keeps x)) before
    cases false before = inner x (bytes_eq x.id id) (bytes_eq x.id id) refl before

pub apart_changed : (at : List ℕ) (f : Kept → Kept) → ((c : Kept) → (f c).id ≡ c.id) → (xs : List Kept) → AreApart xs → AreApart (changed_at at f xs)
apart_changed at f keeps [] are = tt
apart_changed at f keeps (x ∷ xs) are = cases (bytes_eq x.id at) (apart_changed at f keeps xs are.1)
  where
    step : (y : Kept) → y.id ≡ x.id → AreApart (changed_at at f xs) → AreApart (y ∷ changed_at at f xs)
    step y same before = (among_changed y.id at f keeps xs ∙ (ap (λ id. is_among id xs) same ∙ are.0), before)

    cases : (b : Bool) → AreApart (changed_at at f xs) → AreApart ((if b then f x else x) ∷ changed_at at f xs)
    cases true before = step (f x) (keeps x) before
    cases false before = step x refl before

-- nothing is changed where the identifier isn't among them
pub unchanged : (id : List ℕ) (f : Kept → Kept) (xs : List Kept) → is_among id xs ≡ false → changed_at id f xs ≡ xs
unchanged id f [] is = refl
unchanged id f (x ∷ xs) is =
    let parts = among_more id x xs is in
    rw parts.0 (ap (λ ys. x ∷ ys) (unchanged id f xs parts.1))

-- the one at a place has another identifier than one that isn't among them
apart_from : (id : List ℕ) (c : Kept) (xs : List Kept) (i : ℕ) (d : Kept) → is_among c.id xs ≡ false → i < length xs → bytes_eq (get_or xs i d).id id ≡ true → bytes_eq c.id id ≡ false
apart_from id c [] i d none below is = elim below [ ]
apart_from id c (y ∷ ys) zero d none below is =
    let parts = among_more c.id y ys none in
    let same : y.id ≡ id = same_bytes y.id id is in
    eq_flips id c.id false (subst (λ z. bytes_eq z c.id ≡ false) same parts.0)
apart_from id c (y ∷ ys) (suc i) d none below is =
    apart_from id c ys i d (among_more c.id y ys none).1 (omega (arith, below)) is

-- the one at a place is changed alone
pub changed_one : (id : List ℕ) (f : Kept → Kept) (xs : List Kept) (i : ℕ) (d : Kept) → AreApart xs → i < length xs → bytes_eq (get_or xs i d).id id ≡ true → changed_at id f xs ≡ set xs i (f (get_or xs i d))
changed_one id f [] i d are below is = elim below [ ]
changed_one id f (x ∷ xs) zero d are below is =
    let same : x.id ≡ id = same_bytes x.id id is in
    let rest : is_among id xs ≡ false = subst (λ z. is_among z xs ≡ false) same are.0 in
    rw is (ap (λ ys. f x ∷ ys) (unchanged id f xs rest))
changed_one id f (x ∷ xs) (suc i) d are below is =
    let there : bytes_eq x.id id ≡ false = apart_from id x xs i d are.0 (omega (arith, below)) is in
    rw there (ap (λ ys. x ∷ ys) (changed_one id f xs i d are.1 (omega (arith, below)) is))

-- the one at a place is the one with its identifier
pub found_one : (id : List ℕ) (xs : List Kept) (i : ℕ) (d : Kept) → AreApart xs → i < length xs → bytes_eq (get_or xs i d).id id ≡ true → contract_among id xs ≡ Some (get_or xs i d)
found_one id [] i d are below is = elim below [ ]
found_one id (x ∷ xs) zero d are below is = rw is refl
found_one id (x ∷ xs) (suc i) d are below is =
    let there : bytes_eq x.id id ≡ false = apart_from id x xs i d are.0 (omega (arith, below)) is in
    rw there (found_one id xs i d are.1 (omega (arith, below)) is)
