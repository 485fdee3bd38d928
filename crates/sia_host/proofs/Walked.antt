-- The least that fits is the first that fits of those in order.
use Rattle.std.proofs.Common.{◌≡◌, ℕ, Bool, true, false, List, [], ◌∷◌, if◌then◌else◌, Option, Some, None, refl, sym, ap, ◌∙◌, ◌-◌, ◌<◌, suc, length, drop, get_or, arith, drop-cons, Ordering, Less, Equal, Greater}
use Rattle.std.specs.List.{find, filter}
use Rattle.std.proofs.lemmas.List.{drop_all}
use Rattle.std.specs.Prelude.{◌&&◌}
use Rattle.std.specs.Ordering.{nat_cmp, is_le, ordering_reverse}
use Rattle.std.specs.Cmp.Lexicographic.{slice_cmp}
use Rattle.std.proofs.lemmas.Cmp.{nat_list_cmp_total}
use Rattle.sia_ledger.specs.Order.{ascending_by, put_by}
use Rattle.sia_host.specs.Least.{is_up_to, lesser, least_by, least_with}

-- the order of identifiers

other_way : (x y : List ℕ) → is_up_to x y ≡ false → is_up_to y x ≡ true
other_way x y = by (slice_cmp nat_cmp x y) (slice_cmp nat_cmp y x) (nat_list_cmp_total.antisymm y x)
  where
    by : (o p : Ordering) → p ≡ ordering_reverse o → is_le o ≡ false → is_le p ≡ true
    by Less p is never = (cc)
    by Equal p is never = (cc)
    by Greater p is past = rw is refl

up_to_trans : (x y z : List ℕ) → is_up_to x y ≡ true → is_up_to y z ≡ true → is_up_to x z ≡ true
up_to_trans x y z = by (slice_cmp nat_cmp x y) (slice_cmp nat_cmp y z) (slice_cmp nat_cmp x z) (nat_list_cmp_total.trans x y z) (nat_list_cmp_total.congr x y z) back
  where
    -- x below y, y equal to z
    back : slice_cmp nat_cmp y z ≡ Equal → slice_cmp nat_cmp x z ≡ slice_cmp nat_cmp x y
    back same =
        nat_list_cmp_total.antisymm x z
        ∙ ap ordering_reverse (sym (nat_list_cmp_total.congr y z x same))
        ∙ sym (nat_list_cmp_total.antisymm x y)

    by : (o p q : Ordering) → (o ≡ Less → p ≡ Less → q ≡ Less) → (o ≡ Equal → q ≡ p) → (p ≡ Equal → q ≡ o) → is_le o ≡ true → is_le p ≡ true → is_le q ≡ true
    by Less Less q less first second one two = ap is_le (less refl refl)
    by Less Equal q less first second one two = ap is_le (second refl)
    by Less Greater q less first second one two = (cc)
    by Equal p q less first second one two = ap is_le (first refl) ∙ two
    by Greater p q less first second one two = (cc)

-- lists in order

-- each identifier is at least this one
abbrev AllFrom : {X : Type 0} → (X → List ℕ) → List ℕ → List X → Type 0
AllFrom id low [] = Unit {0}
AllFrom id low (y ∷ ys) = (is_up_to low (id y) ≡ true) × AllFrom id low ys

abbrev AreAscending : {X : Type 0} → (X → List ℕ) → List X → Type 0
AreAscending id [] = Unit {0}
AreAscending id (y ∷ ys) = AllFrom id (id y) ys × AreAscending id ys

from_lower : {X : Type 0} (id : X → List ℕ) (low high : List ℕ) (ys : List X) → is_up_to low high ≡ true → AllFrom id high ys → AllFrom id low ys
from_lower id low high [] below all = tt
from_lower id low high (y ∷ ys) below all = (up_to_trans low high (id y) below all.0, from_lower id low high ys below all.1)

put_from : {X : Type 0} (id : X → List ℕ) (low : List ℕ) (x : X) (ys : List X) → is_up_to low (id x) ≡ true → AllFrom id low ys → AllFrom id low (put_by id x ys)
put_from id low x [] below all = (below, tt)
put_from id low x (y ∷ ys) below all = by (is_up_to (id x) (id y)) (put_from id low x ys below all.1)
  where
    by : (b : Bool) → AllFrom id low (put_by id x ys) → AllFrom id low (if b then x ∷ y ∷ ys else y ∷ put_by id x ys)
    by true later = (below, all)
    by false later = (all.0, later)

put_ascending : {X : Type 0} (id : X → List ℕ) (x : X) (ys : List X) → AreAscending id ys → AreAscending id (put_by id x ys)
put_ascending id x [] all = (tt, tt)
put_ascending id x (y ∷ ys) all = by (is_up_to (id x) (id y)) refl (put_ascending id x ys all.1)
  where
    by : (b : Bool) → is_up_to (id x) (id y) ≡ b → AreAscending id (put_by id x ys) → AreAscending id (if b then x ∷ y ∷ ys else y ∷ put_by id x ys)
    by true is later = ((is, from_lower id (id x) (id y) ys is all.0), all)
    by false is later = (put_from id (id y) x ys (other_way (id x) (id y) is) all.0, later)

ascending : {X : Type 0} (id : X → List ℕ) (xs : List X) → AreAscending id (ascending_by id xs)
unfolding ascending_by
ascending id [] = tt
ascending id (x ∷ xs) = put_ascending id x (ascending_by id xs) (ascending id xs)

-- what is found

-- none that is found in a list is lesser
lesser_first : {X : Type 0} (id : X → List ℕ) (fits : X → Bool) (x : X) (ys : List X) → AllFrom id (id x) ys → lesser id x (find fits ys) ≡ Some x
lesser_first id fits x [] all = refl
lesser_first id fits x (y ∷ ys) all = by (fits y) (lesser_first id fits x ys all.1)
  where
    by : (b : Bool) → lesser id x (find fits ys) ≡ Some x → lesser id x (if b then Some y else find fits ys) ≡ Some x
    by true later = ap (λ c. if c then Some x else Some y) all.0
    by false later = later

put_found : {X : Type 0} (id : X → List ℕ) (fits : X → Bool) (x : X) (ys : List X) → AreAscending id ys → find fits (put_by id x ys) ≡ least_with id fits x (find fits ys)
put_found id fits x [] all = by (fits x)
  where
    by : (b : Bool) → (if b then Some x else None) ≡ (if b then lesser id x None else None)
    by true = refl
    by false = refl
put_found id fits x (y ∷ ys) all = by (is_up_to (id x) (id y)) refl (put_found id fits x ys all.1)
  where
    first : (b : Bool) → is_up_to (id x) (id y) ≡ true → (if b then Some x else find fits (y ∷ ys)) ≡ (if b then lesser id x (find fits (y ∷ ys)) else find fits (y ∷ ys))
    first true is = sym (lesser_first id fits x (y ∷ ys) (is, from_lower id (id x) (id y) ys is all.0))
    first false is = refl

    kept : (b : Bool) → is_up_to (id x) (id y) ≡ false → Some y ≡ (if b then lesser id x (Some y) else Some y)
    kept true is = sym (ap (λ c. if c then Some x else Some y) is)
    kept false is = refl

    later : (b : Bool) → is_up_to (id x) (id y) ≡ false → find fits (put_by id x ys) ≡ least_with id fits x (find fits ys)
        → (if b then Some y else find fits (put_by id x ys)) ≡ least_with id fits x (if b then Some y else find fits ys)
    later true is found = kept (fits x) is
    later false is found = found

    by : (b : Bool) → is_up_to (id x) (id y) ≡ b → find fits (put_by id x ys) ≡ least_with id fits x (find fits ys)
        → find fits (if b then x ∷ y ∷ ys else y ∷ put_by id x ys) ≡ least_with id fits x (find fits (y ∷ ys))
    by true is found = first (fits x) is
    by false is found = later (fits y) is found

-- the least that fits is the first that fits of those in order
pub least_first : {X : Type 0} (id : X → List ℕ) (fits : X → Bool) (xs : List X) → find fits (ascending_by id xs) ≡ least_by id fits xs
unfolding least_by ascending_by
least_first id fits [] = refl
least_first id fits (x ∷ xs) = put_found id fits x (ascending_by id xs) (ascending id xs) ∙ ap (least_with id fits x) (least_first id fits xs)

-- a search among those that pass another test
pub find_filtered : {X : Type 0} (p q : X → Bool) (xs : List X) → find p (filter q xs) ≡ find (λ x. q x && p x) xs
find_filtered p q [] = refl
find_filtered p q (x ∷ xs) = by (q x) (find_filtered p q xs)
  where
    first : (d : Bool) → find p (filter q xs) ≡ find (λ x. q x && p x) xs → (if d then Some x else find p (filter q xs)) ≡ (if d then Some x else find (λ x. q x && p x) xs)
    first true later = refl
    first false later = later

    by : (b : Bool) → find p (filter q xs) ≡ find (λ x. q x && p x) xs → find p (if b then x ∷ filter q xs else filter q xs) ≡ (if b && p x then Some x else find (λ x. q x && p x) xs)
    by true later = first (p x) later
    by false later = later

-- a walk that comes to one element more

walked_to : {X : Type 0} (id : X → List ℕ) (fits : X → Bool) (xs : List X) (j : ℕ) (x d : X) → j < length xs → x ≡ get_or xs j d → least_by id fits (drop j xs) ≡ least_with id fits x (least_by id fits (drop (suc j) xs))
unfolding least_by
walked_to id fits xs j x d within is =
    ap (least_by id fits) (drop-cons xs j d within) ∙ ap (λ y. least_with id fits y (least_by id fits (drop (suc j) xs))) (sym is)

-- one that fits
pub walked_fit : {X : Type 0} (id : X → List ℕ) (fits : X → Bool) (xs : List X) (i : ℕ) (x d : X) (found now : Option X) → 0 < i → i - 1 < length xs → x ≡ get_or xs (i - 1) d → fits x ≡ true
    → found ≡ least_by id fits (drop i xs) → now ≡ lesser id x found → now ≡ least_by id fits (drop (i - 1) xs)
walked_fit id fits xs i x d found now above within is fit before step =
    let next : suc (i - 1) ≡ i = omega arith in
    step ∙ ap (lesser id x) before
    ∙ sym (walked_to id fits xs (i - 1) x d within is ∙ ap (λ b. if b then lesser id x (least_by id fits (drop (suc (i - 1)) xs)) else least_by id fits (drop (suc (i - 1)) xs)) fit
    ∙ ap (λ n. lesser id x (least_by id fits (drop n xs))) next)

-- one that doesn't
pub walked_over : {X : Type 0} (id : X → List ℕ) (fits : X → Bool) (xs : List X) (i : ℕ) (x d : X) (found : Option X) → 0 < i → i - 1 < length xs → x ≡ get_or xs (i - 1) d → fits x ≡ false
    → found ≡ least_by id fits (drop i xs) → found ≡ least_by id fits (drop (i - 1) xs)
walked_over id fits xs i x d found above within is misses before =
    let next : suc (i - 1) ≡ i = omega arith in
    before
    ∙ sym (walked_to id fits xs (i - 1) x d within is ∙ ap (λ b. if b then lesser id x (least_by id fits (drop (suc (i - 1)) xs)) else least_by id fits (drop (suc (i - 1)) xs)) misses
    ∙ ap (λ n. least_by id fits (drop n xs)) next)

-- a walk begins behind the last element
pub walk_begins : {X : Type 0} (id : X → List ℕ) (fits : X → Bool) (xs : List X) → None ≡ least_by id fits (drop (length xs) xs)
unfolding least_by
walk_begins id fits xs = sym (ap (least_by id fits) (drop_all (length xs) xs (omega arith)))

-- and has all when it comes to the first one
pub walk_ends : {X : Type 0} (id : X → List ℕ) (p q : X → Bool) (xs : List X) (found : Option X) → found ≡ least_by id (λ x. q x && p x) xs → found ≡ find p (filter q (ascending_by id xs))
walk_ends id p q xs found is = is ∙ sym (find_filtered p q (ascending_by id xs) ∙ least_first id (λ x. q x && p x) xs)
