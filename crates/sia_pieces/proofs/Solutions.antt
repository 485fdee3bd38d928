-- The coefficients that the divided differences give are those, and the only ones, of a polynomial with the values.
use Rattle.std.proofs.Common.{◌≡◌, ◌≢◌, ℕ, zero, suc, ◌+◌, ◌-◌, ◌%◌, ◌<◌, ◌≤◌, bit_xor, List, [], ◌∷◌, length, get_or, refl, sym, ◌∙◌, ap, arith, inl, inr, set, add-one, get_or-set_other, get_or-set_same}
use Rattle.std.proofs.lemmas.Nat.{xor_of_8}
use Rattle.std.proofs.lemmas.Bool.{cases_lt}
use Rattle.std.proofs.lemmas.Grind.{same_number_lists}
use Rattle.std.proofs.lemmas.List.{get_or_past}
use Rattle.sia_pieces.specs.Field.{product}
use Rattle.sia_pieces.specs.Pieces.{value, sum_of_terms}
use Rattle.sia_pieces.specs.declared.field.TheConstants.{EXPONENTS}
use Rattle.sia_pieces.specs.Solving.{reciprocal, slope, slopes, raised, solved}
use Rattle.sia_pieces.proofs.Bits.{added_twice}
use Rattle.sia_pieces.proofs.FieldLaws.{product_of_sum, product_by_sum, product_lt, product-zero, zero-product, one-product, product_comm, product_assoc, power_lt}
use Rattle.sia_pieces.proofs.Tables.{inverse_by_tables, power_at}
use Rattle.sia_pieces.proofs.Values.{AreElements, other_elements, swapped_factors, value_of_more, value_lt}
use lib.Bits.{xor_comm, xor_assoc, xor_self, xor_zero_r}

-- an element before others
elements_of : (d : ℕ) (ds : List ℕ) → d < 256 → AreElements ds → AreElements (d ∷ ds)
elements_of d ds hd all = at
  where
    at : (i : ℕ) → get_or (d ∷ ds) i 0 < 256
    at zero = hd
    at (suc i) = all i

-- ---- inverses and slopes

-- the product with the reciprocal is 1
pub with_reciprocal : (a : ℕ) → 0 < a → a < 256 → product a (reciprocal a) ≡ 1
unfolding reciprocal
with_reciprocal a some lt = inverse_by_tables a some lt

pub reciprocal_lt : (a : ℕ) → reciprocal a < 256
unfolding reciprocal
reciprocal_lt a = rw (power_at ((255 - get_or EXPONENTS a 0) % 255) (omega arith)) (power_lt 2 ((255 - get_or EXPONENTS a 0) % 255) (omega arith))

-- two elements whose sum is 0 are one
one_if_no_sum : (a b : ℕ) → bit_xor a b ≡ 0 → a ≡ b
one_if_no_sum a b none = sym (added_twice a b) ∙ ap (λ s. bit_xor s b) none

pub some_sum : (a b : ℕ) → a ≢ b → 0 < bit_xor a b
some_sum a b differ =
    elim (cases_lt 0 (bit_xor a b)) [
      | inl some ↦ some
      | inr none ↦ let e : bit_xor a b ≡ 0 = omega arith in absurd (differ (one_if_no_sum a b e))
    ]

slope_lt : (p y q z : ℕ) → y < 256 → z < 256 → slope p y q z < 256
unfolding slope
slope_lt p y q z hy hz = product_lt (bit_xor z y) (reciprocal (bit_xor q p)) (xor_of_8 z y hz hy) (reciprocal_lt (bit_xor q p))

-- the slope times the distance is the difference of the values
slope_times : (p y q z : ℕ) → p < 256 → y < 256 → q < 256 → z < 256 → q ≢ p → product (bit_xor q p) (slope p y q z) ≡ bit_xor z y
unfolding slope
slope_times p y q z hp hy hq hz differ =
    let far : bit_xor q p < 256 = xor_of_8 q p hq hp in
    let rise : bit_xor z y < 256 = xor_of_8 z y hz hy in
    swapped_factors (bit_xor q p) (bit_xor z y) (reciprocal (bit_xor q p)) far rise (reciprocal_lt (bit_xor q p))
    ∙ ap (product (bit_xor z y)) (with_reciprocal (bit_xor q p) (some_sum q p differ) far)
    ∙ product_comm (bit_xor z y) 1 rise (omega arith)
    ∙ one-product (bit_xor z y) rise

-- what times the distance is the difference is the slope
slope_only : (p y q z v : ℕ) → p < 256 → y < 256 → q < 256 → z < 256 → v < 256 → q ≢ p → product (bit_xor q p) v ≡ bit_xor z y → v ≡ slope p y q z
unfolding slope
slope_only p y q z v hp hy hq hz hv differ is =
    let far : bit_xor q p < 256 = xor_of_8 q p hq hp in
    let rise : bit_xor z y < 256 = xor_of_8 z y hz hy in
    let r : ℕ = reciprocal (bit_xor q p) in
    let hr : r < 256 = reciprocal_lt (bit_xor q p) in
    sym (one-product v hv)
    ∙ ap (λ one. product one v) (sym (with_reciprocal (bit_xor q p) (some_sum q p differ) far) ∙ product_comm (bit_xor q p) r far hr)
    ∙ product_assoc r (bit_xor q p) v hr far hv
    ∙ ap (product r) is
    ∙ product_comm r (bit_xor z y) hr rise

-- the slope that the code computes
pub slope_is : (p y q q' z z' factor result : ℕ) → result ≡ product (bit_xor z y) factor → factor ≡ reciprocal (bit_xor q p) → z ≡ z' → q' ≡ q → result ≡ slope p y q' z'
unfolding slope
slope_is p y q q' z z' factor result is by one at =
    is
    ∙ ap (product (bit_xor z y)) by
    ∙ ap (λ z. product (bit_xor z y) (reciprocal (bit_xor q p))) one
    ∙ ap (λ q. product (bit_xor z' y) (reciprocal (bit_xor q p))) (sym at)

slopes_elements : (p y : ℕ) (qs zs : List ℕ) → y < 256 → AreElements zs → AreElements (slopes p y qs zs)
unfolding slopes
slopes_elements p y [] zs hy all = λ i. omega arith
slopes_elements p y (q ∷ qs) [] hy all = λ i. omega arith
slopes_elements p y (q ∷ qs) (z ∷ zs) hy all = elements_of (slope p y q z) (slopes p y qs zs) (slope_lt p y q z hy (all 0)) (slopes_elements p y qs zs hy (other_elements z zs all))

pub slopes_at : (p y : ℕ) (qs zs : List ℕ) (i : ℕ) → length qs ≡ length zs → i < length zs → get_or (slopes p y qs zs) i 0 ≡ slope p y (get_or qs i 0) (get_or zs i 0)
unfolding slopes
slopes_at p y [] [] i long lt = absurd (omega arith)
slopes_at p y [] (z ∷ zs) i long lt = absurd (omega arith)
slopes_at p y (q ∷ qs) [] i long lt = absurd (omega arith)
slopes_at p y (q ∷ qs) (z ∷ zs) zero long lt = refl
slopes_at p y (q ∷ qs) (z ∷ zs) (suc i) long lt = slopes_at p y qs zs i (omega arith) (omega arith)

pub length-slopes : (p y : ℕ) (qs zs : List ℕ) → length qs ≡ length zs → length (slopes p y qs zs) ≡ length zs
unfolding slopes
length-slopes p y [] [] long = refl
length-slopes p y [] (z ∷ zs) long = absurd (omega arith)
length-slopes p y (q ∷ qs) [] long = refl
length-slopes p y (q ∷ qs) (z ∷ zs) long = ap suc (length-slopes p y qs zs (omega arith))

-- ---- a polynomial times x + p, and a constant

pub raised_at : (p : ℕ) (ys : List ℕ) (i : ℕ) → get_or (raised p ys) i 0 ≡ bit_xor (get_or ys i 0) (product p (get_or ys (suc i) 0))
unfolding raised
raised_at p [] i = sym (product-zero p)
raised_at p (y ∷ ys) zero = refl
raised_at p (y ∷ ys) (suc i) = raised_at p ys i

pub length-raised : (p : ℕ) (ys : List ℕ) → length (raised p ys) ≡ length ys
unfolding raised
length-raised p [] = refl
length-raised p (y ∷ ys) = ap suc (length-raised p ys)

raised_elements : (p : ℕ) (ys : List ℕ) → p < 256 → AreElements ys → AreElements (raised p ys)
raised_elements p ys hp all = λ i. rw (raised_at p ys i) (xor_of_8 (get_or ys i 0) (product p (get_or ys (suc i) 0)) (all i) (product_lt p (get_or ys (suc i) 0) hp (all (suc i))))

-- the value at x is the constant and x + p times the value of the polynomial
value_of_raised : (p y x : ℕ) (qs : List ℕ) → p < 256 → x < 256 → AreElements (y ∷ qs) → value (raised p (y ∷ qs)) x ≡ bit_xor y (product (bit_xor x p) (value qs x))
unfolding raised sum_of_terms
value_of_raised p y x [] hp hx all =
    value_of_more (bit_xor y (product p 0)) [] x hx (raised_elements p (y ∷ []) hp all)
    ∙ (rw (product-zero p, product-zero x, product-zero (bit_xor x p)) (xor_zero_r (bit_xor y 0)))
value_of_raised p y x (q ∷ qs) hp hx all =
    let others : AreElements (q ∷ qs) = other_elements y (q ∷ qs) all in
    let hq : q < 256 = others 0 in
    let v : ℕ = value qs x in
    let hv : v < 256 = value_lt qs x hx (other_elements q qs others) in
    let far : bit_xor x p < 256 = xor_of_8 x p hx hp in
    let w : ℕ = product (bit_xor x p) v in
    value_of_more (bit_xor y (product p q)) (raised p (q ∷ qs)) x hx (raised_elements p (y ∷ q ∷ qs) hp all)
    ∙ ap (λ u. bit_xor (bit_xor y (product p q)) (product x u)) (value_of_raised p q x qs hp hx others)
    ∙ ap (bit_xor (bit_xor y (product p q))) (product_of_sum x q w ∙ ap (bit_xor (product x q)) (swapped_factors x (bit_xor x p) v hx far hv))
    ∙ xor_assoc y (product p q) (bit_xor (product x q) (product (bit_xor x p) (product x v)))
    ∙ ap (bit_xor y)
    (sym (xor_assoc (product p q) (product x q) (product (bit_xor x p) (product x v)))
    ∙ ap (λ s. bit_xor s (product (bit_xor x p) (product x v))) (xor_comm (product p q) (product x q) ∙ sym (product_by_sum x p q))
    ∙ sym (product_of_sum (bit_xor x p) q (product x v))
    ∙ ap (product (bit_xor x p)) (sym (value_of_more q qs x hx others)))

-- a polynomial is the one that its division by x + p gives, and its value at p
divided : (d : ℕ) (ds : List ℕ) (p : ℕ) → p < 256 → AreElements (d ∷ ds) → (qs : List ℕ) × (length qs ≡ length ds) × AreElements qs × (d ∷ ds ≡ raised p (value (d ∷ ds) p ∷ qs))
unfolding raised sum_of_terms
divided d [] p hp all =
    ([], refl, (λ i. omega arith), ap (λ e. e ∷ []) (sym (added_twice d (product p 0)) ∙ ap (λ v. bit_xor v (product p 0)) (sym (value_of_more d [] p hp all))))
divided d (e ∷ es) p hp all =
    let others : AreElements (e ∷ es) = other_elements d (e ∷ es) all in
    let rest = divided e es p hp others in
    let v : ℕ = value (e ∷ es) p in
    let first : d ≡ bit_xor (value (d ∷ e ∷ es) p) (product p v) = sym (added_twice d (product p v)) ∙ ap (λ u. bit_xor u (product p v)) (sym (value_of_more d (e ∷ es) p hp all)) in
    (v ∷ rest.0, ap suc rest.1, elements_of v rest.0 (value_lt (e ∷ es) p hp others) rest.2, ap (λ b. b ∷ e ∷ es) first ∙ ap (λ bs. bit_xor (value (d ∷ e ∷ es) p) (product p v) ∷ bs) rest.3)

-- ---- what the loops leave

-- slopes, one by one
pub slopes_are : (p y : ℕ) (qs zs new : List ℕ) → length qs ≡ length zs → length new ≡ length zs → ((m : ℕ) → m < length zs → get_or new m 0 ≡ slope p y (get_or qs m 0) (get_or zs m 0)) → new ≡ slopes p y qs zs
slopes_are p y qs zs new same long each =
    same_number_lists new (slopes p y qs zs) (long ∙ sym (length-slopes p y qs zs same))
    (λ m h. let within : m < length zs = omega arith in each m within ∙ sym (slopes_at p y qs zs m same within))

-- a raised polynomial, one coefficient after another up to i - 1
pub raised_are : (p : ℕ) (ys new : List ℕ) (i : ℕ) → length new ≡ length ys → length ys ≤ i → ((m : ℕ) → m + 1 < i → get_or new m 0 ≡ bit_xor (get_or ys m 0) (product p (get_or ys (m + 1) 0))) → ((m : ℕ) → i ≤ m + 1 → get_or new m 0 ≡ get_or ys m 0) → new ≡ raised p ys
raised_are p ys new i long all done kept =
    same_number_lists new (raised p ys) (long ∙ sym (length-raised p ys))
    (λ m h. elim (cases_lt (m + 1) i) [
      | inl below ↦ done m below ∙ rw (add-one m) (sym (raised_at p ys m))
      | inr past ↦
          let none : get_or ys (suc m) 0 ≡ 0 = get_or_past ys (suc m) 0 (omega arith) in
          kept m past ∙ sym (xor_zero_r (get_or ys m 0)) ∙ ap (bit_xor (get_or ys m 0)) (sym (product-zero p)) ∙ ap (λ z. bit_xor (get_or ys m 0) (product p z)) (sym none) ∙ sym (raised_at p ys m)
    ])

pub raised_done : (p : ℕ) (ys values : List ℕ) (i new : ℕ) → 1 ≤ i → i < length values → new ≡ product p (get_or values i 0) → ((m : ℕ) → m + 1 < i → get_or values m 0 ≡ bit_xor (get_or ys m 0) (product p (get_or ys (m + 1) 0))) → ((m : ℕ) → i ≤ m + 1 → get_or values m 0 ≡ get_or ys m 0) → (m : ℕ) → m + 1 < i + 1 → get_or (set values (i - 1) (bit_xor (get_or values (i - 1) 0) new)) m 0 ≡ bit_xor (get_or ys m 0) (product p (get_or ys (m + 1) 0))
raised_done p ys values i new some within is done kept m lt =
    elim (cases_lt (m + 1) i) [
      | inl below ↦ let other : m ≢ i - 1 = omega arith in rw get_or-set_other (done m below)
      | inr past ↦
          let here : i - 1 ≡ m = omega arith in
          let next : i ≡ m + 1 = omega arith in
          let inside : m < length values = omega arith in
          let value : bit_xor (get_or values m 0) new ≡ bit_xor (get_or ys m 0) (product p (get_or ys (m + 1) 0)) =
          ap (λ v. bit_xor v new) (kept m past) ∙ ap (bit_xor (get_or ys m 0)) (is ∙ ap (product p) (kept i (omega arith) ∙ ap (λ j. get_or ys j 0) next)) in
          ap (λ j. get_or (set values j (bit_xor (get_or values j 0) new)) m 0) here ∙ (rw get_or-set_same value)
    ]

pub raised_kept : (ys values : List ℕ) (i new : ℕ) → 1 ≤ i → ((m : ℕ) → i ≤ m + 1 → get_or values m 0 ≡ get_or ys m 0) → (m : ℕ) → i + 1 ≤ m + 1 → get_or (set values (i - 1) new) m 0 ≡ get_or ys m 0
raised_kept ys values i new some kept m le = let other : m ≢ i - 1 = omega arith in rw get_or-set_other (kept m (omega arith))

-- ---- solutions

-- different places
abbrev pub AreDistinct : List ℕ → Type 0
AreDistinct ps = (i j : ℕ) → i < j → j < length ps → get_or ps i 0 ≢ get_or ps j 0

other_distinct : (p : ℕ) (ps : List ℕ) → AreDistinct (p ∷ ps) → AreDistinct ps
other_distinct p ps apart = λ i j less lt. apart (suc i) (suc j) (omega arith) (omega arith)

first_distinct : (p : ℕ) (ps : List ℕ) → AreDistinct (p ∷ ps) → (i : ℕ) → i < length ps → get_or ps i 0 ≢ p
first_distinct p ps apart i lt = λ same. apart 0 (suc i) (omega arith) (omega arith) (sym same)

pub length-solved : (ps ys : List ℕ) → length ys ≡ length ps → length (solved ps ys) ≡ length ps
unfolding solved
length-solved [] ys long = refl
length-solved (p ∷ ps) [] long = absurd (omega arith)
length-solved (p ∷ ps) (y ∷ ys) long =
    let same : length ps ≡ length ys = omega arith in
    length-raised p (y ∷ solved ps (slopes p y ps ys)) ∙ ap suc (length-solved ps (slopes p y ps ys) (length-slopes p y ps ys same ∙ sym same))

pub solved_elements : (ps ys : List ℕ) → AreElements ps → AreElements ys → AreElements (solved ps ys)
unfolding solved
solved_elements [] ys hp hy = λ i. omega arith
solved_elements (p ∷ ps) [] hp hy = λ i. omega arith
solved_elements (p ∷ ps) (y ∷ ys) hp hy =
    raised_elements p (y ∷ solved ps (slopes p y ps ys)) (hp 0)
    (elements_of y (solved ps (slopes p y ps ys)) (hy 0) (solved_elements ps (slopes p y ps ys) (other_elements p ps hp) (slopes_elements p y ps ys (hy 0) (other_elements y ys hy))))

-- they have the values at the places
pub solved_has : (ps ys : List ℕ) → length ys ≡ length ps → AreDistinct ps → AreElements ps → AreElements ys → (i : ℕ) → i < length ps → value (solved ps ys) (get_or ps i 0) ≡ get_or ys i 0
unfolding solved
solved_has [] ys long apart hp hy i lt = absurd (omega arith)
solved_has (p ∷ ps) [] long apart hp hy i lt = absurd (omega arith)
solved_has (p ∷ ps) (y ∷ ys) long apart hp hy zero lt =
    let qs : List ℕ = solved ps (slopes p y ps ys) in
    let all : AreElements (y ∷ qs) = elements_of y qs (hy 0) (solved_elements ps (slopes p y ps ys) (other_elements p ps hp) (slopes_elements p y ps ys (hy 0) (other_elements y ys hy))) in
    value_of_raised p y p qs (hp 0) (hp 0) all
    ∙ ap (λ far. bit_xor y (product far (value qs p))) (xor_self p)
    ∙ ap (bit_xor y) (zero-product (value qs p))
    ∙ xor_zero_r y
solved_has (p ∷ ps) (y ∷ ys) long apart hp hy (suc i) lt =
    let qs : List ℕ = solved ps (slopes p y ps ys) in
    let all : AreElements (y ∷ qs) = elements_of y qs (hy 0) (solved_elements ps (slopes p y ps ys) (other_elements p ps hp) (slopes_elements p y ps ys (hy 0) (other_elements y ys hy))) in
    let q : ℕ = get_or ps i 0 in
    let z : ℕ = get_or ys i 0 in
    let within : i < length ps = omega arith in
    let same : length ps ≡ length ys = omega arith in
    let behind : value qs q ≡ slope p y q z =
    solved_has ps (slopes p y ps ys) (length-slopes p y ps ys same ∙ sym same) (other_distinct p ps apart) (other_elements p ps hp) (slopes_elements p y ps ys (hy 0) (other_elements y ys hy)) i within
    ∙ slopes_at p y ps ys i same (omega arith) in
    value_of_raised p y q qs (hp 0) (hp (suc i)) all
    ∙ ap (λ v. bit_xor y (product (bit_xor q p) v)) behind
    ∙ ap (bit_xor y) (slope_times p y q z (hp 0) (hy 0) (hp (suc i)) (hy (suc i)) (first_distinct p ps apart i within))
    ∙ xor_comm y (bit_xor z y)
    ∙ added_twice z y

-- the value at a place of what is behind the constant is the slope to it
behind : (p y d : ℕ) (ps ys ds qs : List ℕ) (i : ℕ) → p < 256 → get_or ps i 0 < 256 → y < 256 → get_or ys i 0 < 256 → AreElements (y ∷ qs) → get_or ps i 0 ≢ p → length ps ≡ length ys → i < length ps → d ∷ ds ≡ raised p (y ∷ qs) → value (d ∷ ds) (get_or ps i 0) ≡ get_or ys i 0 → value qs (get_or ps i 0) ≡ get_or (slopes p y ps ys) i 0
behind p y d ps ys ds qs i hp hq hy hz all differ same within whole has =
    let q : ℕ = get_or ps i 0 in
    let z : ℕ = get_or ys i 0 in
    let v : ℕ = value qs q in
    let hv : v < 256 = value_lt qs q hq (other_elements y qs all) in
    let sum : bit_xor y (product (bit_xor q p) v) ≡ z = sym (value_of_raised p y q qs hp hq all) ∙ ap (λ ds. value ds q) (sym whole) ∙ has in
    let times : product (bit_xor q p) v ≡ bit_xor z y =
    sym (added_twice (product (bit_xor q p) v) y) ∙ ap (λ s. bit_xor s y) (xor_comm (product (bit_xor q p) v) y ∙ sum) in
    slope_only p y q z v hp hy hq hz hv differ times ∙ sym (slopes_at p y ps ys i same (omega arith))

-- no others have them
pub solved_only : (ps ys ds : List ℕ) → length ys ≡ length ps → length ds ≡ length ps → AreDistinct ps → AreElements ps → AreElements ys → AreElements ds → ((i : ℕ) → i < length ps → value ds (get_or ps i 0) ≡ get_or ys i 0) → ds ≡ solved ps ys
unfolding solved
solved_only [] ys [] long wide apart hp hy hd has = refl
solved_only [] ys (d ∷ ds) long wide apart hp hy hd has = absurd (omega arith)
solved_only (p ∷ ps) [] ds long wide apart hp hy hd has = absurd (omega arith)
solved_only (p ∷ ps) (y ∷ ys) [] long wide apart hp hy hd has = absurd (omega arith)
solved_only (p ∷ ps) (y ∷ ys) (d ∷ ds) long wide apart hp hy hd has =
    let parts = divided d ds p (hp 0) hd in
    let qs : List ℕ = parts.0 in
    let all : AreElements (y ∷ qs) = elements_of y qs (hy 0) parts.2 in
    let same : length ps ≡ length ys = omega arith in
    let first : value (d ∷ ds) p ≡ y = has 0 (omega arith) in
    let whole : d ∷ ds ≡ raised p (y ∷ qs) = parts.3 ∙ ap (λ v. raised p (v ∷ qs)) first in
    let slopes_are : (i : ℕ) → i < length ps → value qs (get_or ps i 0) ≡ get_or (slopes p y ps ys) i 0 =
    λ i within. behind p y d ps ys ds qs i (hp 0) (hp (suc i)) (hy 0) (hy (suc i)) all (first_distinct p ps apart i within) same within whole (has (suc i) (omega arith)) in
    let wide' : length ds ≡ length ps = omega arith in
    let rest : qs ≡ solved ps (slopes p y ps ys) =
    solved_only ps (slopes p y ps ys) qs (length-slopes p y ps ys same ∙ sym same) (parts.1 ∙ wide') (other_distinct p ps apart) (other_elements p ps hp) (slopes_elements p y ps ys (hy 0) (other_elements y ys hy)) parts.2 slopes_are in
    whole ∙ ap (λ qs. raised p (y ∷ qs)) rest
