-- The value of a polynomial, coefficient by coefficient.
use Rattle.std.proofs.Common.{◌≡◌, ℕ, zero, suc, ◌+◌, ◌-◌, ◌<◌, ◌≤◌, bit_xor, List, [], ◌∷◌, ◌++◌, length, get_or, drop, replicate, refl, sym, ◌∙◌, ap, subst, arith, drop-cons, add-one, inl, inr}
use Rattle.std.proofs.lemmas.Nat.{xor_of_8}
use Rattle.std.proofs.lemmas.Bool.{cases_lt}
use Rattle.std.proofs.lemmas.List.{get_or_past}
use Rattle.sia_pieces.specs.Field.{product, power}
use Rattle.sia_pieces.specs.Pieces.{sum_of_terms, value}
use Rattle.sia_pieces.proofs.FieldLaws.{product_of_sum, product_lt, product-zero, zero-product, one-product, product_comm, product_assoc, power_lt}

-- each one is an element
abbrev pub AreElements : List ℕ → Type 0
AreElements ds = (i : ℕ) → get_or ds i 0 < 256

pub first_element : (d : ℕ) (ds : List ℕ) → AreElements (d ∷ ds) → d < 256
first_element d ds all = all 0

pub other_elements : (d : ℕ) (ds : List ℕ) → AreElements (d ∷ ds) → AreElements ds
other_elements d ds all = λ i. all (suc i)

-- a factor goes into another one's product
pub swapped_factors : (a b c : ℕ) → a < 256 → b < 256 → c < 256 → product a (product b c) ≡ product b (product a c)
swapped_factors a b c ha hb hc = sym (product_assoc a b c ha hb hc) ∙ ap (λ p. product p c) (product_comm a b ha hb) ∙ product_assoc b a c hb ha hc

-- terms of the next powers are the products with x
terms_of_next : (ds : List ℕ) (x n : ℕ) → x < 256 → AreElements ds → sum_of_terms ds x (suc n) ≡ product x (sum_of_terms ds x n)
unfolding sum_of_terms power
terms_of_next [] x n hx all = sym (product-zero x)
terms_of_next (d ∷ ds) x n hx all =
    rw (terms_of_next ds x (suc n) hx (other_elements d ds all), swapped_factors d x (power x n) (first_element d ds all) hx (power_lt x n hx))
    (sym (product_of_sum x (product d (power x n)) (sum_of_terms ds x (suc n))))

-- the value by the first coefficient and the value of the others
pub value_of_more : (d : ℕ) (ds : List ℕ) (x : ℕ) → x < 256 → AreElements (d ∷ ds) → value (d ∷ ds) x ≡ bit_xor d (product x (value ds x))
unfolding sum_of_terms power
value_of_more d ds x hx all =
    let hd : d < 256 = first_element d ds all in
    let one : product d 1 ≡ d = product_comm d 1 hd (omega arith) ∙ one-product d hd in
    rw (one, terms_of_next ds x 0 hx (other_elements d ds all)) refl

pub value_lt : (ds : List ℕ) (x : ℕ) → x < 256 → AreElements ds → value ds x < 256
unfolding sum_of_terms
value_lt [] x hx all = omega arith
value_lt (d ∷ ds) x hx all =
    rw (value_of_more d ds x hx all)
    (xor_of_8 d (product x (value ds x)) (first_element d ds all) (product_lt x (value ds x) hx (value_lt ds x hx (other_elements d ds all))))

pub dropped_elements : (ds : List ℕ) (i : ℕ) → AreElements ds → AreElements (drop i ds)
dropped_elements ds zero all = all
dropped_elements [] (suc i) all = all
dropped_elements (d ∷ ds) (suc i) all = dropped_elements ds i (other_elements d ds all)

-- the value from a coefficient on
pub value_from : (ds : List ℕ) (i x : ℕ) → x < 256 → AreElements ds → i < length ds → value (drop i ds) x ≡ bit_xor (get_or ds i 0) (product x (value (drop (i + 1) ds) x))
value_from ds i x hx all lt =
    let from : AreElements (get_or ds i 0 ∷ drop (suc i) ds) = subst AreElements (drop-cons ds i 0 lt) (dropped_elements ds i all) in
    rw (add-one i, drop-cons ds i 0 lt) (value_of_more (get_or ds i 0) (drop (suc i) ds) x hx from)

-- a step from the last coefficient down
pub value_step : (ds : List ℕ) (i x sum : ℕ) → x < 256 → AreElements ds → 0 < i → i ≤ length ds → sum ≡ value (drop i ds) x → bit_xor (get_or ds (i - 1) 0) (product x sum) ≡ value (drop (i - 1) ds) x
value_step ds i x sum hx all some within is =
    let e : i ≡ i - 1 + 1 = omega arith in
    ap (λ s. bit_xor (get_or ds (i - 1) 0) (product x s)) (is ∙ ap (λ n. value (drop n ds) x) e) ∙ sym (value_from ds (i - 1) x hx all (omega arith))

-- zeros behind the coefficients don't tell
pub value_of_filled : (ds : List ℕ) (m x n : ℕ) → sum_of_terms (ds ++ replicate m 0) x n ≡ sum_of_terms ds x n
unfolding sum_of_terms
value_of_filled [] zero x n = refl
value_of_filled [] (suc m) x n = rw (zero-product (power x n)) (value_of_filled [] m x (suc n))
value_of_filled (d ∷ ds) m x n = ap (bit_xor (product d (power x n))) (value_of_filled ds m x (suc n))

-- elements as far as the list goes are elements
pub elements_within : (ds : List ℕ) → ((i : ℕ) → i < length ds → get_or ds i 0 < 256) → AreElements ds
elements_within ds all = λ i.
    elim (cases_lt i (length ds)) [
      | inl within ↦ all i within
      | inr past ↦ let e : 0 ≡ get_or ds i 0 = sym (get_or_past ds i 0 past) in subst (λ (d : ℕ). d < 256) e (omega arith)
    ]
