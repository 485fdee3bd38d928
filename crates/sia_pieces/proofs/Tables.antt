-- What the tables of the code hold: the powers of x, and the exponent of each element but 0.
use Rattle.std.proofs.Common.{◌≡◌, ℕ, zero, suc, ◌+◌, ◌-◌, ◌%◌, ◌<◌, inl, inr, Bool, true, ◌&&◌, List, [], ◌∷◌, length, get_or, refl, sym, ◌∙◌, ap, subst, arith, nat_eq, nat_lt}
use Rattle.std.proofs.lemmas.Bool.{agree_below_at, and_parts, cases_lt, eqb-true, ltb-true}
use Rattle.sia_pieces.specs.Field.{polynomial_product, remainder, product, power}
use Rattle.sia_pieces.specs.declared.field.TheConstants.{POWERS, EXPONENTS}
use Rattle.sia_pieces.proofs.Bits.{all_below}
use Rattle.sia_pieces.proofs.FieldLaws.{product_comm, one-product, power_lt, power_of_sum}

-- whether a list is an element and its products with x, one after another
are_powers : List ℕ → ℕ → Bool
are_powers [] a = true
are_powers (b ∷ rest) a = nat_eq b a && are_powers rest (product 2 a)

powers_tested : are_powers POWERS 1 ≡ true
unfolding are_powers product polynomial_product remainder
powers_tested = refl

power_in : (bs : List ℕ) (n i : ℕ) → are_powers bs (power 2 n) ≡ true → i < length bs → get_or bs i 0 ≡ power 2 (i + n)
unfolding are_powers power
power_in [] n i all lt = absurd (omega arith)
power_in (b ∷ rest) n zero all lt =
    let e : n ≡ 0 + n = omega arith in
    eqb-true b (power 2 n) (and_parts (nat_eq b (power 2 n)) (are_powers rest (power 2 (suc n))) all).0 ∙ ap (power 2) e
power_in (b ∷ rest) n (suc i) all lt =
    let e : i + suc n ≡ suc i + n = omega arith in
    power_in rest (suc n) i (and_parts (nat_eq b (power 2 n)) (are_powers rest (power 2 (suc n))) all).1 (omega arith) ∙ ap (power 2) e

-- the table of powers
pub power_at : (i : ℕ) → i < 255 → get_or POWERS i 0 ≡ power 2 i
unfolding power
power_at i lt =
    let e : i + 0 ≡ i = omega arith in
    power_in POWERS 0 i powers_tested lt ∙ ap (power 2) e

exponent_test : ℕ → Bool
exponent_test a = nat_lt (get_or EXPONENTS (a + 1) 0) 255 && nat_eq (get_or POWERS (get_or EXPONENTS (a + 1) 0) 0) (a + 1)

exponents_tested : all_below exponent_test 255 ≡ true
unfolding exponent_test
exponents_tested = refl

exponent_parts : (a : ℕ) → a < 255 → (get_or EXPONENTS (a + 1) 0 < 255) × (get_or POWERS (get_or EXPONENTS (a + 1) 0) 0 ≡ a + 1)
unfolding exponent_test
exponent_parts a lt =
    let p = and_parts (nat_lt (get_or EXPONENTS (a + 1) 0) 255) (nat_eq (get_or POWERS (get_or EXPONENTS (a + 1) 0) 0) (a + 1)) (agree_below_at exponent_test (λ k. true) 255 a exponents_tested lt) in
    (ltb-true (get_or EXPONENTS (a + 1) 0) 255 p.0, eqb-true (get_or POWERS (get_or EXPONENTS (a + 1) 0) 0) (a + 1) p.1)

-- the table of exponents
pub exponent_at : (a : ℕ) → 0 < a → a < 256 → (get_or EXPONENTS a 0 < 255) × (power 2 (get_or EXPONENTS a 0) ≡ a)
exponent_at a some lt =
    let e : a - 1 + 1 ≡ a = omega arith in
    let p = exponent_parts (a - 1) (omega arith) in
    subst (λ b. (get_or EXPONENTS b 0 < 255) × (power 2 (get_or EXPONENTS b 0) ≡ b)) e
    (p.0, sym (power_at (get_or EXPONENTS (a - 1 + 1) 0) p.0) ∙ p.1)

full_period : power 2 255 ≡ 1
unfolding power product polynomial_product remainder
full_period = refl

-- the powers begin again at 255
power_again : (n : ℕ) → n < 510 → power 2 (n % 255) ≡ power 2 n
power_again n lt =
    elim (cases_lt n 255) [
      | inl below ↦ let e : n % 255 ≡ n = omega arith in ap (power 2) e
      | inr above ↦
          let e : n % 255 ≡ n - 255 = omega arith in
          let whole : n - 255 + 255 ≡ n = omega arith in
          ap (power 2) e
          ∙ sym (one-product (power 2 (n - 255)) (power_lt 2 (n - 255) (omega arith)))
          ∙ product_comm 1 (power 2 (n - 255)) (omega arith) (power_lt 2 (n - 255) (omega arith))
          ∙ ap (product (power 2 (n - 255))) (sym full_period)
          ∙ sym (power_of_sum 2 (n - 255) 255 (omega arith))
          ∙ ap (power 2) whole
    ]

-- a product by the tables
pub product_by_tables : (a b : ℕ) → 0 < a → a < 256 → 0 < b → b < 256 → get_or POWERS ((get_or EXPONENTS a 0 + get_or EXPONENTS b 0) % 255) 0 ≡ product a b
product_by_tables a b some_a lt_a some_b lt_b =
    let at_a = exponent_at a some_a lt_a in
    let at_b = exponent_at b some_b lt_b in
    let i : ℕ = get_or EXPONENTS a 0 in
    let j : ℕ = get_or EXPONENTS b 0 in
    let within : i < 255 = at_a.0 in
    let within' : j < 255 = at_b.0 in
    let parts : product (power 2 i) (power 2 j) ≡ product a b = ap (λ p. product p (power 2 j)) at_a.1 ∙ ap (product a) at_b.1 in
    power_at ((i + j) % 255) (omega arith) ∙ power_again (i + j) (omega arith) ∙ power_of_sum 2 i j (omega arith) ∙ parts

-- an inverse by the tables
pub inverse_by_tables : (a : ℕ) → 0 < a → a < 256 → product a (get_or POWERS ((255 - get_or EXPONENTS a 0) % 255) 0) ≡ 1
inverse_by_tables a some lt =
    let at_a = exponent_at a some lt in
    let i : ℕ = get_or EXPONENTS a 0 in
    let within : i < 255 = at_a.0 in
    let whole : i + (255 - i) ≡ 255 = omega arith in
    ap (product a) (power_at ((255 - i) % 255) (omega arith) ∙ power_again (255 - i) (omega arith))
    ∙ ap (λ p. product p (power 2 (255 - i))) (sym at_a.1)
    ∙ sym (power_of_sum 2 i (255 - i) (omega arith))
    ∙ ap (power 2) whole
    ∙ full_period
