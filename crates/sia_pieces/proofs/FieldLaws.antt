-- The laws of the field. Products are sums in each factor, so each law has to be shown of the powers of two alone.
use Rattle.std.proofs.Common.{◌≡◌, ℕ, zero, suc, ◌+◌, ◌*◌, ◌^◌, ◌<◌, Bool, true, bit_xor, refl, sym, ◌∙◌, ap, arith, nat_eq, nat_lt}
use Rattle.std.specs.Int.{bit_at}
use Rattle.std.proofs.lemmas.Nat.Bits.{bit_at-lt}
use Rattle.std.proofs.lemmas.Nat.{xor_lt}
use Rattle.std.proofs.lemmas.Bool.{agree_below_at, eqb-true, ltb-true}
use lib.Bits.{xor_self}
use Rattle.sia_pieces.specs.Field.{polynomial_product, remainder, product, power}
use Rattle.sia_pieces.proofs.Bits.{across, bit_of_sum, shifted_sum, sum_by_bit, by_bits, all_below}

polynomial_product_of_sum : (a b c n : ℕ) → polynomial_product a (bit_xor b c) n ≡ bit_xor (polynomial_product a b n) (polynomial_product a c n)
unfolding polynomial_product
polynomial_product_of_sum a b c zero = refl
polynomial_product_of_sum a b c (suc i) =
    rw (polynomial_product_of_sum a b c i, bit_of_sum b c i (a * 2 ^ i))
    (across (polynomial_product a b i) (polynomial_product a c i) (bit_at b i * (a * 2 ^ i)) (bit_at c i * (a * 2 ^ i)))

polynomial_product_by_sum : (a b c n : ℕ) → polynomial_product (bit_xor a b) c n ≡ bit_xor (polynomial_product a c n) (polynomial_product b c n)
unfolding polynomial_product
polynomial_product_by_sum a b c zero = refl
polynomial_product_by_sum a b c (suc i) =
    rw (polynomial_product_by_sum a b c i, shifted_sum a b i, sum_by_bit (bit_at c i) (a * 2 ^ i) (b * 2 ^ i) (bit_at-lt c i))
    (across (polynomial_product a c i) (polynomial_product b c i) (bit_at c i * (a * 2 ^ i)) (bit_at c i * (b * 2 ^ i)))

remainder_of_sum : (p q n : ℕ) → remainder (bit_xor p q) n ≡ bit_xor (remainder p n) (remainder q n)
unfolding remainder
remainder_of_sum p q zero = refl
remainder_of_sum p q (suc i) =
    rw (bit_of_sum p q (8 + i) (0x11d * 2 ^ i), across p q (bit_at p (8 + i) * (0x11d * 2 ^ i)) (bit_at q (8 + i) * (0x11d * 2 ^ i)))
    (remainder_of_sum (bit_xor p (bit_at p (8 + i) * (0x11d * 2 ^ i))) (bit_xor q (bit_at q (8 + i) * (0x11d * 2 ^ i))) i)

-- a product by a sum is the sum of the products
pub product_of_sum : (a b c : ℕ) → product a (bit_xor b c) ≡ bit_xor (product a b) (product a c)
unfolding product
product_of_sum a b c =
    ap (λ p. remainder p 7) (polynomial_product_of_sum a b c 8) ∙ remainder_of_sum (polynomial_product a b 8) (polynomial_product a c 8) 7

-- a product of a sum is the sum of the products
pub product_by_sum : (a b c : ℕ) → product (bit_xor a b) c ≡ bit_xor (product a c) (product b c)
unfolding product
product_by_sum a b c =
    ap (λ p. remainder p 7) (polynomial_product_by_sum a b c 8) ∙ remainder_of_sum (polynomial_product a c 8) (polynomial_product b c 8) 7

pub product-zero : (a : ℕ) → product a 0 ≡ 0
product-zero a = product_of_sum a 0 0 ∙ xor_self (product a 0)

pub zero-product : (a : ℕ) → product 0 a ≡ 0
zero-product a = product_by_sum 0 0 a ∙ xor_self (product 0 a)

lt_test : ℕ → ℕ → Bool
lt_test i j = nat_lt (product (2 ^ i) (2 ^ j)) 256

lt_tested : all_below (λ i. all_below (λ j. lt_test i j) 8) 8 ≡ true
unfolding lt_test product polynomial_product remainder
lt_tested = refl

-- a product of elements is an element
pub product_lt : (a b : ℕ) → a < 256 → b < 256 → product a b < 256
unfolding lt_test
product_lt a b ha hb =
    by_bits (λ b. product a b < 256) 8
    (rw (product-zero a) (omega arith))
    (λ j hj. by_bits (λ a. product a (2 ^ j) < 256) 8
    (rw (zero-product (2 ^ j)) (omega arith))
    (λ i hi. ltb-true (product (2 ^ i) (2 ^ j)) 256 (agree_below_at (λ j. lt_test i j) (λ k. true) 8 j (agree_below_at (λ i. all_below (λ j. lt_test i j) 8) (λ k. true) 8 i lt_tested hi) hj))
    (λ x y hx hy. rw (product_by_sum x y (2 ^ j)) (xor_lt 8 (product x (2 ^ j)) (product y (2 ^ j)) hx hy))
    a ha)
    (λ x y hx hy. rw (product_of_sum a x y) (xor_lt 8 (product a x) (product a y) hx hy))
    b hb

one_test : ℕ → Bool
one_test i = nat_eq (product 1 (2 ^ i)) (2 ^ i)

one_tested : all_below one_test 8 ≡ true
unfolding one_test product polynomial_product remainder
one_tested = refl

pub one-product : (a : ℕ) → a < 256 → product 1 a ≡ a
unfolding one_test
one-product a h =
    by_bits (λ a. product 1 a ≡ a) 8 (product-zero 1)
    (λ i hi. eqb-true (product 1 (2 ^ i)) (2 ^ i) (agree_below_at one_test (λ k. true) 8 i one_tested hi))
    (λ x y hx hy. product_of_sum 1 x y ∙ (rw (hx, hy) refl))
    a h

comm_test : ℕ → ℕ → Bool
comm_test i j = nat_eq (product (2 ^ i) (2 ^ j)) (product (2 ^ j) (2 ^ i))

comm_tested : all_below (λ i. all_below (λ j. comm_test i j) 8) 8 ≡ true
unfolding comm_test product polynomial_product remainder
comm_tested = refl

pub product_comm : (a b : ℕ) → a < 256 → b < 256 → product a b ≡ product b a
unfolding comm_test
product_comm a b ha hb =
    by_bits (λ b. product a b ≡ product b a) 8
    (product-zero a ∙ sym (zero-product a))
    (λ j hj. by_bits (λ a. product a (2 ^ j) ≡ product (2 ^ j) a) 8
    (zero-product (2 ^ j) ∙ sym (product-zero (2 ^ j)))
    (λ i hi. eqb-true (product (2 ^ i) (2 ^ j)) (product (2 ^ j) (2 ^ i)) (agree_below_at (λ j. comm_test i j) (λ k. true) 8 j (agree_below_at (λ i. all_below (λ j. comm_test i j) 8) (λ k. true) 8 i comm_tested hi) hj))
    (λ x y hx hy. rw (product_by_sum x y (2 ^ j), product_of_sum (2 ^ j) x y, hx, hy) refl)
    a ha)
    (λ x y hx hy. rw (product_of_sum a x y, product_by_sum x y a, hx, hy) refl)
    b hb

assoc_test : ℕ → ℕ → ℕ → Bool
assoc_test i j k = nat_eq (product (product (2 ^ i) (2 ^ j)) (2 ^ k)) (product (2 ^ i) (product (2 ^ j) (2 ^ k)))

assoc_tested : all_below (λ i. all_below (λ j. all_below (λ k. assoc_test i j k) 8) 8) 8 ≡ true
unfolding assoc_test product polynomial_product remainder
assoc_tested = refl

assoc_at : (i j k : ℕ) → i < 8 → j < 8 → k < 8 → product (product (2 ^ i) (2 ^ j)) (2 ^ k) ≡ product (2 ^ i) (product (2 ^ j) (2 ^ k))
unfolding assoc_test
assoc_at i j k hi hj hk =
    let row : all_below (λ j. all_below (λ k. assoc_test i j k) 8) 8 ≡ true = agree_below_at (λ i. all_below (λ j. all_below (λ k. assoc_test i j k) 8) 8) (λ k. true) 8 i assoc_tested hi in
    let cell : all_below (λ k. assoc_test i j k) 8 ≡ true = agree_below_at (λ j. all_below (λ k. assoc_test i j k) 8) (λ k. true) 8 j row hj in
    eqb-true (product (product (2 ^ i) (2 ^ j)) (2 ^ k)) (product (2 ^ i) (product (2 ^ j) (2 ^ k))) (agree_below_at (λ k. assoc_test i j k) (λ k. true) 8 k cell hk)

pub product_assoc : (a b c : ℕ) → a < 256 → b < 256 → c < 256 → product (product a b) c ≡ product a (product b c)
product_assoc a b c ha hb hc =
    by_bits (λ c. product (product a b) c ≡ product a (product b c)) 8
    (rw (product-zero (product a b), product-zero b, product-zero a) refl)
    (λ k hk. by_bits (λ b. product (product a b) (2 ^ k) ≡ product a (product b (2 ^ k))) 8
    (rw (product-zero a, zero-product (2 ^ k), product-zero a) refl)
    (λ j hj. by_bits (λ a. product (product a (2 ^ j)) (2 ^ k) ≡ product a (product (2 ^ j) (2 ^ k))) 8
    (rw (zero-product (2 ^ j), zero-product (2 ^ k), zero-product (product (2 ^ j) (2 ^ k))) refl)
    (λ i hi. assoc_at i j k hi hj hk)
    (λ x y hx hy. rw (product_by_sum x y (2 ^ j), product_by_sum (product x (2 ^ j)) (product y (2 ^ j)) (2 ^ k), product_by_sum x y (product (2 ^ j) (2 ^ k)), hx, hy) refl)
    a ha)
    (λ x y hx hy. rw (product_of_sum a x y, product_by_sum (product a x) (product a y) (2 ^ k), product_by_sum x y (2 ^ k), product_of_sum a (product x (2 ^ k)) (product y (2 ^ k)), hx, hy) refl)
    b hb)
    (λ x y hx hy. rw (product_of_sum (product a b) x y, product_of_sum b x y, product_of_sum a (product b x) (product b y), hx, hy) refl)
    c hc

-- ---- powers

pub power_lt : (a n : ℕ) → a < 256 → power a n < 256
unfolding power
power_lt a zero h = omega arith
power_lt a (suc n) h = product_lt a (power a n) h (power_lt a n h)

pub power_of_sum : (a i j : ℕ) → a < 256 → power a (i + j) ≡ product (power a i) (power a j)
unfolding power
power_of_sum a zero j h =
    let e : 0 + j ≡ j = omega arith in
    ap (power a) e ∙ sym (one-product (power a j) (power_lt a j h))
power_of_sum a (suc i) j h =
    let e : suc i + j ≡ suc (i + j) = omega arith in
    ap (power a) e ∙ ap (product a) (power_of_sum a i j h) ∙ sym (product_assoc a (power a i) (power a j) h (power_lt a i h) (power_lt a j h))
