-- Sums by exclusive or, and claims that are shown of each power of two and of sums.
use Rattle.std.proofs.Common.{◌≡◌, ℕ, zero, suc, ◌+◌, ◌*◌, ◌/◌, ◌%◌, ◌^◌, ◌<◌, Bool, true, bit_xor, refl, sym, ◌∙◌, ap, subst, arith, add-zero}
use Rattle.std.specs.Int.{bit_at}
use Rattle.std.proofs.lemmas.Nat.Bits.{bit_at_xor, bit_at-lt}
use Rattle.std.proofs.lemmas.Bool.{agree_below}
use Rattle.std.proofs.lemmas.Nat.{pow_pos, div-add-mod'}
use Rattle.std.proofs.Math.Nat.{zero-mul, one-mul, mod-lt, pow-succ', div-lt_iff_lt-mul}
use lib.Bits.{xor_comm, xor_assoc, xor_self, xor_zero_r, xor_block, xor_shifted}

-- the sums of two pairs, added, are the sums across them
pub across : (a b c d : ℕ) → bit_xor (bit_xor a b) (bit_xor c d) ≡ bit_xor (bit_xor a c) (bit_xor b d)
across a b c d =
    xor_assoc a b (bit_xor c d)
    ∙ ap (bit_xor a) (sym (xor_assoc b c d) ∙ ap (λ x. bit_xor x d) (xor_comm b c) ∙ xor_assoc c b d)
    ∙ sym (xor_assoc a c (bit_xor b d))

-- what is added twice is gone
pub added_twice : (a b : ℕ) → bit_xor (bit_xor a b) b ≡ a
added_twice a b = xor_assoc a b b ∙ ap (bit_xor a) (xor_self b) ∙ xor_zero_r a

-- a multiple by the sum of two bits
chosen : (c d m : ℕ) → c < 2 → d < 2 → (c + d) % 2 * m ≡ bit_xor (c * m) (d * m)
chosen zero zero m hc hd = rw zero-mul refl
chosen zero (suc zero) m hc hd = rw (zero-mul m) refl
chosen (suc zero) zero m hc hd = rw (zero-mul m) (sym (xor_zero_r (1 * m)))
chosen (suc zero) (suc zero) m hc hd = zero-mul m ∙ sym (xor_self (1 * m))
chosen zero (suc (suc d)) m hc hd = absurd (omega arith)
chosen (suc zero) (suc (suc d)) m hc hd = absurd (omega arith)
chosen (suc (suc c)) d m hc hd = absurd (omega arith)

-- a multiple by a bit of a sum
pub bit_of_sum : (a b i m : ℕ) → bit_at (bit_xor a b) i * m ≡ bit_xor (bit_at a i * m) (bit_at b i * m)
bit_of_sum a b i m = ap (λ c. c * m) (bit_at_xor a b i) ∙ chosen (bit_at a i) (bit_at b i) m (bit_at-lt a i) (bit_at-lt b i)

-- a sum is shifted in both parts
pub shifted_sum : (a b k : ℕ) → bit_xor a b * 2 ^ k ≡ bit_xor (a * 2 ^ k) (b * 2 ^ k)
shifted_sum a b k =
    let some : 0 < 2 ^ k = pow_pos k in
    let e : bit_xor (a * 2 ^ k + 0) (b * 2 ^ k + 0) ≡ bit_xor a b * 2 ^ k + 0 = xor_block k a b 0 0 some some in
    simp add-zero at (sym e)

-- a multiple of a sum by a bit
pub sum_by_bit : (c a b : ℕ) → c < 2 → c * bit_xor a b ≡ bit_xor (c * a) (c * b)
sum_by_bit zero a b h = rw (zero-mul (bit_xor a b), zero-mul a, zero-mul b) refl
sum_by_bit (suc zero) a b h = rw (one-mul (bit_xor a b), one-mul a, one-mul b) refl
sum_by_bit (suc (suc c)) a b h = absurd (omega arith)

-- the top bit by itself
top : (P : ℕ → Type 0) (m : ℕ) → P 0 → P m → (q : ℕ) → q < 2 → P (q * m)
top P m none at zero h = subst P (sym (zero-mul m)) none
top P m none at (suc zero) h = subst P (sym (one-mul m)) at
top P m none at (suc (suc q)) h = absurd (omega arith)

-- a claim of zero, of each power of two below 2^n and of sums is one of each number below 2^n
pub by_bits : (P : ℕ → Type 0) (n : ℕ) → P 0 → ((i : ℕ) → i < n → P (2 ^ i)) → ((a b : ℕ) → P a → P b → P (bit_xor a b)) → (a : ℕ) → a < 2 ^ n → P a
by_bits P zero none at sums a lt = let e : 0 ≡ a = omega arith in subst P e none
by_bits P (suc n) none at sums a lt =
    let some : 0 < 2 ^ n = pow_pos n in
    let rest : a % 2 ^ n < 2 ^ n = mod-lt a some in
    let within : a < 2 * 2 ^ n = rw pow-succ' at lt in
    let high : a / 2 ^ n < 2 = (div-lt_iff_lt-mul some).1 within in
    let whole : bit_xor (a / 2 ^ n * 2 ^ n) (a % 2 ^ n) ≡ a = xor_shifted (a / 2 ^ n) n (a % 2 ^ n) rest ∙ div-add-mod' a (2 ^ n) in
    subst P whole
    (sums (a / 2 ^ n * 2 ^ n) (a % 2 ^ n)
    (top P (2 ^ n) none (at n (omega arith)) (a / 2 ^ n) high)
    (by_bits P n none (λ i h. at i (omega arith)) sums (a % 2 ^ n) rest))

-- a test of each number below n
abbrev pub all_below : (ℕ → Bool) → ℕ → Bool
all_below test n = agree_below test (λ i. true) n
