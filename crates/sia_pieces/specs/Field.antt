-- The field of 256 elements. An element is a byte, read as a polynomial over the two elements 0 and 1: bit i is the
-- coefficient of x^i. Sums are exclusive or, products are taken modulo x^8 + x^4 + x^3 + x^2 + 1, whose bits are 0x11d.
-- Public source: J. S. Plank, 'A Tutorial on Reed-Solomon Coding for Fault-Tolerance in RAID-like Systems' (1997).
use Rattle.std.specs.Prelude.{ℕ, zero, suc, ◌+◌, ◌*◌, ◌^◌, bit_xor}
use Rattle.std.specs.Int.{bit_at}

-- the product of two polynomials, the second one of degree below n: the sum of the first one shifted by i for each bit i of
-- the second
unfoldable pub polynomial_product : ℕ → ℕ → ℕ → ℕ
polynomial_product a b zero = 0
polynomial_product a b (suc i) = bit_xor (polynomial_product a b i) (bit_at b i * (a * 2 ^ i))

-- the remainder of a polynomial of degree below 8 + n: from the top down, each bit 8 + i takes the modulus shifted by i off
unfoldable pub remainder : ℕ → ℕ → ℕ
remainder p zero = p
remainder p (suc i) = remainder (bit_xor p (bit_at p (8 + i) * (0x11d * 2 ^ i))) i

-- the product of two elements
unfoldable pub product : ℕ → ℕ → ℕ
product a b = remainder (polynomial_product a b 8) 7

-- an element to a power, where 0 to the power 0 is 1
unfoldable pub power : ℕ → ℕ → ℕ
power a zero = 1
power a (suc n) = product a (power a n)
