-- The pieces of a byte string. It is cut into groups of k bytes, each the coefficients of a polynomial of degree below k;
-- byte t of piece j is the value of group t at j. k values at distinct places determine the polynomial.
-- Public source: J. S. Plank, 'A Tutorial on Reed-Solomon Coding for Fault-Tolerance in RAID-like Systems' (1997).
use Rattle.std.specs.Prelude.{ℕ, zero, suc, ◌-◌, List, [], ◌∷◌, ◌++◌, map, length, take, drop, replicate, bit_xor}
use Rattle.std.specs.Int.{div_ceil}
use Rattle.std.specs.List.{range_with_len}
use Rattle.sia_pieces.specs.Field.{product, power}

-- the sum of the products of some coefficients with the powers of x from n on
unfoldable pub sum_of_terms : List ℕ → ℕ → ℕ → ℕ
sum_of_terms [] x n = 0
sum_of_terms (d ∷ ds) x n = bit_xor (product d (power x n)) (sum_of_terms ds x (suc n))

-- the value at x of the polynomial of some coefficients, that of the power 0 first
abbrev pub value : List ℕ → ℕ → ℕ
value ds x = sum_of_terms ds x 0

-- some bytes, filled with zeros to k
abbrev pub filled : ℕ → List ℕ → List ℕ
filled k bytes = bytes ++ replicate (k - length bytes) 0

-- the first groups of k bytes, that many, each one filled with zeros
unfoldable pub first_groups : ℕ → ℕ → List ℕ → List (List ℕ)
first_groups zero k bytes = []
first_groups (suc count) k bytes = filled k (take k bytes) ∷ first_groups count k (drop k bytes)

-- the groups of k bytes
abbrev pub groups : ℕ → List ℕ → List (List ℕ)
groups k bytes = first_groups (div_ceil (length bytes) k) k bytes

-- the values of some groups at a place
abbrev pub values_at : ℕ → List (List ℕ) → List ℕ
values_at place groups = map (λ (group : List ℕ). value group place) groups

-- the pieces 0 to n - 1
abbrev pub pieces : ℕ → ℕ → List ℕ → List (List ℕ)
pieces k n bytes = map (λ (place : ℕ). values_at place (groups k bytes)) (range_with_len 0 n)
