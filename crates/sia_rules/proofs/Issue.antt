-- How much is issued up to a height.
use Rattle.std.proofs.Common.{◌≡◌, ℕ, zero, suc, ◌+◌, ◌-◌, ◌*◌, ◌^◌, ◌<◌, ◌≤◌, refl, arith, add-one}
use Rattle.sia_rules.specs.Amounts.{subsidy, issued}

-- one height more
pub issued-more : (n : ℕ) → issued (n + 1) ≡ issued n + subsidy (n + 1)
unfolding issued
issued-more n = rw add-one refl

pub issued-suc : (n : ℕ) → issued (suc n) ≡ issued n + subsidy (suc n)
unfolding issued
issued-suc n = refl

pub issued-none : issued 0 ≡ 0
unfolding issued
issued-none = refl

-- above 30,000 siacoins a height there is at most 270,000 siacoins for each of 270,000 heights
issued_bound : (n : ℕ) → issued n + (270000 - n) * (270000 * 10 ^ 24) ≤ n * (30000 * 10 ^ 24) + 270000 * (270000 * 10 ^ 24)
issued_bound zero = omega (arith, issued-none)
issued_bound (suc n) = omega (arith, issued_bound n, issued-suc n)

pub issued-fits : (n : ℕ) → n < 2 ^ 32 → issued n < 2 ^ 128
issued-fits n low = omega (arith, issued_bound n)
