-- What is issued up to a height, without a walk.
use Rattle.std.proofs.Common.{◌≡◌, ℕ, zero, suc, ◌+◌, ◌-◌, ◌*◌, ◌^◌, ◌<◌, ◌≤◌, refl, ap, arith}
use Rattle.std.specs.Prelude.{min}
use Rattle.sia_rules.specs.Amounts.{issued}
use Rattle.sia_rules.proofs.Issue.{issued-none, issued-suc}

-- one factor more, the other one less
step : (h m : ℕ) → m + h ≡ 599998 → h < 270000 → suc h * m ≡ h * suc m + 2 * (299999 - h)
step h m e low =
    let one : suc h * m ≡ h * m + m = omega arith in
    let other : h * suc m ≡ h * m + h = omega arith in
    omega (arith, one, other, e, low)

-- while each block creates a siacoin less than the one before it
early : (h : ℕ) → h ≤ 270000 → issued h ≡ h * (599999 - h) * 500000000000000000000000
early zero low =
    let none : 0 * (599999 - 0) ≡ 0 = omega arith in
    omega (arith, issued-none, none)
early (suc h) low =
    let below : h ≤ 270000 = omega (arith, low) in
    let left : 599999 - h ≡ suc (599999 - suc h) = omega (arith, low) in
    let parts : 599999 - suc h + h ≡ 599998 = omega (arith, low) in
    let under : h < 270000 = omega (arith, low) in
    let same : h * (599999 - h) ≡ h * suc (599999 - suc h) = ap (λ m. h * m) left in
    omega (arith, early h below, issued-suc h, step h (599999 - suc h) parts under, same, under)

-- and then, where each creates 30,000
late : (k : ℕ) → issued (270000 + k) ≡ issued 270000 + k * 30000 * 10 ^ 24
late zero = let here : 270000 + 0 ≡ 270000 = omega arith in omega (arith, ap issued here)
late (suc k) =
    let next : 270000 + suc k ≡ suc (270000 + k) = omega arith in
    omega (arith, ap issued next, issued-suc (270000 + k), late k)

pub issued_is : (h first then_on : ℕ) → first ≡ min h 270000 → then_on ≡ h - first → issued h ≡ first * (599999 - first) * 500000000000000000000000 + then_on * 30000 * 10 ^ 24
issued_is h first then_on one other =
    let low : first ≤ 270000 = omega (arith, one) in
    by then_on refl
  where
    by : (k : ℕ) → then_on ≡ k → issued h ≡ first * (599999 - first) * 500000000000000000000000 + then_on * 30000 * 10 ^ 24
    by zero e =
        let same : h ≡ first = omega (arith, one, other, e) in
        let low : first ≤ 270000 = omega (arith, one) in
        omega (arith, ap issued same, early first low, e)
    by (suc k) e =
        let top : first ≡ 270000 = omega (arith, one, other, e) in
        let there : h ≡ 270000 + suc k = omega (arith, one, other, e) in
        let most : 270000 ≤ 270000 = omega arith in
        let whole : issued first ≡ first * (599999 - first) * 500000000000000000000000 = early first (omega (arith, top)) in
        omega (arith, ap issued there, late (suc k), whole, ap issued top, e)
