-- The least payout that leaves a value after its tax.
use Rattle.std.proofs.Common.{◌≡◌, ℕ, zero, suc, refl, ◌+◌, ◌-◌, ◌*◌, ◌<◌, ◌≤◌, arith}
use Rattle.sia_rules.specs.Amounts.{shares, tax, IsPayoutFor}

-- the shares are the number of whole 10,000,000 in 39 times the payout
shares-low : (payout : ℕ) → shares payout * 10000000 ≤ 39 * payout
unfolding shares
shares-low payout = omega arith

shares-high : (payout : ℕ) → 39 * payout < shares payout * 10000000 + 10000000
unfolding shares
shares-high payout = omega arith

shares-are : (payout q : ℕ) → q * 10000000 ≤ 39 * payout → 39 * payout < q * 10000000 + 10000000 → shares payout ≡ q
shares-are payout q low high = omega (arith, shares-low payout, shares-high payout)

tax-is : (payout : ℕ) → tax payout ≡ shares payout * 10000
unfolding tax
tax-is payout = refl

pub least_payout : (value q : ℕ) → q * 9610000 ≤ 39 * value → 39 * value < q * 9610000 + 10000000 → (0 < q → q * 9610000 + 390000 ≤ 39 * value) → IsPayoutFor value (value + q * 10000)
least_payout value q reached within least = record {
  leaves = omega (arith, tax-is (value + q * 10000), shares-are (value + q * 10000) q (omega arith) (omega arith));
  least = λ other leaves. below other (omega (arith, leaves, tax-is other, shares-low other)) (by q least other leaves);
}
  where
    below : (other : ℕ) → other ≡ value + shares other * 10000 → q ≤ shares other → value + q * 10000 ≤ other
    below other is more = omega (arith, is, more)

    by : (q : ℕ) → (0 < q → q * 9610000 + 390000 ≤ 39 * value) → (other : ℕ) → other - tax other ≡ value → q ≤ shares other
    by zero least other leaves = omega arith
    by (suc q) least other leaves = omega (arith, least (omega arith), leaves, tax-is other, shares-low other, shares-high other)

-- two least ones are one
pub same_payout : (value one other : ℕ) → IsPayoutFor value one → IsPayoutFor value other → one ≤ other
same_payout value one other is are = is.least other are.leaves
