-- Numbers that have no more than 128 bits.
use Rattle.std.proofs.Common.{◌≡◌, ℕ, ◌-◌, ◌^◌, ◌<◌, ◌≤◌, Bool, true, false, Option, Some, None, refl, arith, ltb-false}
use Rattle.std.proofs.lemmas.Bool.{ltb-true}
use Rattle.sia_rules.specs.Amounts.{fitting, is_too_large}

-- such a number is the one that fits
pub fits : (n : ℕ) → n < 2 ^ 128 → Some n ≡ fitting n
fits n low = by (is_too_large n) refl
  where
    by : (b : Bool) → is_too_large n ≡ b → Some n ≡ fitting n
    by true large = let high : 2 ^ 128 - 1 < n = ltb-true (2 ^ 128 - 1) n large in absurd (omega arith)
    by false small = rw small refl

-- so is a part of such a number
pub part_fits : (part whole : ℕ) → part ≤ whole → is_too_large whole ≡ false → Some part ≡ fitting part
part_fits part whole within fits_whole =
    fits part (omega (arith, ltb-false (2 ^ 128 - 1) whole fits_whole, within))
