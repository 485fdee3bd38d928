use Rattle.std.proofs.Common.{◌≡◌, ℕ, ◌+◌, ◌*◌, ◌%◌, ◌^◌, ◌<◌, Bool, true, false, List, arith, length, sum, take, get_or}
use Rattle.std.specs.Bool.{FalseIff}
use Rattle.std.proofs.lemmas.List.Sums.{sum_by_more}
use Rattle.sia_price.proofs.payment.wide_sum.Goals as goal
use Rattle.sia_price.proofs.payment.wide_sum.Goals.{then-over, else-over}

-- a value more, and the sum passed 128 bits
passes : (values : List ℕ) (i passed rest next : ℕ) (over : Bool) → i < length values → get_or values i 0 < 2 ^ 128 → rest < 2 ^ 128 → passed * 2 ^ 128 + rest ≡ sum (take i values) → next ≡ (rest + get_or values i 0) % 2 ^ 128 → FalseIff over (rest + get_or values i 0 < 2 ^ 128) → over ≡ true → (passed + 1) * 2 ^ 128 + next ≡ sum (take (i + 1) values)
passes values i passed rest next true within bounded small summed is over was = omega (arith, sum_by_more (λ x. x) values i 0 within)
passes values i passed rest next false within bounded small summed is over was = cc

-- and it did not
stays : (values : List ℕ) (i passed rest next : ℕ) (over : Bool) → i < length values → passed * 2 ^ 128 + rest ≡ sum (take i values) → next ≡ (rest + get_or values i 0) % 2 ^ 128 → FalseIff over (rest + get_or values i 0 < 2 ^ 128) → over ≡ false → passed * 2 ^ 128 + next ≡ sum (take (i + 1) values)
stays values i passed rest next false within summed is over was = omega (arith, sum_by_more (λ x. x) values i 0 within)
stays values i passed rest next true within summed is over was = cc

pub loop-value-preserved : goal.loop-value-preserved
loop-value-preserved c = elim c.if-over.branch [
  | then-over w ↦ rw (w.passed-is, w.rest-is) (record {
    summed = passes c.args.values.now c.loop-value.value-index c.loop-value.passed c.loop-value.rest _ _ c.loop-value-test.true (omega (arith, c.type_inv.values c.loop-value.value-index)) c.loop-value.invariant.within c.loop-value.invariant.summed c.overflowing_add-next.ensures.value c.overflowing_add-next.ensures.overflow w.if-over.true;
    seldom = omega arith;
    within = omega (arith, c.overflowing_add-next.ensures.value);
  })
  | else-over w ↦ rw (w.passed-is, w.rest-is) (record {
    summed = stays c.args.values.now c.loop-value.value-index c.loop-value.passed c.loop-value.rest _ _ c.loop-value-test.true c.loop-value.invariant.summed c.overflowing_add-next.ensures.value c.overflowing_add-next.ensures.overflow w.if-over.false;
    seldom = omega arith;
    within = omega (arith, c.overflowing_add-next.ensures.value);
  })
]
