use Rattle.std.proofs.Common.{◌≡◌, ℕ, ◌+◌, ◌*◌, ◌%◌, ◌^◌, ◌<◌, ◌≤◌, Bool, true, false, List, ◌∙◌, ap, arith, length, sum, take, get_or}
use Rattle.std.specs.Bool.{FalseIff}
use Rattle.std.proofs.lemmas.List.{length-map, take_all}
use Rattle.std.proofs.lemmas.List.Sums.{sum_by_more}
use Rattle.sia_types.specs.declared.coins.CoinOutput.{CoinOutput}
use Rattle.sia_price.specs.Payments.{value_of, values_of}
use Rattle.sia_price.proofs.payment.wide_value.Goals as goal
use Rattle.sia_price.proofs.payment.wide_value.Goals.{then-over, else-over}

-- as many values as outputs
counted : (outputs : List CoinOutput) → length (values_of outputs) ≡ length outputs
counted outputs = length-map outputs value_of

-- a value more, and the sum passed 128 bits
passes : (values : List ℕ) (i passed rest value next : ℕ) (over : Bool) → i < length values → value ≡ get_or values i 0 → value < 2 ^ 128 → rest < 2 ^ 128 → passed * 2 ^ 128 + rest ≡ sum (take i values) → next ≡ (rest + value) % 2 ^ 128 → FalseIff over (rest + value < 2 ^ 128) → over ≡ true → (passed + 1) * 2 ^ 128 + next ≡ sum (take (i + 1) values)
passes values i passed rest value next true within this bounded small summed is over was = omega (arith, sum_by_more (λ x. x) values i 0 within)
passes values i passed rest value next false within this bounded small summed is over was = cc

-- and it did not
stays : (values : List ℕ) (i passed rest value next : ℕ) (over : Bool) → i < length values → value ≡ get_or values i 0 → passed * 2 ^ 128 + rest ≡ sum (take i values) → next ≡ (rest + value) % 2 ^ 128 → FalseIff over (rest + value < 2 ^ 128) → over ≡ false → passed * 2 ^ 128 + next ≡ sum (take (i + 1) values)
stays values i passed rest value next false within this summed is over was = omega (arith, sum_by_more (λ x. x) values i 0 within)
stays values i passed rest value next true within this summed is over was = cc

pub loop-i-preserved : goal.loop-i-preserved
loop-i-preserved c =
    let within : c.loop-i.i < length (values_of c.args.outputs.now) = omega (arith, counted c.args.outputs.now, c.loop-i-test.true) in
    elim c.if-over.branch [
      | then-over w ↦ rw w.passed-is (record {
        summed = passes (values_of c.args.outputs.now) c.loop-i.i c.loop-i.passed c.loop-i.rest c.value_of_output-value.result _ _ within c.value_of_output-value.ensures (omega arith) c.loop-i.invariant.within c.loop-i.invariant.summed c.overflowing_add-next.ensures.value c.overflowing_add-next.ensures.overflow w.if-over.true;
        seldom = omega arith;
        within = omega (arith, c.overflowing_add-next.ensures.value);
      })
      | else-over w ↦ rw w.passed-is (record {
        summed = stays (values_of c.args.outputs.now) c.loop-i.i c.loop-i.passed c.loop-i.rest c.value_of_output-value.result _ _ within c.value_of_output-value.ensures c.loop-i.invariant.summed c.overflowing_add-next.ensures.value c.overflowing_add-next.ensures.overflow w.if-over.false;
        seldom = omega arith;
        within = omega (arith, c.overflowing_add-next.ensures.value);
      })
    ]
