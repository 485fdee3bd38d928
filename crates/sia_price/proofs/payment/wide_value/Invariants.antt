use Rattle.std.proofs.Common.{◌≡◌, ◌+◌, ◌*◌, ◌^◌, ◌<◌, ◌≤◌, take, sum}
use Rattle.sia_price.specs.Payments.{values_of}
use Rattle.sia_price.proofs.payment.wide_value.Given as goal

abbrev pub invariant-loop-i : goal.invariant-loop-i
invariant-loop-i l = record {
  summed : l.passed * 2 ^ 128 + l.rest ≡ sum (take l.i (values_of l.outputs));
  seldom : l.passed ≤ l.i;
  within : l.rest < 2 ^ 128;
}
