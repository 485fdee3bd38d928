use Rattle.std.proofs.Common.{◌≡◌, ◌+◌, ◌*◌, ◌^◌, ◌<◌, ◌≤◌, take, sum}
use Rattle.sia_price.proofs.payment.wide_sum.Given as goal

abbrev pub invariant-loop-value : goal.invariant-loop-value
invariant-loop-value l = record {
  summed : l.passed * 2 ^ 128 + l.rest ≡ sum (take l.value-index l.values);
  seldom : l.passed ≤ l.value-index;
  within : l.rest < 2 ^ 128;
}
