use Rattle.std.proofs.Common.{◌≡◌, ◌≤◌, true, drop}
use Rattle.sia_diff.specs.DiffSteps.{count_after}
use Rattle.sia_kept.proofs.Changed.{fit_for}
use Rattle.sia_kept.proofs.diffing.count_after.Given as goal

abbrev pub invariant-loop-step : goal.invariant-loop-step
invariant-loop-step l = record {
  few : l.left ≤ 65536;
  fits : fit_for l.left (drop l.step-index l.steps) ≡ true;
  rest : count_after l.left (drop l.step-index l.steps) ≡ count_after l.count l.steps;
}
