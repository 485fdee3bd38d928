use Rattle.std.proofs.Common.{◌≡◌, true, length, drop}
use Rattle.std.specs.List.{list_all}
use Rattle.sia_diff.specs.DiffSteps.{after, step_fits, counted_steps}
use Rattle.sia_diff.proofs.moving.do_steps.Given as goal

abbrev pub invariant-loop-step : goal.invariant-loop-step
invariant-loop-step l = record {
  rest : after l.hashes.items (drop l.step-index l.steps) ≡ after l.fn.hashes.items l.steps;
  fits : list_all (λ counted. step_fits counted.count counted.step) (counted_steps (length l.hashes.items) (drop l.step-index l.steps)) ≡ true;
}
