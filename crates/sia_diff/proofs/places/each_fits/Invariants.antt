use Rattle.std.proofs.Common.{◌≡◌, ◌≤◌, drop}
use Rattle.std.specs.List.{list_all}
use Rattle.sia_diff.specs.DiffSteps.{step_fits, counted_steps}
use Rattle.sia_diff.proofs.places.each_fits.Given as goal

abbrev pub invariant-loop-step : goal.invariant-loop-step
invariant-loop-step l = record {
  bound : l.count ≤ 65536;
  rest : list_all (λ counted. step_fits counted.count counted.step) (counted_steps l.count (drop l.step-index l.steps)) ≡ list_all (λ counted. step_fits counted.count counted.step) (counted_steps l.n l.steps);
}
