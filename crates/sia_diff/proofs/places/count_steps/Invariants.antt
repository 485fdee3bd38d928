use Rattle.std.proofs.Common.{◌≡◌, ◌≤◌, ◌<◌, ◌+◌, ℕ, true, length, drop, get_or, min}
use Rattle.std.specs.List.{list_all}
use Rattle.sia_diff.specs.Marks.{AreCounts}
use Rattle.sia_diff.specs.DiffSteps.{step_fits, touch_count, counted_steps}
use Rattle.sia_diff.proofs.places.count_steps.Given as goal

abbrev pub invariant-loop-step : goal.invariant-loop-step
invariant-loop-step l = record {
  bound : l.count ≤ 65536;
  counts : AreCounts l.counts;
  fits : list_all (λ counted. step_fits counted.count counted.step) (counted_steps l.count (drop l.step-index l.steps)) ≡ true;
  seen : (place : ℕ) → place < length l.fn.counts → min 2 (get_or l.counts place 0 + touch_count l.count (drop l.step-index l.steps) place) ≡ min 2 (touch_count (length l.fn.counts) l.steps place);
}
