use Rattle.std.proofs.Common.{◌∙◌, sym, [], arith, get_or, length}
use Rattle.sia_diff.specs.declared.steps.DiffStep.TheVariants as step
use Rattle.sia_diff.specs.DiffSteps.{touch_count}
use Rattle.sia_diff.proofs.Counts.{fits_here, fits_more, counted_more, counted_done}
use Rattle.sia_diff.proofs.places.count_steps.Goals as goal

pub count_step-requires-clause-fits : goal.count_step-requires-clause-fits
count_step-requires-clause-fits c = fits_here c.loop-step.count c.args.steps.now c.loop-step.step-index (step.Append []) c.loop-step-test.true c.loop-step.invariant.fits

pub count_after-count-requires-clause-fits : goal.count_after-count-requires-clause-fits
count_after-count-requires-clause-fits c = fits_here c.loop-step.count c.args.steps.now c.loop-step.step-index (step.Append []) c.loop-step-test.true c.loop-step.invariant.fits

pub loop-step-preserved : goal.loop-step-preserved
loop-step-preserved c = record {
  bound = c.count_after-count.ensures.bound;
  counts = c.count_step.ensures.counts;
  fits = sym (fits_more c.loop-step.count c.count_after-count.result c.args.steps.now c.loop-step.step-index (step.Append []) c.loop-step-test.true
      (fits_here c.loop-step.count c.args.steps.now c.loop-step.step-index (step.Append []) c.loop-step-test.true c.loop-step.invariant.fits) c.count_after-count.ensures.count)
      ∙ c.loop-step.invariant.fits;
  seen = λ place within.
      counted_more (get_or c.loop-step.counts place 0) (get_or c.count_step.new.counts place 0) c.loop-step.count c.count_after-count.result c.args.steps.now c.loop-step.step-index (step.Append []) place c.loop-step-test.true
      (c.count_step.ensures.more place (omega (arith, c.loop-step.auto.counts))) c.count_after-count.ensures.count
      ∙ c.loop-step.invariant.seen place within;
}

pub returns : goal.returns
returns c = (
  c.loop-step.auto.counts,
  λ place within.
      counted_done (get_or c.loop-step.counts place 0) c.loop-step.count (touch_count (length c.args.counts.now) c.args.steps.now place) c.args.steps.now c.loop-step.step-index place c.loop-step-test.false
      (c.loop-step.invariant.counts place (omega (arith, c.loop-step.auto.counts))) (c.loop-step.invariant.seen place within),
)
