use Rattle.std.proofs.Common.{◌∙◌, sym, []}
use Rattle.sia_diff.specs.declared.steps.DiffStep.TheVariants as step
use Rattle.sia_diff.proofs.Counts.{fits_stop, fits_more, fits_done}
use Rattle.sia_diff.proofs.places.each_fits.Goals as goal

pub returns-then-not-fits : goal.returns-then-not-fits
returns-then-not-fits c =
    sym (fits_stop c.loop-step.count c.args.steps.now c.loop-step.step-index (step.Append []) c.loop-step-test.true (sym c.fits.ensures ∙ c.if-not-fits.true)) ∙ c.loop-step.invariant.rest

pub loop-step-preserved : goal.loop-step-preserved
loop-step-preserved c = record {
  bound = c.count_after-count.ensures.bound;
  rest = sym (fits_more c.loop-step.count c.count_after-count.result c.args.steps.now c.loop-step.step-index (step.Append []) c.loop-step-test.true (sym c.fits.ensures ∙ c.if-not-fits.false) c.count_after-count.ensures.count)
      ∙ c.loop-step.invariant.rest;
}

pub returns : goal.returns
returns c = sym (fits_done c.loop-step.count c.args.steps.now c.loop-step.step-index c.loop-step-test.false) ∙ c.loop-step.invariant.rest
