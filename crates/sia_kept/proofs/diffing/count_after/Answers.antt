-- One step more is counted.
use Rattle.std.proofs.Common.{◌≡◌, ◌∙◌, ◌+◌, [], refl, ap, sym, drop}
use Rattle.sia_diff.specs.declared.steps.DiffStep.TheVariants as step
use Rattle.sia_diff.specs.DiffSteps.{count_after}
use Rattle.sia_diff.proofs.Counts.{fits_here, fits_more}
use Rattle.sia_diff.proofs.Fit.{fit_count, fit_done}
use Rattle.sia_kept.proofs.Steps.{count_done, count_next}
use Rattle.sia_kept.proofs.diffing.count_after.Goals as goal

pub loop-step-init : goal.loop-step-init
loop-step-init c = record { few = fit_count _ _ c.requires; fits = fit_done _ _ c.requires; rest = refl }

pub count_after_step-left-requires-clause-fits : goal.count_after_step-left-requires-clause-fits
count_after_step-left-requires-clause-fits c = fits_here c.loop-step.left c.args.steps.now c.loop-step.step-index (step.Append []) c.loop-step-test.true c.loop-step.invariant.fits

pub loop-step-preserved : goal.loop-step-preserved
loop-step-preserved c = record {
  few = c.count_after_step-left.ensures.few;
  fits = sym (fits_more c.loop-step.left c.count_after_step-left.result c.args.steps.now c.loop-step.step-index (step.Append []) c.loop-step-test.true
      (fits_here c.loop-step.left c.args.steps.now c.loop-step.step-index (step.Append []) c.loop-step-test.true c.loop-step.invariant.fits) c.count_after_step-left.ensures.count)
      ∙ c.loop-step.invariant.fits;
  rest = ap (λ n. count_after n (drop (c.loop-step.step-index + 1) c.args.steps.now)) c.count_after_step-left.ensures.count
      ∙ sym (count_next c.loop-step.left c.args.steps.now c.loop-step.step-index (step.Append []) c.loop-step-test.true) ∙ c.loop-step.invariant.rest;
}

pub returns : goal.returns
returns c = sym (count_done c.loop-step.left c.args.steps.now c.loop-step.step-index c.loop-step-test.false) ∙ c.loop-step.invariant.rest
