use Rattle.std.proofs.Common.{◌∙◌, ◌+◌, ap, sym, length, drop, get_or, []}
use Rattle.sia_diff.specs.declared.steps.DiffStep.TheVariants as step
use Rattle.sia_diff.specs.DiffSteps.{after}
use Rattle.sia_diff.proofs.Counts.{fits_here, fits_more}
use Rattle.sia_diff.proofs.Moves.{after_next, after_done, length_step}
use Rattle.sia_diff.proofs.moving.do_steps.Goals as goal

pub do_step-requires : goal.do_step-requires
do_step-requires c = fits_here (length c.loop-step.hashes.items) c.args.steps.now c.loop-step.step-index (step.Append []) c.loop-step-test.true c.loop-step.invariant.fits

pub loop-step-preserved : goal.loop-step-preserved
loop-step-preserved c =
    let here = fits_here (length c.loop-step.hashes.items) c.args.steps.now c.loop-step.step-index (step.Append []) c.loop-step-test.true c.loop-step.invariant.fits in record {
      rest = ap (λ hashes. after hashes (drop (c.loop-step.step-index + 1) c.args.steps.now)) c.in_ok-do_step.ensures
          ∙ sym (after_next c.loop-step.hashes.items c.args.steps.now c.loop-step.step-index (step.Append []) c.loop-step-test.true) ∙ c.loop-step.invariant.rest;
      fits = sym (fits_more (length c.loop-step.hashes.items) (length c.do_step.new.hashes.items) c.args.steps.now c.loop-step.step-index (step.Append []) c.loop-step-test.true here
          (ap length c.in_ok-do_step.ensures ∙ length_step c.loop-step.hashes.items (get_or c.args.steps.now c.loop-step.step-index (step.Append [])) here)) ∙ c.loop-step.invariant.fits;
    }

pub returns : goal.returns
returns c = sym (after_done c.loop-step.hashes.items c.args.steps.now c.loop-step.step-index c.loop-step-test.false) ∙ c.loop-step.invariant.rest
