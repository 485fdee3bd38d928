use Rattle.std.proofs.Common.{ap, arith, ◌∙◌, add-one, sym}
use Rattle.std.proofs.lemmas.List.{take_all}
use Rattle.sia_price.specs.Payments.{with_values}
use Rattle.sia_price.proofs.NewValues.{with_values-more}
use Rattle.sia_price.proofs.revising.outputs_with.Goals as goal

pub returns : goal.returns
returns c = c.loop-i.invariant ∙ ap (λ outputs. with_values outputs c.args.values.now) (take_all c.loop-i.i c.args.outputs.now c.loop-i-test.false)

pub loop-i-preserved : goal.loop-i-preserved
loop-i-preserved c =
    rw (c.in_ok-push.ensures.ok, c.loop-i.invariant, add-one)
    (sym (with_values-more c.args.outputs.now c.args.values.now c.loop-i.i _ c.with_value.result c.loop-i-test.true c.with_value.ensures.given c.with_value.ensures.none))
