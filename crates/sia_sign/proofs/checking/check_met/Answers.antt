use Rattle.std.proofs.Common.{◌∙◌, ap, sym}
use Rattle.sia_encoding.specs.Answer.{unless}
use Rattle.sia_sign.proofs.Missing.{missing_here, missing_passed}
use Rattle.sia_sign.proofs.checking.check_met.Goals as goal

pub returns-then-has_too_few : goal.returns-then-has_too_few
returns-then-has_too_few g c =
    rw c.saturating_add.ensures (ap unless (c.loop-i.invariant ∙ missing_here g.T.Locked.need c.args.signatures.now c.args.all.now c.args.first c.loop-i.i c.index-all-i.result c.loop-i-test.true c.index-all-i.is (sym c.has_too_few.ensures ∙ c.if-has_too_few.true)))

pub loop-i-preserved : goal.loop-i-preserved
loop-i-preserved g c =
    c.loop-i.invariant ∙ missing_passed g.T.Locked.need c.args.signatures.now c.args.all.now c.args.first c.loop-i.i c.index-all-i.result c.loop-i-test.true c.index-all-i.is (sym c.has_too_few.ensures ∙ c.if-has_too_few.false)
