use Rattle.std.proofs.Common.{◌∙◌}
use Rattle.std.proofs.lemmas.Result.{err_from_is_err_and}
use Rattle.sia_encoding.proofs.ElementLemmas.{element_missed, element_more}
use Rattle.sia_encoding.proofs.Answering.{handed_on}
use Rattle.sia_encoding.specs.Reading.{fault_told}
use Rattle.sia_encoding.proofs.list_item.read_elements.Goals as goal

pub returns-in_err-read : goal.returns-in_err-read
returns-in_err-read g c =
    let p = err_from_is_err_and c.from_residual-in_err-read.result c.from_residual-in_err-read.ensures.1 in
    rw (p.1, p.2) (handed_on fault_told c.in_err-read.field-0.0 (g.T.Item.codec.reading c.loop.cursor) _ (λ e is. c.loop.invariant ∙ element_missed g.T.Item.codec.reading c.loop.items c.args.count c.loop.counter c.loop.cursor e c.loop-test.true is) c.in_err-read.ensures)

pub loop-preserved : goal.loop-preserved
loop-preserved g c = rw c.in_ok-push.ensures.ok (c.loop.invariant ∙ element_more g.T.Item.codec.reading c.loop.items c.in_ok-read.field-0 c.args.count c.loop.counter c.loop.cursor c.read.new.cursor c.loop-test.true c.in_ok-read.ensures)
