use Rattle.std.proofs.Common.{◌≡◌, length, sym, ◌∙◌, arith}
use Rattle.std.specs.Vec.Iter.{into_iter_items}
use Rattle.sia_records.proofs.Preparing.{nothing_merged}
use Rattle.sia_records.proofs.write.merge.Goals as goal

pub loop-action-preserved : goal.loop-action-preserved
loop-action-preserved c = c.loop-action.invariant ∙ (rw c.in-Some.ensures.steps.0 (c.in_ok-put_sector.ensures (into_iter_items c.next.new.self)))

pub returns : goal.returns
returns c =
    let none : length (into_iter_items c.loop-action.action-iterator) ≡ 0 = omega (arith, c.loop-action.action-iterator.rest.ok, c.in-None.ensures.steps) in
    sym (c.loop-action.invariant ∙ nothing_merged _ _ _ none)
