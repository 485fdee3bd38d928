use Rattle.std.proofs.Common.{◌<◌, arith, ap, sym, ◌∙◌, set, get_or, length}
use Rattle.std.proofs.lemmas.List.Edits.{map_over_more}
use Rattle.std.proofs.lemmas.Option.{get_or_from_slice_get, slice_get-get_or}
use Rattle.sia_shelf.specs.Shelf.{settled}
use Rattle.sia_shelf.specs.declared.mark.Mark.TheVariants as mark
use Rattle.sia_shelf.proofs.marks.settle.Goals as goal

pub loop-mark-preserved : goal.loop-mark-preserved
loop-mark-preserved c =
    let marks = c.loop-mark.marks in
    let at = c.loop-mark.mark-index in
    let it = get_or marks at mark.Free in
    let within : c.loop-mark.mark-index < length c.args.marks.now = omega (arith, c.loop-mark-test.true) in
    let inside : c.loop-mark.mark-index < length c.loop-mark.marks = omega (arith, c.loop-mark-test.true, c.loop-mark.auto.marks) in
    ap (set marks at) c.settled.ensures
    ∙ map_over_more settled c.args.marks.now marks at it within c.loop-mark.invariant
    (sym (get_or_from_slice_get marks at it it (slice_get-get_or marks at mark.Free inside)))
