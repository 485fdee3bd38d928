use Rattle.std.proofs.Common.{sym, ◌∙◌, arith}
use Rattle.sia_cover.proofs.Counts.{below_parts, full_told}
use Rattle.sia_cover.proofs.place_set.is_full.Goals as goal

pub overflow_sub-result : goal.overflow_sub-result
overflow_sub-result g c = omega (arith, c.below-before.ensures, c.below.ensures, below_parts (g.P.PlaceSet.holds c.args.set.now) c.args.low c.power-width.result)

pub returns : goal.returns
returns g c =
    full_told (g.P.PlaceSet.holds c.args.set.now) c.args.count c.args.height c.args.low c.power-width.result c.below-before.result c.below.result
    (sym c.ends_by.ensures ∙ c.if-not-ends_by.false) c.power-width.ensures c.below-before.ensures c.below.ensures
