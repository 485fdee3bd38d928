use Rattle.std.proofs.Common.{sym, ◌∙◌}
use Rattle.sia_cover.proofs.Counts.{clear_told}
use Rattle.sia_cover.proofs.place_set.is_clear.Goals as goal

pub returns : goal.returns
returns g c =
    clear_told (g.P.PlaceSet.holds c.args.set.now) c.args.count c.args.height c.args.low c.power.result c.below-before.result c.below.result
    (sym c.ends_by.ensures ∙ c.if-not-ends_by.false) c.power.ensures c.below-before.ensures c.below.ensures
