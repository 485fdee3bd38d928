use Rattle.std.proofs.Common.{◌∙◌, sym}
use Rattle.sia_cover.proofs.Judged.{judged}
use Rattle.sia_cover.proofs.joining.joins_to.Goals as goal

pub returns : goal.returns
returns g c =
    judged (g.P.PlaceSet.holds c.args.set.now) c.args.count (g.R.Row.hashes c.args.row.now) c.args.outer.now c.args.root.now c.join-found.result c.eq.result
    (sym c.len.ensures ∙ c.if-len-below.false ∙ c.below.ensures) (c.if-outer-cover_len.false ∙ c.cover_len.ensures) c.join-found.ensures c.eq.ensures
