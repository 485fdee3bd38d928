use Rattle.std.proofs.Common.{length, ap, sym, ◌∙◌, arith}
use Rattle.sia_cover.proofs.FullJoins.{no_segments}
use Rattle.sia_cover.proofs.SameCovers.{cover_any}
use Rattle.sia_cover.proofs.cover.cover_len.Goals as goal

pub returns-then-count-eq0 : goal.returns-then-count-eq0
returns-then-count-eq0 g c = sym (ap length (no_segments (g.P.PlaceSet.holds c.args.set.now) c.args.count c.if-count-eq0.true))

pub returns : goal.returns
returns g c = c.cover_len_within.ensures ∙ sym (ap length (cover_any (g.P.PlaceSet.holds c.args.set.now) c.args.count 64 (omega arith)))
