use Rattle.std.proofs.Common.{length, arith, ap, sym, ◌∙◌}
use Rattle.sia_merkle.specs.Computations.{hash_of}
use Rattle.sia_merkle.specs.Segments.{others}
use Rattle.sia_cover.proofs.Judged.{judged_segments}
use Rattle.sia_cover.proofs.SameCovers.{cover_any}
use Rattle.sia_cover.proofs.SegmentJoins.{segments_at}
use Rattle.sia_cover.proofs.segments.segments_join_to.Goals as goal

pub join_segments-found-requires-clause-inner : goal.join_segments-found-requires-clause-inner
join_segments-found-requires-clause-inner g c = c.if-inner-cover_len.false ∙ c.cover_len.ensures ∙ ap length (cover_any (g.P.PlaceSet.holds c.args.set.now) c.args.count 64 (omega arith))

pub join_segments-found-requires-clause-outer : goal.join_segments-found-requires-clause-outer
join_segments-found-requires-clause-outer g c = c.if-outer-cover_len.false ∙ c.cover_len-2.ensures ∙ ap length (cover_any (others (g.P.PlaceSet.holds c.args.set.now)) c.args.count 64 (omega arith))

pub returns : goal.returns
returns g c =
    judged_segments (g.P.PlaceSet.holds c.args.set.now) c.args.count c.args.inner.now c.args.outer.now c.args.root.now c.join_segments-found.result c.eq.result
    (c.if-inner-cover_len.false ∙ c.cover_len.ensures) (c.if-outer-cover_len.false ∙ c.cover_len-2.ensures)
    (c.join_segments-found.ensures ∙ sym (ap hash_of (segments_at (g.P.PlaceSet.holds c.args.set.now) c.args.count 64 c.args.inner.now c.args.outer.now (omega arith)))) c.eq.ensures
