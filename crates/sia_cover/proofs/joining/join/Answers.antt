use Rattle.std.proofs.Common.{length, map, arith, ap, sym, ◌∙◌}
use Rattle.sia_merkle.specs.Computations.{hash_of}
use Rattle.sia_merkle.specs.Computations.Tree.{Given}
use Rattle.sia_merkle.specs.Segments.{others}
use Rattle.sia_cover.proofs.FullJoins.{join_nothing}
use Rattle.sia_cover.proofs.Joins.{join_at}
use Rattle.sia_cover.proofs.SameCovers.{cover_any}
use Rattle.sia_cover.proofs.joining.join.Goals as goal

pub returns-then-count-eq0 : goal.returns-then-count-eq0
returns-then-count-eq0 g c = join_nothing (g.P.PlaceSet.holds c.args.set.now) c.args.count (g.R.Row.hashes c.args.row.now) c.args.outer.now c.if-count-eq0.true c.requires.row c.requires.outer

pub join_within-requires-clause-outer : goal.join_within-requires-clause-outer
join_within-requires-clause-outer g c = c.requires.outer ∙ ap length (cover_any (others (g.P.PlaceSet.holds c.args.set.now)) c.args.count 64 (omega arith))

pub returns : goal.returns
returns g c =
    c.join_within.ensures ∙ sym (ap hash_of (join_at (g.P.PlaceSet.holds c.args.set.now) c.args.count 64 (map Given (g.R.Row.hashes c.args.row.now)) c.args.outer.now (omega arith) (omega (arith, c.if-count-eq0.false))))
