use Rattle.std.proofs.Common.{◌++◌, length, ap, sym, ◌∙◌, arith}
use Rattle.sia_merkle.specs.Segments.{cover, cover_within, segment_roots}
use Rattle.sia_cover.proofs.FullJoins.{no_segments}
use Rattle.sia_cover.proofs.SameCovers.{cover_any}
use Rattle.sia_cover.proofs.cover.cover_roots.Goals as goal
use Rattle.sia_cover.proofs.cover.cover_roots.Goals.{then-count-gt0+in_ok-append_cover, else-count-gt0}

pub returns : goal.returns
returns g c =
    elim c.if-count-gt0.branch [
      | then-count-gt0+in_ok-append_cover w ↦
          w.roots-is ∙ w.in_ok-append_cover.ensures
          ∙ ap (λ front. front ++ segment_roots (g.N.Nodes.hashes c.args.nodes.now) (cover_within (g.P.PlaceSet.holds c.args.set.now) c.count-count.result 64 0)) c.new-roots.ensures
          ∙ sym (ap (segment_roots (g.N.Nodes.hashes c.args.nodes.now)) (cover_any (g.P.PlaceSet.holds c.args.set.now) c.count-count.result 64 (omega arith)))
          ∙ ap (λ n. segment_roots (g.N.Nodes.hashes c.args.nodes.now) (cover (g.P.PlaceSet.holds c.args.set.now) n)) c.count-count.ensures
      | else-count-gt0 w ↦
          w.roots-is ∙ c.new-roots.ensures
          ∙ sym (ap (segment_roots (g.N.Nodes.hashes c.args.nodes.now)) (no_segments (g.P.PlaceSet.holds c.args.set.now) (length (g.N.Nodes.hashes c.args.nodes.now)) (omega (arith, c.count-count.ensures, w.if-count-gt0.false))))
    ]
