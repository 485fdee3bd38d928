use Rattle.std.proofs.Common.{◌<◌, ◌∙◌, ap, subst, get_or, below_more}
use Rattle.sia_pieces.specs.Solving.{solved, places, column}
use Rattle.sia_pieces.proofs.Groups.{joined_on}
use Rattle.sia_pieces.proofs.join.join_groups.Goals as goal

pub loop-t-preserved : goal.loop-t-preserved
loop-t-preserved c = record {
  bytes = below_more _ _ c.loop-t.invariant.bytes (λ i. subst (λ bs. get_or bs i 0 < 256) c.put_bytes.ensures.bytes (c.put_bytes.ensures.elements i));
  groups =
      joined_on _ _ _ _ (λ t. solved (places c.args.pieces.now) (column t c.args.pieces.now)) c.loop-t.t
      c.in_ok-extend.ensures.ok c.loop-t.invariant.groups
      (c.solve.ensures ∙ ap (solved (places c.args.pieces.now)) c.put_bytes.ensures.bytes);
}
