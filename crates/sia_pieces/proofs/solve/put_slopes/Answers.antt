use Rattle.std.proofs.Common.{◌<◌, ◌≢◌, length, arith, get_or, get_or-set_other, get_or-set_same, below_more, ◌∙◌}
use Rattle.std.proofs.lemmas.List.{length-map}
use Rattle.sia_pieces.specs.declared.piece.Piece.{Piece}
use Rattle.sia_pieces.specs.Solving.{places}
use Rattle.sia_pieces.proofs.Solutions.{slopes_are, slope_is}
use Rattle.sia_pieces.proofs.Joins.{place_is}
use Rattle.sia_pieces.proofs.solve.put_slopes.Goals as goal

pub loop-i-preserved : goal.loop-i-preserved
loop-i-preserved c = record {
  done =
      below_more _ _
      (λ m h. let other : m ≢ c.loop-i.i = omega arith in rw get_or-set_other (c.loop-i.invariant.done m h))
      (let within : c.loop-i.i < length c.loop-i.values = omega arith in
      rw get_or-set_same
      (slope_is c.args.place c.args.value (get_or c.args.pieces.now c.loop-i.i c.index-pieces-i.result).place (get_or (places c.args.pieces.now) c.loop-i.i 0)
      (get_or c.loop-i.values c.loop-i.i 0) (get_or c.args.values.now c.loop-i.i 0) c.inverse.result c.gf_mul.result
      c.gf_mul.ensures c.inverse.ensures (c.loop-i.invariant.kept c.loop-i.i (omega arith))
      (place_is c.args.pieces.now c.loop-i.i c.index-pieces-i.result (omega arith))));
  kept = λ m h. let other : m ≢ c.loop-i.i = omega arith in rw get_or-set_other (c.loop-i.invariant.kept m (omega arith));
}

pub returns : goal.returns
returns c =
    slopes_are c.args.place c.args.value (places c.args.pieces.now) c.args.values.now c.loop-i.values
    (length-map c.args.pieces.now (λ (piece : Piece). piece.place) ∙ c.requires.same)
    (omega arith)
    (λ m h. c.loop-i.invariant.done m (omega arith))
