use Rattle.std.proofs.Common.{◌≡◌, ◌<◌, ◌≢◌, length, arith, get_or, get_or-set_other, get_or-set_same, below_more, ◌∙◌, ap, sym}
use Rattle.std.specs.Prelude.{slice_index}
use Rattle.std.proofs.lemmas.Grind.{same_number_lists}
use Rattle.std.proofs.lemmas.List.{length-map}
use Rattle.sia_pieces.specs.declared.piece.Piece.{Piece}
use Rattle.sia_pieces.specs.Solving.{column}
use Rattle.sia_pieces.proofs.Joins.{byte_is}
use Rattle.sia_pieces.proofs.Values.{elements_within}
use Rattle.sia_pieces.proofs.solve.put_bytes.Goals as goal

pub loop-i-preserved : goal.loop-i-preserved
loop-i-preserved c = record {
  bytes =
      below_more _ _
      (λ m h. let other : m ≢ c.loop-i.i = omega arith in rw get_or-set_other (c.loop-i.invariant.bytes m h))
      (let within : c.loop-i.i < length c.loop-i.values = omega arith in
      rw get_or-set_same
      (c.byte_at.ensures
      ∙ ap (λ bs. get_or bs c.args.t 0) c.as_slice.ensures
      ∙ sym (byte_is c.args.t c.args.pieces.now c.loop-i.i c.index-pieces-i.result (omega arith))));
  elements =
      below_more _ _
      (λ m h. let other : m ≢ c.loop-i.i = omega arith in rw get_or-set_other (c.loop-i.invariant.elements m h))
      (let within : c.loop-i.i < length c.loop-i.values = omega arith in rw get_or-set_same c.byte_at.type_inv);
}

pub returns : goal.returns
returns c = record {
  bytes =
      same_number_lists c.loop-i.values (column c.args.t c.args.pieces.now)
      (let e : length (column c.args.t c.args.pieces.now) ≡ length c.args.pieces.now = length-map c.args.pieces.now (λ (piece : Piece). slice_index piece.bytes c.args.t) in omega arith)
      (λ m h. c.loop-i.invariant.bytes m (omega arith));
  elements = elements_within c.loop-i.values (λ m h. c.loop-i.invariant.elements m (omega arith));
}
