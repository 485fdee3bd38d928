use Rattle.std.proofs.Common.{◌≡◌}
use Rattle.sia_pieces.specs.Pieces.{values_at, first_groups}
use Rattle.sia_pieces.proofs.cut.cut_piece.Given as goal

abbrev pub invariant-loop-t : goal.invariant-loop-t
invariant-loop-t l = l.piece.items ≡ values_at l.place (first_groups l.t l.k l.bytes)
