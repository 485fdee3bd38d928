use Rattle.std.proofs.Common.{◌≡◌, ℕ, ◌<◌, length, get_or}
use Rattle.sia_pieces.specs.declared.piece.Piece.{Piece}
use Rattle.sia_bench.proofs.cuts.have_length.Given as goal

abbrev pub invariant-loop-piece : goal.invariant-loop-piece
invariant-loop-piece l = (index : ℕ) → (piece : Piece) → index < l.piece-index → length (get_or l.pieces index piece).bytes ≡ l.count
