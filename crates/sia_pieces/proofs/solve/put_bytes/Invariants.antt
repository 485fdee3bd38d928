use Rattle.std.proofs.Common.{◌≡◌, ℕ, ◌<◌, get_or}
use Rattle.sia_pieces.specs.Solving.{column}
use Rattle.sia_pieces.proofs.solve.put_bytes.Given as goal

abbrev pub invariant-loop-i : goal.invariant-loop-i
invariant-loop-i l = record {
  bytes : (m : ℕ) → m < l.i → get_or l.values m 0 ≡ get_or (column l.t l.pieces) m 0;
  elements : (m : ℕ) → m < l.i → get_or l.values m 0 < 256;
}
