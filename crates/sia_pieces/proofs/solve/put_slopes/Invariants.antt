use Rattle.std.proofs.Common.{◌≡◌, ℕ, ◌<◌, ◌≤◌, get_or}
use Rattle.sia_pieces.specs.Solving.{slope, places}
use Rattle.sia_pieces.proofs.solve.put_slopes.Given as goal

abbrev pub invariant-loop-i : goal.invariant-loop-i
invariant-loop-i l = record {
  done : (m : ℕ) → m < l.i → get_or l.values m 0 ≡ slope l.place l.value (get_or (places l.pieces) m 0) (get_or l.fn.values m 0);
  kept : (m : ℕ) → l.i ≤ m → get_or l.values m 0 ≡ get_or l.fn.values m 0;
}
