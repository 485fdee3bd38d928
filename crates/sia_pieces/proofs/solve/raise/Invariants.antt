use Rattle.std.proofs.Common.{◌≡◌, ℕ, ◌+◌, ◌<◌, ◌≤◌, get_or, bit_xor}
use Rattle.sia_pieces.specs.Field.{product}
use Rattle.sia_pieces.proofs.solve.raise.Given as goal

abbrev pub invariant-loop-i : goal.invariant-loop-i
invariant-loop-i l = record {
  done : (m : ℕ) → m + 1 < l.i → get_or l.values m 0 ≡ bit_xor (get_or l.fn.values m 0) (product l.place (get_or l.fn.values (m + 1) 0));
  kept : (m : ℕ) → l.i ≤ m + 1 → get_or l.values m 0 ≡ get_or l.fn.values m 0;
}
