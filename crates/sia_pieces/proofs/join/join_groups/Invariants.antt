use Rattle.std.proofs.Common.{◌≡◌, ◌++◌, ◌<◌, ℕ, map, get_or}
use Rattle.std.specs.List.{concat, range_with_len}
use Rattle.sia_pieces.specs.Solving.{solved, places, column}
use Rattle.sia_pieces.proofs.join.join_groups.Given as goal

abbrev pub invariant-loop-t : goal.invariant-loop-t
invariant-loop-t l = record {
  bytes : (t : ℕ) → t < l.t → (i : ℕ) → get_or (column t l.pieces) i 0 < 256;
  groups : l.joined ≡ l.fn.joined ++ concat (map (λ t. solved (places l.pieces) (column t l.pieces)) (range_with_len 0 l.t));
}
