use Rattle.std.proofs.Common.{◌≡◌, map}
use Rattle.std.specs.List.{range_with_len}
use Rattle.sia_pieces.specs.Pieces.{values_at, groups}
use Rattle.sia_pieces.proofs.cut.cut_pieces.Given as goal

abbrev pub invariant-loop-place : goal.invariant-loop-place
invariant-loop-place l = l.cut ≡ map (λ place. values_at place (groups l.k l.bytes)) (range_with_len 0 l.place)
