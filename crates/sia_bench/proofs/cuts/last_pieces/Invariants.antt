use Rattle.std.proofs.Common.{◌≡◌, ◌+◌, ◌-◌, length}
use Rattle.sia_bench.specs.Cuts.{ArePlaced}
use Rattle.sia_bench.proofs.cuts.last_pieces.Given as goal

abbrev pub invariant-loop-place : goal.invariant-loop-place
invariant-loop-place l = record { count : l.place ≡ length l.cut - l.k + length l.chosen.items; placed : ArePlaced (length l.cut - l.k) l.chosen.items }
