use Rattle.std.proofs.Common.{◌≡◌, ◌*◌, take}
use Rattle.sia_merkle.specs.Levels.{levels_up}
use Rattle.sia_merkle.proofs.whole.root_by_group.Given as goal

abbrev pub invariant-loop-place : goal.invariant-loop-place
invariant-loop-place l = l.stack ≡ levels_up 6 (take (l.place * 64) l.hashes)
