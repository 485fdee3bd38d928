use Rattle.std.proofs.Common.{◌≡◌, ◌*◌, ◌++◌, map, take}
use Rattle.sia_merkle.specs.Levels.{levels_up}
use Rattle.sia_merkle.specs.Roots.{leaf_digest, leaves_of}
use Rattle.sia_merkle.proofs.pieces.push_parts.Given as goal

abbrev pub invariant-loop-place : goal.invariant-loop-place
invariant-loop-place l = l.groups ≡ l.fn.groups ++ levels_up 6 (take (l.place * 64) (map leaf_digest (leaves_of l.bytes)))
