use Rattle.std.proofs.Common.{◌≡◌}
use Rattle.sia_merkle.specs.Roots.{leaves_of, root_of}
use Rattle.sia_bench.proofs.ranges.root_again.Given as goal

abbrev pub invariant-again : goal.invariant-again
invariant-again l = l.last ≡ root_of (leaves_of l.bytes)
