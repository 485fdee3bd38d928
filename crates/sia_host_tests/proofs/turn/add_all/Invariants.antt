-- The pass stays a worker's.
use Rattle.std.proofs.Common.{◌-◌}
use Rattle.sia_turn.specs.Tokens.{IsWorker}
use Rattle.sia_host_tests.proofs.turn.add_all.Given as goal

abbrev pub invariant-loop-number : goal.invariant-loop-number
invariant-loop-number g l = IsWorker l.turn.turn l.pass

abbrev pub decreases-loop-number : goal.decreases-loop-number
decreases-loop-number g l = l.total - l.number
