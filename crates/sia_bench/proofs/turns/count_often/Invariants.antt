-- The pass stays a worker's.
use Rattle.sia_turn.specs.Tokens.{IsWorker}
use Rattle.sia_bench.proofs.turns.count_often.Given as goal

abbrev pub invariant-loop : goal.invariant-loop
invariant-loop g l = IsWorker l.turn.turn l.pass
