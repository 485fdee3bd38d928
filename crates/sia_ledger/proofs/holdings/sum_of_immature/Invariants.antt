use Rattle.std.proofs.Common.{◌≡◌, ◌+◌, length}
use Rattle.sia_ledger.specs.Holdings.{immature}
use Rattle.sia_ledger.proofs.holdings.sum_of_immature.Given as goal

abbrev pub invariant-loop-first : goal.invariant-loop-first
invariant-loop-first l = immature l.height l.facts ≡ l.sum + immature l.height l.rest

abbrev pub decreases-loop-first : goal.decreases-loop-first
decreases-loop-first l = length l.rest
