use Rattle.std.proofs.Common.{◌≡◌, ◌≤◌, ◌++◌, drop, length, []}
use Rattle.sia_ledger.specs.Blocks.{ending}
use Rattle.sia_ledger.proofs.ending.ending_among.Given as goal

abbrev pub invariant-loop-at : goal.invariant-loop-at
invariant-loop-at l = record { put : l.ids.items ≡ ending l.height (drop l.at l.fresh ++ []); within : l.at ≤ length l.fresh }

abbrev pub decreases-loop-at : goal.decreases-loop-at
decreases-loop-at l = l.at
