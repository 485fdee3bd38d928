use Rattle.std.proofs.Common.{◌≡◌, ◌++◌, drop}
use Rattle.sia_records.specs.Stored.{changes_of}
use Rattle.sia_records.proofs.stored.changes_of.Given as goal

abbrev pub invariant-loop-step : goal.invariant-loop-step
invariant-loop-step l = changes_of l.steps l.slots ≡ l.changes ++ changes_of (drop l.step-index l.steps) l.rest
