use Rattle.std.proofs.Common.{◌≡◌, take}
use Rattle.sia_price.specs.Payments.{with_values}
use Rattle.sia_price.proofs.revising.outputs_with.Given as goal

abbrev pub invariant-loop-i : goal.invariant-loop-i
invariant-loop-i l = l.changed ≡ with_values (take l.i l.outputs) l.values
