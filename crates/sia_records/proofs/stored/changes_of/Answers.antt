use Rattle.std.proofs.Common.{◌<◌, ◌≤◌, length, arith}
use Rattle.sia_records.proofs.Slots.{changes_done, next_change}
use Rattle.sia_records.proofs.stored.changes_of.Goals as goal

pub loop-step-preserved : goal.loop-step-preserved
loop-step-preserved c =
    let within : c.loop-step.step-index < length c.args.steps.now = omega arith in
    rw (c.in_ok-push.ensures.ok, c.change_at.ensures, c.slots_left-rest.ensures) (next_change _ _ _ _ _ _ within c.loop-step.invariant)

pub returns : goal.returns
returns c =
    let ended : length c.args.steps.now ≤ c.loop-step.step-index = omega arith in
    changes_done _ _ _ _ _ ended c.loop-step.invariant
