use Rattle.std.proofs.Common.{◌≡◌, take}
use Rattle.std.specs.List.{sum_by}
use Rattle.sia_host.specs.Writing.{update_bytes}
use Rattle.sia_host.proofs.writing.all_update_bytes.Given as goal

abbrev pub invariant-loop-action : goal.invariant-loop-action
invariant-loop-action l = l.total ≡ sum_by update_bytes (take l.action-index l.actions)
