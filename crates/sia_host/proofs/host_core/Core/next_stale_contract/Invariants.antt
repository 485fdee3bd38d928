use Rattle.std.proofs.Common.{◌≡◌, ◌&&◌, ◌||◌, drop}
use Rattle.std.specs.Prelude.{option_copied}
use Rattle.sia_host.specs.Jobs.{is_above, is_stale}
use Rattle.sia_host.specs.Least.{least_by}
use Rattle.sia_kept.specs.State.{Kept}
use Rattle.sia_host.proofs.host_core.Core.next_stale_contract.Given as goal

abbrev pub invariant-loop-i : goal.invariant-loop-i
invariant-loop-i l = option_copied l.found ≡ least_by (λ (c : Kept). c.id) (λ (c : Kept). is_stale l.self c && (l.first || is_above c.id l.id)) (drop l.i l.contracts)
