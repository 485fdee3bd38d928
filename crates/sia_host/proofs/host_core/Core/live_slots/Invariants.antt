use Rattle.std.proofs.Common.{◌≡◌, map, take}
use Rattle.std.specs.List.{flat_map}
use Rattle.sia_records.specs.Stored.{Stored}
use Rattle.sia_kept.specs.State.{Kept}
use Rattle.sia_host.proofs.host_core.Core.live_slots.Given as goal

abbrev pub invariant-loop-contract : goal.invariant-loop-contract
invariant-loop-contract l = l.live.items ≡ flat_map (λ (c : Kept). map (λ (s : Stored). s.slot) c.sectors) (take l.contract-index l.contract-items)
