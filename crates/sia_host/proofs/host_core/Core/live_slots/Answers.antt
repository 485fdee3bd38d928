-- The slots of one contract more.
use Rattle.std.proofs.Common.{◌∙◌, ◌++◌, List, ap, map}
use Rattle.sia_records.specs.Stored.{Stored}
use Rattle.sia_kept.specs.State.{Kept}
use Rattle.sia_host.proofs.Marking.{live_more}
use Rattle.sia_host.proofs.host_core.Core.live_slots.Goals as goal

pub loop-contract-preserved : goal.loop-contract-preserved
loop-contract-preserved c =
    live_more c.as_slice-contract-items.result.now c.loop-contract.contract-index c.loop-contract.live.items _ c.contract-item.result c.loop-contract-test.true c.contract-item.is c.loop-contract.invariant
    (c.in_ok-push_slots.ensures ∙ ap (λ (xs : List Stored). c.loop-contract.live.items ++ map (λ (s : Stored). s.slot) xs) (c.as_slice.ensures ∙ ap (λ (k : Kept). k.sectors) c.contract.view_is))
