use Rattle.std.proofs.Common.{◌≡◌, ◌++◌, map, take}
use Rattle.sia_records.specs.Stored.{Stored}
use Rattle.sia_host.proofs.least_slots.push_slots.Given as goal

abbrev pub invariant-loop-sector : goal.invariant-loop-sector
invariant-loop-sector l = l.live.items ≡ l.fn.live.items ++ map (λ (s : Stored). s.slot) (take l.sector-index l.sectors)
