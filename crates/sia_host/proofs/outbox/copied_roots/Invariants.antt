use Rattle.std.proofs.Common.{◌≡◌, map, take}
use Rattle.sia_kept.specs.State.{root_in}
use Rattle.sia_host.proofs.outbox.copied_roots.Given as goal

abbrev pub invariant-loop-sector : goal.invariant-loop-sector
invariant-loop-sector l = l.roots ≡ map root_in (take l.sector-index l.sectors)
