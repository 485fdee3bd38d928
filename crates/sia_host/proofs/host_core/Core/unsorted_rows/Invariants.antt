use Rattle.std.proofs.Common.{◌≡◌, map, take}
use Rattle.sia_host.specs.Reporting.{report_row}
use Rattle.sia_host.proofs.host_core.Core.unsorted_rows.Given as goal

abbrev pub invariant-loop-contract : goal.invariant-loop-contract
invariant-loop-contract l = l.rows.items ≡ map (report_row l.self) (take l.contract-index l.contract-items)
