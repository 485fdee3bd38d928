-- How a host that doesn't begin is told: by the fault of its genesis, but not want of memory. Nothing of Sia stands here.
use Rattle.std.specs.Prelude.{Option, Some, None}
use Rattle.sia_ledger.specs.declared.fault.GenesisFault.{GenesisFault}
use Rattle.sia_host.specs.declared.config.CoreFault.{CoreFault}
use Rattle.sia_host.specs.declared.config.CoreFault.TheVariants as core_fault

-- the fault that is told; want of memory tells none
abbrev pub core_told : CoreFault → Option GenesisFault
core_told core_fault.Memory = None
core_told (core_fault.Genesis fault) = Some fault
