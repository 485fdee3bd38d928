-- How the faults of a block are told: each by its name, but not want of memory. Nothing of Sia stands here.
use Rattle.std.specs.Prelude.{Option, Some, None}
use Rattle.sia_rules.specs.declared.fault.BlockFault.{BlockFault}
use Rattle.sia_rules.specs.declared.fault.BlockFault.TheVariants as block_fault

-- the fault that is told; want of memory tells none
abbrev pub block_told : BlockFault → Option BlockFault
block_told block_fault.Memory = None
block_told fault = Some fault
