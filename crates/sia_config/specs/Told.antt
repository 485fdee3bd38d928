-- What a fault of a configuration tells of its bytes. Want of memory tells nothing.
use Rattle.std.specs.Prelude.{Option, Some, None}
use Rattle.sia_config.specs.declared.fault.ConfigFault.{ConfigFault}
use Rattle.sia_config.specs.declared.fault.ConfigFault.TheVariants as fault

-- the refusal that a fault tells
abbrev pub config_told : ConfigFault → Option ConfigFault
config_told fault.Text = Some fault.Text
config_told (fault.Key key) = Some (fault.Key key)
config_told fault.Memory = None
