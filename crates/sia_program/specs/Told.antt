-- What the code's errors tell, and how the refusal of a step ends a command. Want of memory tells nothing, nor does a fault of
-- the outside.
use Rattle.std.specs.Prelude.{ℕ, Option, Some, None, Result, Ok, Err}
use Rattle.sia_encoding.specs.declared.fault.DecodeFault.{DecodeFault}
use Rattle.sia_encoding.specs.declared.fault.DecodeFault.TheVariants as decode_fault
use Rattle.sia_config.specs.declared.fault.ConfigFault.{ConfigFault}
use Rattle.sia_config.specs.declared.fault.ConfigFault.TheVariants as config_fault
use Rattle.sia_program.specs.declared.stop.Refusal.{Refusal}
use Rattle.sia_program.specs.declared.stop.Refusal.TheVariants as refusal
use Rattle.sia_program.specs.declared.stop.Fault.{Fault}
use Rattle.sia_program.specs.declared.stop.Fault.TheVariants as fault
use Rattle.sia_program.specs.declared.stop.Stop.{Stop}
use Rattle.sia_program.specs.declared.stop.Stop.TheVariants as stop

-- the refusal that a fault tells
abbrev pub refusal_told : Fault → Option Refusal
refusal_told (fault.Refused case) = Some case
refusal_told fault.Memory = None

-- the end that a stop tells
abbrev pub stop_told : Stop → Option Stop
stop_told (stop.Refused case) = Some (stop.Refused case)
stop_told stop.Long = Some stop.Long
stop_told stop.Outside = None
stop_told stop.Memory = None

-- the place of a fault of bytes, from 0
abbrev pub place_of : DecodeFault → ℕ
place_of (decode_fault.Short at) = at
place_of (decode_fault.BadBool at) = at
place_of (decode_fault.BadKind at) = at
place_of (decode_fault.BadCurrency at) = at
place_of (decode_fault.TooLong at) = at
place_of (decode_fault.Rest at) = at
place_of decode_fault.Memory = 0

-- the same, where it says something of the bytes
abbrev pub place_told : DecodeFault → Option ℕ
place_told decode_fault.Memory = None
place_told unread = Some (place_of unread)

-- bytes that can't be read are refused at the place of their fault, in one case or another
abbrev pub or_refused_at : {A : Type 0} → (ℕ → Refusal) → Result A DecodeFault → Result A Refusal
or_refused_at case (Ok x) = Ok x
or_refused_at case (Err unread) = Err (case (place_of unread))

-- how a fault of bytes is told. Want of memory says nothing of them.
abbrev pub told_at : (ℕ → Refusal) → DecodeFault → Fault
told_at case decode_fault.Memory = fault.Memory
told_at case unread = fault.Refused (case (place_of unread))

-- how a refused configuration ends the command
abbrev pub config_stop : ConfigFault → Stop
config_stop config_fault.Text = stop.Refused refusal.ConfigText
config_stop (config_fault.Key key) = stop.Refused (refusal.ConfigKey key)
config_stop config_fault.Memory = stop.Memory

-- a configuration, or the end of the command
abbrev pub or_config_refused : {A : Type 0} → Result A ConfigFault → Result A Stop
or_config_refused (Ok x) = Ok x
or_config_refused (Err config_fault) = Err (config_stop config_fault)

-- how a fault ends the command
abbrev pub fault_stop : Fault → Stop
fault_stop (fault.Refused case) = stop.Refused case
fault_stop fault.Memory = stop.Memory

-- the value of a step, or the end of the command
abbrev pub or_refused : {A : Type 0} → Result A Refusal → Result A Stop
or_refused (Ok x) = Ok x
or_refused (Err case) = Err (stop.Refused case)
