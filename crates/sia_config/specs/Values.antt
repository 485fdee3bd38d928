-- The value of a key by its form: an integer in a range, or an amount. An absent key has its default; a value of another type or
-- out of its range refuses the key.
use Rattle.std.specs.Prelude.{ℕ, ℤ, pos, List, nat_le, ◌&&◌, if◌then◌else◌, Option, Some, None, option_and_then, Result}
use Rattle.std.specs.Option.{ok_or}
use Rattle.toml.specs.Data.{Data, as_integer, as_str}
use Rattle.sia_config.specs.declared.key.ConfigKey.{ConfigKey}
use Rattle.sia_config.specs.declared.fault.ConfigFault.{ConfigFault}
use Rattle.sia_config.specs.declared.fault.ConfigFault.TheVariants as fault
use Rattle.sia_config.specs.Decimal.{decimal_number}
use Rattle.sia_config.specs.Document.{value_at}

-- what is read of a value, or the default where there is none
abbrev pub or_default : ℕ → (Data → Option ℕ) → Option Data → Option ℕ
or_default default read None = Some default
or_default default read (Some d) = read d

-- an integer from low to high
abbrev pub between : ℕ → ℕ → Option ℤ → Option ℕ
between low high (Some (pos n)) = if nat_le low n && nat_le n high then Some n else None
between low high _ = None

-- a value that is such an integer
abbrev pub integer_in : ℕ → ℕ → Data → Option ℕ
integer_in low high d = between low high (as_integer d)

-- a value that is an amount of hastings: a text of decimal digits, below 2^128
abbrev pub amount_in : Data → Option ℕ
amount_in d = option_and_then decimal_number (as_str d)

-- the integer at a key, from low to high, or its default
unfoldable pub integer : Data → ConfigKey → ℕ → ℕ → ℕ → Result ℕ ConfigFault
integer doc key low high default = ok_or (or_default default (integer_in low high) (value_at key doc)) (fault.Key key)

-- the amount at a key, or its default
unfoldable pub amount : Data → ConfigKey → ℕ → Result ℕ ConfigFault
amount doc key default = ok_or (or_default default amount_in (value_at key doc)) (fault.Key key)
