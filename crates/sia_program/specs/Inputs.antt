-- The bytes of what a command reads, each within its bound.
use Rattle.std.specs.Prelude.{ℕ, List, length, nat_le, if◌then◌else◌, Result, Ok, Err}
use Rattle.sia_program.specs.declared.stop.Stop.{Stop}
use Rattle.sia_program.specs.declared.stop.Stop.TheVariants as stop

-- bytes that are no more than a bound
unfoldable pub within : ℕ → List ℕ → Result (List ℕ) Stop
within bound bytes = if nat_le (length bytes) bound then Ok bytes else Err stop.Long
