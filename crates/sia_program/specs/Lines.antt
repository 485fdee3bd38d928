-- What is printed: ASCII lines that end with a line feed. Numbers are decimal, hashes 64 lower-case hexadecimal digits. Here stand
-- the lines that commands share; those of one command stand with it.
use Rattle.std.specs.Prelude.{ℕ, ◌+◌, List, [], ◌++◌, codes, decimal}
use Rattle.sia_config.specs.Key.{key_text}
use Rattle.sia_program.specs.Faults.{block_fault_text}
use Rattle.sia_program.specs.declared.stop.Refusal.{Refusal}
use Rattle.sia_program.specs.declared.stop.Refusal.TheVariants as refusal
use Rattle.sia_program.specs.declared.stop.Stop.{Stop}
use Rattle.sia_program.specs.declared.stop.Stop.TheVariants as stop

-- a name and its value
unfoldable pub line : List ℕ → List ℕ → List ℕ
line name value = name ++ (codes " " ++ (value ++ codes "\n"))

-- what was refused; a block stands one above the tip
unfoldable pub refusal_text : Refusal → List ℕ
refusal_text refusal.ConfigText = codes "config text"
refusal_text (refusal.ConfigKey key) = codes "config " ++ key_text key
refusal_text (refusal.Feed at) = codes "feed at " ++ decimal at
refusal_text (refusal.Block tip_height rule) = codes "block " ++ (decimal (tip_height + 1) ++ (codes " " ++ block_fault_text rule))
refusal_text refusal.NoBlock = codes "feed NoBlock"
refusal_text refusal.Range = codes "range"
refusal_text (refusal.Input at) = codes "input at " ++ decimal at

-- the line on standard error where the words have no form
abbrev pub usage_line : List ℕ
usage_line = codes "sia-v1: usage\n"

-- the line on standard error where a command ended before its work was done
unfoldable pub stop_line : Stop → List ℕ
stop_line (stop.Refused case) = codes "sia-v1: refused " ++ (refusal_text case ++ codes "\n")
stop_line stop.Outside = codes "sia-v1: outside fault\n"
stop_line stop.Memory = codes "sia-v1: no memory\n"
stop_line stop.Long = codes "sia-v1: input too long\n"
