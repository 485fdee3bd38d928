-- Numbers among the words behind the program's name: decimal digits, as `printf` would write the number.
use Rattle.std.specs.Prelude.{ℕ, ◌^◌, List, nat_lt, if◌then◌else◌, Option, Some, None, option_and_then}
use Rattle.sia_config.specs.Decimal.{decimal_number}

-- a number that 64 bits hold
abbrev pub word_sized : ℕ → Option ℕ
word_sized n = if nat_lt n (2 ^ 64) then Some n else None

-- the number below 2^64 that a word's decimal digits write: no sign, and no leading zero
unfoldable pub number_of : List ℕ → Option ℕ
number_of word = option_and_then word_sized (decimal_number word)
