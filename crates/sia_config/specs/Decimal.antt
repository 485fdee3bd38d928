-- Numbers in decimal digits, as `printf` would write them.
use Rattle.std.specs.Prelude.{ℕ, List, length, Bool, not, get_or, nat_eq, nat_lt, ◌&&◌, ◌^◌, if◌then◌else◌, Option, Some, None}
use Rattle.std.specs.Str.{all_ascii_digits}
use Rattle.std.specs.Str.Parse.{digits_value}

-- a zero stands before other digits
abbrev pub has_leading_zero : List ℕ → Bool
has_leading_zero text = nat_eq (get_or text 0 0) 48 && nat_lt 1 (length text)

-- one digit or more, and no leading zero
abbrev pub is_decimal : List ℕ → Bool
is_decimal text = all_ascii_digits text && nat_lt 0 (length text) && not (has_leading_zero text)

-- the number below 2^128 that a text of digits writes: no sign, and no leading zero
unfoldable pub decimal_number : List ℕ → Option ℕ
decimal_number text = if is_decimal text && nat_lt (digits_value 10 text) (2 ^ 128) then Some (digits_value 10 text) else None
