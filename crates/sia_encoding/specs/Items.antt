-- The items that records are made of, each by one definition of what fits it, how it is spelled and how it is read (siad's
-- doc/Encoding.md).
use Rattle.std.specs.Prelude.{ℕ, Bool, true, false, List, ◌++◌, Option, Some, None, IfSome, Result, Ok}
use Rattle.sia_encoding.specs.declared.fault.DecodeFault.{DecodeFault}
use Rattle.sia_encoding.specs.Answer.{◌>>=◌}
use Rattle.sia_encoding.specs.Spelling.{spelled_u64, spelled_bool, spelled_bytes, spelled_currency, spelled_list}
use Rattle.sia_encoding.specs.Reading.{Spot, fixed_at, u64_at, bool_at, bytes_at, currency_at, list_at}
use Rattle.sia_encoding.specs.Codec.{Codec, IsFixed, IsU64, IsBool, IsByteString, IsCurrency, IsListOf, spelled_fixed}

-- n bytes
abbrev pub fixed : ℕ → Codec (List ℕ)
fixed n = record { fits = IsFixed n; spelled = spelled_fixed; reading = fixed_at n }

-- a hash
abbrev pub hash : Codec (List ℕ)
hash = fixed 32

-- an integer
abbrev pub number : Codec ℕ
number = record { fits = IsU64; spelled = spelled_u64; reading = u64_at }

-- a bool
abbrev pub truth : Codec Bool
truth = record { fits = IsBool; spelled = spelled_bool; reading = bool_at }

-- a currency
abbrev pub currency : Codec ℕ
currency = record { fits = IsCurrency; spelled = spelled_currency; reading = currency_at }

-- a byte string
abbrev pub byte_string : Codec (List ℕ)
byte_string = record { fits = IsByteString; spelled = spelled_bytes; reading = bytes_at }

-- a list
abbrev pub list_of : {A : Type 0} → Codec A → Codec (List A)
list_of element = record { fits = IsListOf element.fits; spelled = spelled_list element.spelled; reading = list_at element.reading }

-- the spelling of a value that may be missing: a bool that says whether it is there, and then the value
abbrev pub spelled_option : {A : Type 0} → (A → List ℕ) → Option A → List ℕ
spelled_option spelled None = spelled_bool false
spelled_option spelled (Some value) = spelled_bool true ++ spelled value

-- a value that is missing, or fits
abbrev pub IsOption : {A : Type 0} → (ℕ → A → Type 0) → ℕ → Option A → Type 0
IsOption Fits limit value = IfSome value (Fits limit)

-- what stands behind the bool
abbrev pub behind_bool : {A : Type 0} → (Spot → Result (A × Spot) DecodeFault) → Bool × Spot → Result (Option A × Spot) DecodeFault
behind_bool read (false, s) = Ok (None, s)
behind_bool read (true, s) = read s >>= (λ taken. Ok (Some taken.0, taken.1))

-- the reading of a value that may be missing
unfoldable pub option_at : {A : Type 0} → (Spot → Result (A × Spot) DecodeFault) → Spot → Result (Option A × Spot) DecodeFault
option_at read s = bool_at s >>= behind_bool read

-- a value that may be missing
abbrev pub option_of : {A : Type 0} → Codec A → Codec (Option A)
option_of value = record { fits = IsOption value.fits; spelled = spelled_option value.spelled; reading = option_at value.reading }
