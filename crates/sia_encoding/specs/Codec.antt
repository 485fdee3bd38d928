-- What a spelling and a reading owe each other: each value has one spelling, and it is read back (siad's doc/Encoding.md).
-- What is spelled and read, and the values that fit a limit, are one definition: a codec.
use Rattle.std.specs.Prelude.{◌≡◌, ℕ, ◌+◌, ◌^◌, ◌<◌, ◌≤◌, ◌++◌, Bool, List, [], length, All, IfOk, Result, Ok}
use Rattle.std.specs.Int.Digits.{digits_of}
use Rattle.sia_encoding.specs.declared.fault.DecodeFault.{DecodeFault}
use Rattle.sia_encoding.specs.Reading.{Spot, past}

-- each is a byte
abbrev pub AreBytes : List ℕ → Type 0
AreBytes bytes = All (λ byte. byte < 256) bytes

-- the spot at an offset, with these bytes left
abbrev pub spot : ℕ → List ℕ → ℕ → Spot
spot at left limit = record { at = at; left = left; limit = limit }

-- the bytes between two spots spell the value, which fits
pub record IsSpelled {A : Type 0} (Fits : ℕ → A → Type 0) (spelled : A → List ℕ) (from : Spot) (value : A) (to : Spot) : Type 0 where
  pub fits : Fits from.limit value
  pub bytes : from.left ≡ spelled value ++ to.left
  pub behind : to ≡ past (length (spelled value)) from

-- A reading gives back what a spelling writes. `Fits limit value`: the value is of its type, and no length or count of
-- its spelling is above the limit.
pub record IsCodec {A : Type 0} (Fits : ℕ → A → Type 0) (spelled : A → List ℕ) (read : Spot → Result (A × Spot) DecodeFault) : Type 0 where
  -- what is read is spelled so
  pub spelled_so : (from : Spot) → AreBytes from.left → IfOk (read from) (λ taken. IsSpelled Fits spelled from taken.0 taken.1)
  -- what is spelled so is read, whatever follows
  pub read_back : (at limit : ℕ) (value : A) (rest : List ℕ) → Fits limit value → read (spot at (spelled value ++ rest) limit) ≡ Ok (value, spot (at + length (spelled value)) rest limit)
  -- no spelling is a proper prefix of another
  pub no_prefix : (limit : ℕ) (value other : A) (rest : List ℕ) → Fits limit value → Fits limit other → spelled value ≡ spelled other ++ rest → (value ≡ other) × (rest ≡ [])

-- how the values of a type are spelled and read, and which of them fit a limit of lengths and counts
pub record Codec (A : Type 0) : Type 1 where
  pub fits : ℕ → A → Type 0
  pub spelled : A → List ℕ
  pub reading : Spot → Result (A × Spot) DecodeFault

-- its reading gives back what its spelling writes
abbrev pub Lawful : {A : Type 0} → Codec A → Type 0
Lawful codec = IsCodec codec.fits codec.spelled codec.reading

-- the values that fit

-- a fixed array of n bytes
abbrev pub IsFixed : ℕ → ℕ → List ℕ → Type 0
IsFixed n limit bytes = (length bytes ≡ n) × AreBytes bytes

-- a fixed array is spelled as it is
abbrev pub spelled_fixed : List ℕ → List ℕ
spelled_fixed bytes = bytes

-- an integer
abbrev pub IsU64 : ℕ → ℕ → Type 0
IsU64 limit n = n < 2 ^ 64

-- a bool
abbrev pub IsBool : ℕ → Bool → Type 0
IsBool limit b = Unit {0}

-- a count or a length
abbrev pub IsCount : ℕ → ℕ → Type 0
IsCount limit n = (n ≤ limit) × (n < 2 ^ 64)

-- a byte string
abbrev pub IsByteString : ℕ → List ℕ → Type 0
IsByteString limit bytes = IsCount limit (length bytes) × AreBytes bytes

-- a currency
abbrev pub IsCurrency : ℕ → ℕ → Type 0
IsCurrency limit value = (value < 2 ^ 128) × (length (digits_of 256 value) ≤ limit)

-- a list, of elements that fit
abbrev pub IsListOf : {A : Type 0} → (ℕ → A → Type 0) → ℕ → List A → Type 0
IsListOf Fits limit xs = IsCount limit (length xs) × All (Fits limit) xs
