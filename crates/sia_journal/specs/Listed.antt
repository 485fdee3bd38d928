-- What the bytes of a journal stand for: a header of 16 bytes, then frames, then one gate byte that isn't 1. A frame is
-- the gate byte 1, the length of a payload in 8 bytes, the lowest first, and the payload. The form is this product's own; a
-- payload is spelled as siad's encoding spells a byte slice.
use Rattle.std.specs.Prelude.{◌≡◌, ℕ, zero, suc, ◌+◌, ◌-◌, ◌≤◌, ◌==◌, nat_lt, List, [], ◌∷◌, ◌++◌, length, take, drop, if◌then◌else◌, Option, Some, None, Result, Ok, Err}
use Rattle.std.specs.List.{flat_map}
use Rattle.std.specs.Int.{w64, from_le_bytes}
use Rattle.std.specs.Str.{bytes_eq}
use Rattle.sia_encoding.specs.Spelling.{spelled_bytes}

-- how many bytes a header has
abbrev pub HEADER : ℕ
HEADER = 16

-- how many bytes a journal of no records has: its header and the last gate
abbrev pub FRESH : ℕ
FRESH = 17

-- a file of so few bytes that it lists nothing
abbrev pub IsFew : List ℕ → Type 0
IsFew file = length file ≤ FRESH

-- a record in the file
abbrev pub frame : List ℕ → List ℕ
frame payload = 1 ∷ spelled_bytes payload

-- records in the file, one behind the other
abbrev pub frames : List (List ℕ) → List ℕ
frames records = flat_map frame records

-- a header, frames, and what stands behind them
abbrev pub file_of : List ℕ → List (List ℕ) → List ℕ → List ℕ
file_of header records behind = header ++ (frames records ++ behind)

-- a whole journal that isn't being written
abbrev pub at_rest : List ℕ → List (List ℕ) → List ℕ
at_rest header records = file_of header records (0 ∷ [])

-- where the gate behind these records stands
abbrev pub place_after : List (List ℕ) → ℕ
place_after records = HEADER + length (frames records)

-- the payload in the bytes of a record: between 8 bytes of length and a gate
abbrev pub payload_of : List ℕ → List ℕ
payload_of body = drop 8 (take (length body - 1) body)

-- A payload behind its open gate, and what follows it. None where its length or some of its bytes are missing.
abbrev pub split_payload : List ℕ → Option (List ℕ × List ℕ)
split_payload bytes =
    let size = from_le_bytes w64 (take 8 bytes) in
    if nat_lt (length bytes) (8 + size) then None else Some (take size (drop 8 bytes), drop (8 + size) bytes)

-- one record in front
abbrev pub before : List ℕ → Result (List (List ℕ)) ℕ → Result (List (List ℕ)) ℕ
before payload (Ok records) = Ok (payload ∷ records)
before payload (Err place) = Err place

-- the record of an open gate, and those behind it; the gate's place where it has no whole frame
abbrev pub behind_gate : (ℕ → List ℕ → Result (List (List ℕ)) ℕ) → ℕ → Option (List ℕ × List ℕ) → Result (List (List ℕ)) ℕ
behind_gate others place None = Err place
behind_gate others place (Some (payload, rest)) = before payload (others (place + length (frame payload)) rest)

-- The payloads of the open frames from the gate at this place on. It is an error with the place where no gate is, or an
-- open one has no whole frame behind it. As many steps are enough as there are bytes.
unfoldable pub records_from : ℕ → ℕ → List ℕ → Result (List (List ℕ)) ℕ
records_from zero place bytes = Err place
records_from (suc steps) place [] = Err place
records_from (suc steps) place (gate ∷ rest) =
    if gate == 1 then behind_gate (records_from steps) place (split_payload rest) else Ok []

-- What a journal of at most so many bytes lists. A file of at most 17 bytes lists nothing, whatever they are. Of a longer
-- one it is an error with a place: 0 where it hasn't the header, the limit where it passes that, else the first gate that
-- is open without a whole frame and another gate behind it, where the missing gate's place is the end.
unfoldable pub listed : List ℕ → ℕ → List ℕ → Result (List (List ℕ)) ℕ
listed header limit file =
    if nat_lt FRESH (length file)
    then (if bytes_eq (take HEADER file) header
    then (if nat_lt limit (length file) then Err limit else records_from (length file) HEADER (drop HEADER file))
    else Err 0)
    else Ok []

-- a file that lists nothing but an error
abbrev pub IsDamaged : List ℕ → ℕ → List ℕ → Type 0
IsDamaged header limit file = (place : ℕ) × (listed header limit file ≡ Err place)
