-- What files of frames list.
use Rattle.std.proofs.Common.{◌≡◌, ℕ, zero, suc, ◌+◌, ◌-◌, ◌*◌, ◌^◌, ◌<◌, ◌≤◌, nat_lt, false, List, [], ◌∷◌, ◌++◌, length, take, drop, get_or, if◌then◌else◌, Some, None, Result, Ok, Err, refl, sym, ap, ◌∙◌, append_assoc, length-append, arith}
use Rattle.std.proofs.lemmas.List.{take_at, drop_at, drop-drop, length-take-le, length-drop, take-append-drop}
use Rattle.std.proofs.lemmas.Nat.{le_bytes_8, from_le_bytes-to_le_bytes_8}
use Rattle.std.proofs.lemmas.Bool.{le-ltb, lt-ltb}
use Rattle.std.specs.Int.{w64, from_le_bytes}
use Rattle.sia_encoding.specs.Spelling.{spelled_bytes, spelled_u64}
use Rattle.sia_journal.specs.Listed.{frame, frames, split_payload, before, behind_gate, records_from}
use Rattle.sia_journal.specs.Listed.{payload_of}

pub length-u64 : (n : ℕ) → length (spelled_u64 n) ≡ 8
unfolding spelled_u64
length-u64 n = refl

pub length-spelled : (payload : List ℕ) → length (spelled_bytes payload) ≡ 8 + length payload
unfolding spelled_bytes
length-spelled payload = omega (arith, length-append (spelled_u64 (length payload)) payload, length-u64 (length payload))

pub length-frame : (payload : List ℕ) → length (frame payload) ≡ 9 + length payload
length-frame payload = omega (arith, length-spelled payload)

-- a body holds its payload
pub payload_of_body : (payload : List ℕ) → payload_of (spelled_bytes payload ++ 0 ∷ []) ≡ payload
unfolding spelled_bytes
payload_of_body payload =
    let size : length (spelled_bytes payload) ≡ length (spelled_bytes payload ++ 0 ∷ []) - 1 =
    omega (arith, length-append (spelled_bytes payload) (0 ∷ [])) in
    ap (drop 8) (take_at (spelled_bytes payload) (0 ∷ []) _ size)
    ∙ drop_at (spelled_u64 (length payload)) payload 8 (length-u64 (length payload))

-- the payload behind a gate

split_is : (bytes : List ℕ) (size : ℕ) → from_le_bytes w64 (take 8 bytes) ≡ size
    → split_payload bytes ≡ (if nat_lt (length bytes) (8 + size) then None else Some (take size (drop 8 bytes), drop (8 + size) bytes))
split_is bytes size is =
    ap (λ n. if nat_lt (length bytes) (8 + n) then None else Some (take n (drop 8 bytes), drop (8 + n) bytes)) is

pub split_spelled : (payload rest : List ℕ) → length payload < 2 ^ 64 → split_payload (spelled_bytes payload ++ rest) ≡ Some (payload, rest)
unfolding spelled_bytes spelled_u64
split_spelled payload rest fits =
    let u = spelled_u64 (length payload) in
    let parts : spelled_bytes payload ++ rest ≡ u ++ (payload ++ rest) = append_assoc u payload rest in
    let first : take 8 (u ++ (payload ++ rest)) ≡ u = take_at u (payload ++ rest) 8 (length-u64 (length payload)) in
    let size : from_le_bytes w64 (take 8 (u ++ (payload ++ rest))) ≡ length payload =
    ap (from_le_bytes w64) first ∙ from_le_bytes-to_le_bytes_8 (length payload) fits in
    let whole : nat_lt (length (u ++ (payload ++ rest))) (8 + length payload) ≡ false =
    le-ltb _ _ (omega (arith, length-append u (payload ++ rest), length-append payload rest, length-u64 (length payload))) in
    let one : take (length payload) (drop 8 (u ++ (payload ++ rest))) ≡ payload =
    ap (take (length payload)) (drop_at u (payload ++ rest) 8 (length-u64 (length payload))) ∙ take_at payload rest _ refl in
    let two : drop (8 + length payload) (u ++ (payload ++ rest)) ≡ rest =
    ap (drop (8 + length payload)) (sym (append_assoc u payload rest)) ∙ drop_at (u ++ payload) rest _ (length-spelled payload) in
    ap split_payload parts ∙ split_is (u ++ (payload ++ rest)) (length payload) size
    ∙ ap (λ b. if b then None else Some (take (length payload) (drop 8 (u ++ (payload ++ rest))), drop (8 + length payload) (u ++ (payload ++ rest)))) whole
    ∙ ap (λ front. Some (front, drop (8 + length payload) (u ++ (payload ++ rest)))) one
    ∙ ap (λ behind. Some (payload, behind)) two

pub split_short : (bytes : List ℕ) → length bytes < 8 + from_le_bytes w64 (take 8 bytes) → split_payload bytes ≡ None
split_short bytes short =
    split_is bytes (from_le_bytes w64 (take 8 bytes)) refl
    ∙ ap (λ b. if b then None else Some (take (from_le_bytes w64 (take 8 bytes)) (drop 8 bytes), drop (8 + from_le_bytes w64 (take 8 bytes)) bytes)) (lt-ltb _ _ short)

-- bytes whose first eight are a length that is there
pub spelled_at : (bytes : List ℕ) (size : ℕ) → 8 + size ≤ length bytes → ((i : ℕ) → get_or (take 8 bytes) i 0 < 256)
    → size ≡ from_le_bytes w64 (take 8 bytes) → bytes ≡ spelled_bytes (take size (drop 8 bytes)) ++ drop (8 + size) bytes
unfolding spelled_bytes spelled_u64
spelled_at bytes size whole are is =
    let payload = take size (drop 8 bytes) in
    let count : length payload ≡ size = length-take-le size (drop 8 bytes) (omega (arith, length-drop 8 bytes)) in
    let first : spelled_u64 (length payload) ≡ take 8 bytes =
    ap spelled_u64 count ∙ le_bytes_8 (take 8 bytes) size (length-take-le 8 bytes (omega arith)) are is in
    let behind : payload ++ drop (8 + size) bytes ≡ drop 8 bytes =
    ap (λ rest. payload ++ rest) (sym (drop-drop size 8 bytes)) ∙ take-append-drop size (drop 8 bytes) in
    sym (append_assoc (spelled_u64 (length payload)) payload (drop (8 + size) bytes)
    ∙ ap (λ front. front ++ (payload ++ drop (8 + size) bytes)) first
    ∙ ap (λ rest. take 8 bytes ++ rest) behind
    ∙ take-append-drop 8 bytes)

-- frames in front of others

abbrev pub all_before : List (List ℕ) → Result (List (List ℕ)) ℕ → Result (List (List ℕ)) ℕ
all_before [] result = result
all_before (payload ∷ records) result = before payload (all_before records result)

pub before_none : (records : List (List ℕ)) → all_before records (Ok []) ≡ Ok records
before_none [] = refl
before_none (payload ∷ records) = ap (before payload) (before_none records)

pub before_error : (records : List (List ℕ)) (place : ℕ) → all_before records (Err place) ≡ Err place
before_error [] place = refl
before_error (payload ∷ records) place = ap (before payload) (before_error records place)

one_more : (steps place : ℕ) (payload rest : List ℕ) → length payload < 2 ^ 64
    → records_from (suc steps) place (frame payload ++ rest) ≡ before payload (records_from steps (place + length (frame payload)) rest)
unfolding records_from
one_more steps place payload rest fits = ap (behind_gate (records_from steps) place) (split_spelled payload rest fits)

pub frames_cons : (payload : List ℕ) (records : List (List ℕ)) (behind : List ℕ)
    → frames (payload ∷ records) ++ behind ≡ frame payload ++ (frames records ++ behind)
frames_cons payload records behind = append_assoc (frame payload) (frames records) behind

pub length-frames_cons : (payload : List ℕ) (records : List (List ℕ)) → length (frames (payload ∷ records)) ≡ 9 + length payload + length (frames records)
length-frames_cons payload records = omega (arith, length-append (frame payload) (frames records), length-frame payload)

pub over_frames : (records : List (List ℕ)) (steps place : ℕ) (behind : List ℕ) → length (frames records) < 2 ^ 64 → length records < steps
    → (left : ℕ) × (records_from steps place (frames records ++ behind) ≡ all_before records (records_from (suc left) (place + length (frames records)) behind))
over_frames records zero place behind fits enough = absurd (omega (arith, enough))
over_frames [] (suc steps) place behind fits enough = (steps, ap (λ p. records_from (suc steps) p behind) (omega arith))
over_frames (payload ∷ records) (suc steps) place behind fits enough =
    let sizes = length-frames_cons payload records in
    let others = over_frames records steps (place + length (frame payload)) behind (omega (arith, sizes, fits)) (omega (arith, enough)) in
    let sum : place + length (frame payload) + length (frames records) ≡ place + length (frames (payload ∷ records)) =
    omega (arith, length-append (frame payload) (frames records)) in (
      others.0,
      ap (records_from (suc steps) place) (frames_cons payload records behind)
          ∙ one_more steps place payload (frames records ++ behind) (omega (arith, sizes, fits))
          ∙ ap (before payload) (others.1 ∙ ap (λ p. all_before records (records_from (suc others.0) p behind)) sum),
    )

pub count_within : (records : List (List ℕ)) → 9 * length records ≤ length (frames records)
count_within [] = omega arith
count_within (payload ∷ records) = omega (arith, count_within records, length-frames_cons payload records)

pub body_size : (body payload : List ℕ) → body ≡ spelled_bytes payload ++ 0 ∷ [] → length body ≡ 9 + length payload
body_size body payload is = omega (arith, ap length is, length-append (spelled_bytes payload) (0 ∷ []), length-spelled payload)

-- a body that was made of a payload holds it
pub body_made : (empty filled body payload : List ℕ) → empty ≡ [] → filled ≡ empty ++ spelled_bytes payload → body ≡ filled ++ 0 ∷ []
    → (body ≡ spelled_bytes (payload_of body) ++ 0 ∷ []) × (payload_of body ≡ payload)
body_made empty filled body payload none put pushed =
    let is : body ≡ spelled_bytes payload ++ 0 ∷ [] = pushed ∙ ap (λ front. front ++ 0 ∷ []) (put ∙ ap (λ front. front ++ spelled_bytes payload) none) in
    let holds : payload_of body ≡ payload = ap payload_of is ∙ payload_of_body payload in
    (is ∙ ap (λ p. spelled_bytes p ++ 0 ∷ []) (sym holds), holds)
