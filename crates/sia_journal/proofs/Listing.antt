-- What a journal lists.
use Rattle.std.proofs.Common.{◌≡◌, ◌≢◌, ◌⊎◌, inl, inr, ℕ, zero, suc, ◌+◌, ◌^◌, ◌<◌, ◌≤◌, nat_lt, Bool, true, false, List, [], ◌∷◌, ◌++◌, length, take, drop, if◌then◌else◌, None, Result, Ok, Err, refl, sym, ap, subst, ◌∙◌, append_assoc, length-append, arith}
use Rattle.std.proofs.lemmas.List.{append-nil, take_at, drop_at, nil_from_length}
use Rattle.std.proofs.lemmas.List.Concat.{flat_map-append}
use Rattle.std.proofs.lemmas.Bool.{le-ltb, lt-ltb, cases_lt, cases_eq}
use Rattle.std.proofs.lemmas.Bool.Decides.{nat_tests, Decides-eqb}
use Rattle.std.proofs.lemmas.Slice.Eq.{slice_eq-Decides}
use Rattle.std.specs.Str.{bytes_eq}
use Rattle.sia_encoding.specs.Spelling.{spelled_bytes}
use Rattle.sia_journal.specs.Listed.{HEADER, FRESH, frame, frames, file_of, place_after, split_payload, behind_gate, records_from, listed}
use Rattle.sia_journal.specs.Opening.{IsBroken}
use Rattle.sia_journal.specs.Journal.{MidAppend}
use Rattle.sia_journal.proofs.Frames.{over_frames, count_within, before_none, before_error, all_before}

pub length-file : (header : List ℕ) (records : List (List ℕ)) (behind : List ℕ) → length header ≡ HEADER
    → length (file_of header records behind) ≡ place_after records + length behind
length-file header records behind size = omega (arith, size, length-append header (frames records ++ behind), length-append (frames records) behind)

-- the gates

gate_closed : (steps place gate : ℕ) (behind : List ℕ) → gate ≢ 1 → records_from (suc steps) place (gate ∷ behind) ≡ Ok []
unfolding records_from
gate_closed steps place gate behind shut = grind (arith, nat_tests)

gate_missing : (steps place : ℕ) → records_from steps place [] ≡ Err place
unfolding records_from
gate_missing zero place = refl
gate_missing (suc steps) place = refl

gate_broken : (steps place : ℕ) (behind : List ℕ) → split_payload behind ≡ None → records_from (suc steps) place (1 ∷ behind) ≡ Err place
unfolding records_from
gate_broken steps place behind broken = ap (λ split. behind_gate (records_from steps) place split) broken

broken_gate : (steps place : ℕ) (bytes : List ℕ) → IsBroken bytes → records_from (suc steps) place bytes ≡ Err place
broken_gate steps place bytes (inl none) = ap (records_from (suc steps) place) none ∙ gate_missing (suc steps) place
broken_gate steps place bytes (inr broken) = ap (records_from (suc steps) place) broken.1 ∙ gate_broken steps place broken.0 broken.2

-- the order of the causes

header_same : (file header : List ℕ) → take HEADER file ≡ header → bytes_eq (take HEADER file) header ≡ true
header_same file header same = (slice_eq-Decides Decides-eqb (take HEADER file) header _ refl).1 same

abbrev listed_long : List ℕ → ℕ → List ℕ → Result (List (List ℕ)) ℕ
listed_long header limit file =
    if bytes_eq (take HEADER file) header
    then (if nat_lt limit (length file) then Err limit else records_from (length file) HEADER (drop HEADER file))
    else Err 0

pub listed_few : (header : List ℕ) (limit : ℕ) (file : List ℕ) → length file ≤ FRESH → listed header limit file ≡ Ok []
unfolding listed
listed_few header limit file few = ap (λ b. if b then listed_long header limit file else Ok []) (le-ltb FRESH (length file) few)

is_long : (header : List ℕ) (limit : ℕ) (file : List ℕ) → FRESH < length file → listed header limit file ≡ listed_long header limit file
unfolding listed
is_long header limit file long = ap (λ b. if b then listed_long header limit file else Ok []) (lt-ltb FRESH (length file) long)

-- a staged payload behind an open gate is a record more
pub file_push : (header : List ℕ) (records : List (List ℕ)) (payload behind : List ℕ) → file_of header records (1 ∷ (spelled_bytes payload ++ behind)) ≡ file_of header (records ++ payload ∷ []) behind
file_push header records payload behind =
    ap (λ front. header ++ front)
    (sym (append_assoc (frames records) (frame payload) behind)
    ∙ ap (λ front. front ++ behind) (ap (λ last. frames records ++ last) (sym (append-nil (frame payload))) ∙ sym (flat_map-append frame records (payload ∷ []))))

not_true : (b : Bool) → (b ≡ true → ⊥) → b ≡ false
not_true true never = absurd (never refl)
not_true false never = refl

pub listed_no_header : (header : List ℕ) (limit : ℕ) (file : List ℕ) → FRESH < length file → (take HEADER file ≡ header → ⊥) → listed header limit file ≡ Err 0
listed_no_header header limit file long other =
    is_long header limit file long
    ∙ ap (λ b. if b then (if nat_lt limit (length file) then Err limit else records_from (length file) HEADER (drop HEADER file)) else Err 0)
    (not_true (bytes_eq (take HEADER file) header) (λ is. other ((slice_eq-Decides Decides-eqb (take HEADER file) header _ refl).0 is)))

pub listed_past_limit : (header : List ℕ) (limit : ℕ) (file : List ℕ) → FRESH < length file → take HEADER file ≡ header → limit < length file → listed header limit file ≡ Err limit
listed_past_limit header limit file long begins past =
    is_long header limit file long
    ∙ ap (λ b. if b then (if nat_lt limit (length file) then Err limit else records_from (length file) HEADER (drop HEADER file)) else Err 0) (header_same file header begins)
    ∙ ap (λ b. if b then Err limit else records_from (length file) HEADER (drop HEADER file)) (lt-ltb limit (length file) past)

module _ (header : List ℕ) (size : length header ≡ HEADER) (limit : ℕ) (bounded : limit < 2 ^ 64) where
  -- a long file within the limit that begins with the header
  walks : (records : List (List ℕ)) (bytes : List ℕ) → FRESH < length (file_of header records bytes) → length (file_of header records bytes) ≤ limit
      → listed header limit (file_of header records bytes) ≡ records_from (length (file_of header records bytes)) HEADER (frames records ++ bytes)
  walks records bytes long within =
      let file = file_of header records bytes in
      let begins = header_same file header (take_at header (frames records ++ bytes) HEADER size) in
      is_long header limit file long
      ∙ ap (λ b. if b then (if nat_lt limit (length file) then Err limit else records_from (length file) HEADER (drop HEADER file)) else Err 0) begins
      ∙ ap (λ b. if b then Err limit else records_from (length file) HEADER (drop HEADER file)) (le-ltb limit (length file) within)
      ∙ ap (records_from (length file) HEADER) (drop_at header (frames records ++ bytes) HEADER size)

  over : (records : List (List ℕ)) (bytes : List ℕ) → FRESH < length (file_of header records bytes) → length (file_of header records bytes) ≤ limit
      → (left : ℕ) × (listed header limit (file_of header records bytes) ≡ all_before records (records_from (suc left) (place_after records) bytes))
  over records bytes long within =
      let sizes = length-file header records bytes size in
      let on = over_frames records (length (file_of header records bytes)) HEADER bytes (omega (arith, sizes, within, bounded)) (omega (arith, sizes, count_within records)) in
      (on.0, walks records bytes long within ∙ on.1)

  no_records : (records : List (List ℕ)) → length (frames records) ≡ 0 → records ≡ []
  no_records records none = nil_from_length records (omega (arith, none, count_within records))

  pub listed_closed : (records : List (List ℕ)) (gate : ℕ) (behind : List ℕ) → gate ≢ 1 → length (file_of header records (gate ∷ behind)) ≤ limit
      → listed header limit (file_of header records (gate ∷ behind)) ≡ Ok records
  listed_closed records gate behind shut within = elim (cases_lt FRESH (length (file_of header records (gate ∷ behind)))) [
    | inl long ↦ let on = over records (gate ∷ behind) long within in
        on.1 ∙ ap (all_before records) (gate_closed on.0 (place_after records) gate behind shut) ∙ before_none records
    | inr few ↦ listed_few header limit (file_of header records (gate ∷ behind)) few
        ∙ ap Ok (sym (no_records records (omega (arith, few, length-file header records (gate ∷ behind) size))))
  ]

  pub listed_broken : (records : List (List ℕ)) (bytes : List ℕ) → IsBroken bytes → FRESH < length (file_of header records bytes) → length (file_of header records bytes) ≤ limit
      → listed header limit (file_of header records bytes) ≡ Err (place_after records)
  listed_broken records bytes broken long within =
      let on = over records bytes long within in
      on.1 ∙ ap (all_before records) (broken_gate on.0 (place_after records) bytes broken) ∙ before_error records (place_after records)

  pub mid_listed : (records : List (List ℕ)) (payload file : List ℕ) → MidAppend header limit records payload file
      → (listed header limit file ≡ Ok records) ⊎ (listed header limit file ≡ Ok (records ++ payload ∷ []))
  mid_listed records payload file (inl fresh) = inl (listed_few header limit file fresh.few ∙ ap Ok (sym fresh.none))
  mid_listed records payload file (inr (inl closed)) =
      let P : List ℕ → Type 0 = λ f. length f ≤ limit in
      inl (ap (listed header limit) closed.is ∙ listed_closed records 0 closed.behind (omega arith) (subst P closed.is closed.within))
  mid_listed records payload file (inr (inr staged)) =
      let P : List ℕ → Type 0 = λ f. length f ≤ limit in
      let within = subst P staged.is staged.within in
      elim (cases_eq staged.gate 1) [
        | inl open_gate ↦
            let is : file ≡ file_of header (records ++ payload ∷ []) (0 ∷ []) =
            staged.is ∙ ap (λ gate. file_of header records (gate ∷ (spelled_bytes payload ++ 0 ∷ []))) open_gate ∙ file_push header records payload (0 ∷ []) in
            inr (ap (listed header limit) is ∙ listed_closed (records ++ payload ∷ []) 0 [] (omega arith) (subst P is staged.within))
        | inr shut ↦ inl (ap (listed header limit) staged.is ∙ listed_closed records staged.gate (spelled_bytes payload ++ 0 ∷ []) shut within)
      ]
