-- What each step of an append leaves.
use Rattle.std.proofs.Common.{◌≡◌, inl, inr, ℕ, ◌+◌, ◌≤◌, List, [], ◌∷◌, ◌++◌, length, drop, get_or, refl, sym, ap, subst, ◌∙◌, append_assoc, length-append, arith}
use Rattle.sia_encoding.specs.Spelling.{spelled_bytes}
use Rattle.sia_edge.specs.Disk.{Standing, Torn, overwritten, IsSettled, Only, Changes, Leaves, images_of}
use Rattle.sia_edge.proofs.Runs.{goes_on, weaken, step_of_only}
use Rattle.sia_journal.specs.Listed.{HEADER, frames, file_of, at_rest, place_after}
use Rattle.sia_journal.specs.Journal.{Holds, IsStaged, MidAppend}
use Rattle.sia_journal.proofs.Frames.{body_size}
use Rattle.sia_journal.proofs.Listing.{length-file, file_push}
use Rattle.sia_journal.proofs.Tearing.{torn_at_end, written_at_end, torn_within, written_within}

pub file_of_more : (header : List ℕ) (records : List (List ℕ)) (some more : List ℕ) → file_of header records some ++ more ≡ file_of header records (some ++ more)
file_of_more header records some more =
    append_assoc header (frames records ++ some) more ∙ ap (λ l. header ++ l) (append_assoc (frames records) some more)

-- a file in two parts, the second from a gate on
pub in_two : (header : List ℕ) (records : List (List ℕ)) (behind : List ℕ) → file_of header records behind ≡ (header ++ frames records) ++ behind
in_two header records behind = sym (append_assoc header (frames records) behind)

pub length-front : (header : List ℕ) (records : List (List ℕ)) → length header ≡ HEADER → length (header ++ frames records) ≡ place_after records
length-front header records size = omega (arith, size, length-append header (frames records))

module _ (header : List ℕ) (records : List (List ℕ)) (payload : List ℕ) (limit : ℕ) (size : length header ≡ HEADER) where
  abbrev body : List ℕ
  body = spelled_bytes payload ++ 0 ∷ []

  -- the new record behind a gate
  abbrev pub staged : ℕ → List ℕ
  staged gate = file_of header records (gate ∷ body)

  length-body : length body ≡ 9 + length payload
  length-body = body_size body payload refl

  length-at_rest : length (at_rest header records) ≡ place_after records + 1
  length-at_rest = length-file header records (0 ∷ []) size

  abbrev Fits : Type 0
  Fits = length (at_rest header records) + (9 + length payload) ≤ limit

  torn_body : Fits → (file : List ℕ) → Torn (place_after records + 1) (length body) (at_rest header records) file → MidAppend header limit records payload file
  torn_body fits file torn =
      let behind = drop (place_after records + 1) file in
      inr (inl (record {
        within = omega (arith, fits, torn.no_longer, length-at_rest, length-body);
        behind = behind;
        is = torn_at_end (at_rest header records) (place_after records + 1) length-at_rest (length body) file torn ∙ file_of_more header records (0 ∷ []) behind;
      }))

  body_written : overwritten (at_rest header records) (place_after records + 1) body ≡ staged 0
  body_written = written_at_end (at_rest header records) (place_after records + 1) length-at_rest body ∙ file_of_more header records (0 ∷ []) body

  length-staged : (gate : ℕ) → length (staged gate) ≡ length (at_rest header records) + (9 + length payload)
  length-staged gate = omega (arith, length-file header records (gate ∷ body) size, length-at_rest, length-body)

  pub torn_gate : (gate : ℕ) (file : List ℕ) → length (staged gate) ≤ limit → Torn (place_after records) 1 (staged gate) file → IsStaged header limit records payload file
  torn_gate gate file within torn =
      let front = header ++ frames records in
      let P : List ℕ → Type 0 = λ f. Torn (place_after records) 1 f file in
      let is = torn_within front (place_after records) (length-front header records size) gate body file (subst P (in_two header records (gate ∷ body)) torn) in
      record {
        within = omega (arith, within, torn.no_longer, length-staged gate, length-at_rest);
        gate = get_or file (place_after records) 0;
        is = is ∙ sym (in_two header records (get_or file (place_after records) 0 ∷ body));
      }

  gate_written : overwritten (staged 0) (place_after records) (1 ∷ []) ≡ at_rest header (records ++ payload ∷ [])
  gate_written =
      let front = header ++ frames records in
      ap (λ f. overwritten f (place_after records) (1 ∷ [])) (in_two header records (0 ∷ body))
      ∙ written_within front (place_after records) (length-front header records size) 0 body 1
      ∙ sym (in_two header records (1 ∷ body))
      ∙ file_push header records payload (0 ∷ [])

  module _ {begin : Standing} (gate : ℕ) (holds : Holds header records begin) (ends : gate + 1 ≡ length begin.seen) (fits : length begin.seen + (9 + length payload) ≤ limit) where
    place : gate ≡ place_after records
    place = omega (arith, ends, ap length holds.is, length-at_rest)

    room : Fits
    room = omega (arith, fits, ap length holds.is)

    -- after the first write
    pub wrote_body : {next : Standing} {bytes : List ℕ} → bytes ≡ body → Changes (Torn (gate + 1) (length bytes)) begin next
        → Leaves (MidAppend header limit records payload) begin next
    wrote_body {next} {bytes} is changes = weaken (step_of_only holds.only changes) (λ file torn.
        let Q : ℕ → Type 0 = λ k. Torn (k + 1) (length bytes) (at_rest header records) file in
        let R : List ℕ → Type 0 = λ b. Torn (place_after records + 1) (length b) (at_rest header records) file in
        torn_body room file (subst R is (subst Q place torn)))

    -- the first write is on the disk
    pub body_kept : (next : Standing) {bytes : List ℕ} → bytes ≡ body → next.seen ≡ overwritten begin.seen (gate + 1) bytes → IsSettled next
        → (next.seen ≡ staged 0) × Only (staged 0) (images_of next)
    body_kept next {bytes} is kept only =
        let now : next.seen ≡ staged 0 =
        kept ∙ ap (λ f. overwritten f (gate + 1) bytes) holds.is ∙ ap (λ k. overwritten (at_rest header records) (k + 1) bytes) place
        ∙ ap (overwritten (at_rest header records) (place_after records + 1)) is ∙ body_written in
        (now, λ file left. only file left ∙ now)

    -- after the second write
    pub wrote_gate : {mid next : Standing} → Leaves (MidAppend header limit records payload) begin mid → Only (staged 0) (images_of mid)
        → Changes (Torn gate 1) mid next → Leaves (MidAppend header limit records payload) begin next
    wrote_gate run only changes = goes_on run (step_of_only only changes) (λ file torn.
        let Q : ℕ → Type 0 = λ k. Torn k 1 (staged 0) file in
        inr (inr (torn_gate 0 file (omega (arith, room, length-staged 0)) (subst Q place torn))))

    -- the second write is on the disk
    pub gate_kept : (mid last : Standing) → mid.seen ≡ staged 0 → last.seen ≡ overwritten mid.seen gate (1 ∷ []) → IsSettled last
        → Holds header (records ++ payload ∷ []) last
    gate_kept mid last was kept only =
        let now : last.seen ≡ at_rest header (records ++ payload ∷ []) =
        kept ∙ ap (λ f. overwritten f gate (1 ∷ [])) was ∙ ap (λ k. overwritten (staged 0) k (1 ∷ [])) place ∙ gate_written in
        record { sized = holds.sized; is = now; only = λ file left. only file left ∙ now }
