-- Reading the record at a place.
use Rattle.std.proofs.Common.{◌≡◌, ℕ, ◌+◌, ◌-◌, ◌^◌, ◌<◌, ◌≤◌, List, [], ◌∷◌, ◌++◌, length, take, drop, refl, sym, ap, subst, ◌∙◌, append_assoc, length-append, arith, true, false}
use Rattle.std.proofs.lemmas.List.{take_at, drop_at, drop-drop}
use Rattle.std.proofs.lemmas.List.Concat.{flat_map-append}
use Rattle.std.proofs.lemmas.Nat.{from_le_bytes-to_le_bytes_8}
use Rattle.std.specs.Int.{w64, from_le_bytes}
use Rattle.sia_encoding.specs.Spelling.{spelled_bytes, spelled_u64}
use Rattle.sia_edge.specs.Disk.{Fills}
use Rattle.sia_edge.specs.declared.disk.Did.{Did}
use Rattle.sia_edge.specs.declared.disk.Did.TheVariants as did
use Rattle.sia_journal.specs.Journal.{NextIs}
use Rattle.sia_journal.specs.Listed.{HEADER, frame, frames, at_rest, place_after}
use Rattle.sia_journal.proofs.Frames.{length-u64, length-frames_cons, frames_cons}
use Rattle.sia_journal.proofs.Listing.{length-file}
use Rattle.sia_journal.proofs.Appending.{length-front}

-- a read of so many bytes that was done
pub filled : (buffer file : List ℕ) (at count : ℕ) (result : Did) → result ≡ did.Done → length buffer ≡ count → Fills result buffer at file → buffer ≡ take count (drop at file)
filled buffer file at count result is many given =
    let P : Did → Type 0 = λ r. Fills r buffer at file in
    let done : buffer ≡ take (length buffer) (drop at file) = subst P is given in
    done ∙ ap (λ n. take n (drop at file)) many

module _ (header : List ℕ) (size : length header ≡ HEADER) (read : List (List ℕ)) where
  frames_both : (left : List (List ℕ)) → frames (read ++ left) ≡ frames read ++ frames left
  frames_both left = flat_map-append frame read left

  pub gate_both : (left : List (List ℕ)) → place_after (read ++ left) ≡ place_after read + length (frames left)
  gate_both left = omega (arith, ap length (frames_both left), length-append (frames read) (frames left))

  pub length-at_rest : (left : List (List ℕ)) → length (at_rest header (read ++ left)) ≡ place_after read + length (frames left) + 1
  length-at_rest left = omega (arith, length-file header (read ++ left) (0 ∷ []) size, gate_both left)

  module _ (payload : List ℕ) (others : List (List ℕ)) where
    abbrev rest : List ℕ
    rest = frames others ++ 0 ∷ []

    split : at_rest header (read ++ payload ∷ others) ≡ (header ++ frames read) ++ (frame payload ++ rest)
    split =
        ap (λ l. header ++ (l ++ 0 ∷ [])) (frames_both (payload ∷ others))
        ∙ ap (λ l. header ++ l) (append_assoc (frames read) (frames (payload ∷ others)) (0 ∷ []) ∙ ap (λ l. frames read ++ l) (frames_cons payload others (0 ∷ [])))
        ∙ sym (append_assoc header (frames read) (frame payload ++ rest))

    pub behind_gate : drop (place_after read + 1) (at_rest header (read ++ payload ∷ others)) ≡ spelled_bytes payload ++ rest
    behind_gate =
        sym (drop-drop 1 (place_after read) (at_rest header (read ++ payload ∷ others)))
        ∙ ap (λ l. drop 1 (drop (place_after read) l)) split
        ∙ ap (drop 1) (drop_at (header ++ frames read) (frame payload ++ rest) (place_after read) (length-front header read size))

    -- the length that is read there
    pub size_read : (file bytes : List ℕ) (place count : ℕ) → file ≡ at_rest header (read ++ payload ∷ others) → place ≡ place_after read → length payload < 2 ^ 64
        → bytes ≡ take 8 (drop (place + 1) file) → count ≡ from_le_bytes w64 bytes → count ≡ length payload
    unfolding spelled_bytes spelled_u64
    size_read file bytes place count is stands fits are number =
        let first : bytes ≡ spelled_u64 (length payload) =
        are ∙ ap (λ f. take 8 (drop (place + 1) f)) is ∙ ap (λ p. take 8 (drop (p + 1) (at_rest header (read ++ payload ∷ others)))) stands
        ∙ ap (take 8) (behind_gate ∙ append_assoc (spelled_u64 (length payload)) payload rest)
        ∙ take_at (spelled_u64 (length payload)) (payload ++ rest) 8 (length-u64 (length payload)) in
        number ∙ ap (from_le_bytes w64) first ∙ from_le_bytes-to_le_bytes_8 (length payload) fits

    -- the payload that is read there
    pub payload_read : (file : List ℕ) (place count : ℕ) → file ≡ at_rest header (read ++ payload ∷ others) → place ≡ place_after read → count ≡ length payload
        → take count (drop (place + 9) file) ≡ payload
    unfolding spelled_bytes
    payload_read file place count is stands same =
        let sum : place_after read + 1 + 8 ≡ place_after read + 9 = omega arith in
        ap (λ f. take count (drop (place + 9) f)) is
        ∙ ap (λ p. take count (drop (p + 9) (at_rest header (read ++ payload ∷ others)))) stands
        ∙ ap (λ n. take count (drop n (at_rest header (read ++ payload ∷ others)))) (sym sum)
        ∙ ap (take count) (sym (drop-drop 8 (place_after read + 1) (at_rest header (read ++ payload ∷ others)))
        ∙ ap (drop 8) (behind_gate ∙ append_assoc (spelled_u64 (length payload)) payload rest)
        ∙ drop_at (spelled_u64 (length payload)) (payload ++ rest) 8 (length-u64 (length payload)))
        ∙ take_at payload rest count (sym same)

  -- a reading of a journal whose last gate stands at `gate`, with these records left
  module _ (file : List ℕ) (gate place : ℕ) (ends : gate + 1 ≡ length file) (stands : place ≡ place_after read) where
    left_size : (left : List (List ℕ)) → file ≡ at_rest header (read ++ left) → gate ≡ place + length (frames left)
    left_size left is = omega (arith, ends, stands, ap length is, length-at_rest left)

    pub next_few : (left : List (List ℕ)) (old out : List ℕ) → file ≡ at_rest header (read ++ left) → gate - place < 9 → NextIs read left old place out false
    next_few [] old out is few = refl
    next_few (payload ∷ others) old out is few = absurd (omega (arith, few, left_size (payload ∷ others) is, length-frames_cons payload others))

    module _ (bytes : List ℕ) (count : ℕ) (bounded : gate < 2 ^ 64) (are : bytes ≡ take 8 (drop (place + 1) file)) (number : count ≡ from_le_bytes w64 bytes) where
      pub sized : (payload : List ℕ) (others : List (List ℕ)) → file ≡ at_rest header (read ++ payload ∷ others) → count ≡ length payload
      sized payload others is =
          size_read payload others file bytes place count is stands (omega (arith, bounded, left_size (payload ∷ others) is, length-frames_cons payload others)) are number

      pub next_long : (left : List (List ℕ)) (old out : List ℕ) → file ≡ at_rest header (read ++ left) → 9 ≤ gate - place → gate - place - 9 < count → NextIs read left old place out false
      next_long [] old out is enough long = refl
      next_long (payload ∷ others) old out is enough long =
          absurd (omega (arith, enough, long, sized payload others is, left_size (payload ∷ others) is, length-frames_cons payload others))

      pub next_read : (left : List (List ℕ)) (old out : List ℕ) → file ≡ at_rest header (read ++ left) → 9 ≤ gate - place → out ≡ old ++ take count (drop (place + 9) file)
          → NextIs read left old (place + (9 + count)) out true
      next_read [] old out is enough reads = absurd (omega (arith, enough, left_size [] is))
      next_read (payload ∷ others) old out is enough reads =
          let same = sized payload others is in
          (refl, reads ∙ ap (λ l. old ++ l) (payload_read payload others file place count is stands same), omega (arith, stands, same, gate_both (payload ∷ []), length-frames_cons payload []))
