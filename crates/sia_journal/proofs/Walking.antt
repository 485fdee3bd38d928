-- A walk along the gates of a file.
use Rattle.std.proofs.Common.{◌≡◌, ◌≢◌, inl, inr, ℕ, ◌+◌, ◌<◌, ◌≤◌, Bool, IsTrue, List, [], ◌∷◌, ◌++◌, length, take, drop, get_or, None, Some, refl, sym, ap, subst, ◌∙◌, append_assoc, length-append, arith}
use Rattle.std.proofs.lemmas.List.{append-nil, length-drop, drop_more, drop_all, drop-drop, length-take-le}
use Rattle.std.proofs.lemmas.List.Concat.{flat_map-append}
use Rattle.std.specs.Int.{w64, from_le_bytes}
use Rattle.sia_encoding.specs.Spelling.{spelled_bytes}
use Rattle.sia_edge.specs.Disk.{Standing, Quiet}
use Rattle.sia_edge.proofs.Runs.{quiet_start, quiet_on}
use Rattle.sia_journal.specs.Listed.{HEADER, frame, frames, place_after}
use Rattle.sia_journal.specs.Opening.{FrameEnds, IsLast, BreaksAt}
use Rattle.sia_journal.proofs.Frames.{length-frame, spelled_at, split_short}

-- the payload behind a gate, as its length is read

pub frame_short : (file : List ℕ) (place : ℕ) → length file < place + 9 → FrameEnds file place None
frame_short file place short = split_short (drop (place + 1) file) (omega (arith, length-drop (place + 1) file))

pub frame_past : (file bytes : List ℕ) (place size : ℕ) → bytes ≡ take 8 (drop (place + 1) file) → size ≡ from_le_bytes w64 bytes
    → length file < place + 9 + size → FrameEnds file place None
frame_past file bytes place size are is past =
    split_short (drop (place + 1) file) (omega (arith, length-drop (place + 1) file, past, is ∙ ap (from_le_bytes w64) are))

pub frame_whole : (file bytes : List ℕ) (place size : ℕ) → bytes ≡ take 8 (drop (place + 1) file) → size ≡ from_le_bytes w64 bytes
    → ((i : ℕ) → get_or bytes i 0 < 256) → place + 9 + size ≤ length file → FrameEnds file place (Some (place + 9 + size))
frame_whole file bytes place size are is fit whole =
    let rest = drop (place + 1) file in
    let payload = take size (drop 8 rest) in
    let long : 8 + size ≤ length rest = omega (arith, length-drop (place + 1) file) in
    let P : List ℕ → Type 0 = λ bs. (i : ℕ) → get_or bs i 0 < 256 in
    let spelled = spelled_at rest size long (subst P are fit) (is ∙ ap (from_le_bytes w64) are) in
    let next : drop (8 + size) rest ≡ drop (place + 9 + size) file =
    drop-drop (8 + size) (place + 1) file ∙ (let sum : place + 1 + (8 + size) ≡ place + 9 + size = omega arith in ap (λ n. drop n file) sum) in
    let count : length payload ≡ size = length-take-le size (drop 8 rest) (omega (arith, length-drop 8 rest)) in
    (payload, spelled ∙ ap (λ l. spelled_bytes payload ++ l) next, omega (arith, count))

-- how far the walk has come
pub record Walked (tells : Bool) (first now : Standing) (place end : ℕ) : Type 0 where
  pub begins : 16 ≤ place
  pub within : place ≤ end
  pub quiet : Quiet first now
  pub walked : IsTrue tells → (records : List (List ℕ)) × (drop HEADER first.seen ≡ frames records ++ drop place first.seen) × (place ≡ place_after records)

-- the gate that was read
pub gate_read : (file bytes : List ℕ) (place : ℕ) → place < length file → bytes ≡ take 1 (drop place file) → drop place file ≡ get_or bytes 0 0 ∷ drop (place + 1) file
gate_read file bytes place within are =
    let more = drop_more file place 0 within in
    more ∙ ap (λ g. g ∷ drop (place + 1) file) (sym (ap (λ (bs : List ℕ). get_or bs 0 0) (are ∙ ap (take 1) more)))

-- one frame more
pub frame_more : (file : List ℕ) (place next : ℕ) (records : List (List ℕ)) (payload : List ℕ) → drop HEADER file ≡ frames records ++ drop place file → place ≡ place_after records
    → drop place file ≡ 1 ∷ drop (place + 1) file → drop (place + 1) file ≡ spelled_bytes payload ++ drop next file → next ≡ place + 9 + length payload
    → (drop HEADER file ≡ frames (records ++ payload ∷ []) ++ drop next file) × (next ≡ place_after (records ++ payload ∷ []))
frame_more file place next records payload before stands gate spelled after =
    let pushed : frames (records ++ payload ∷ []) ≡ frames records ++ frame payload =
    flat_map-append frame records (payload ∷ []) ∙ ap (λ l. frames records ++ l) (append-nil (frame payload)) in (
      before ∙ ap (λ l. frames records ++ l) (gate ∙ ap (λ l. 1 ∷ l) spelled)
          ∙ sym (append_assoc (frames records) (frame payload) (drop next file)) ∙ ap (λ l. l ++ drop next file) (sym pushed),
      omega (arith, after, stands, ap length pushed, length-append (frames records) (frame payload), length-frame payload),
    )

module _ (tells : Bool) {first : Standing} {end : ℕ} where
  pub sets_out : 17 < end → Walked tells first first 16 end
  sets_out long = record {
    begins = omega arith;
    within = omega (arith, long);
    quiet = quiet_start first;
    walked = λ told. ([], refl, refl);
  }

  -- the gate that was read, in the file as it was
  pub gate_is : {mid : Standing} {place : ℕ} {bytes : List ℕ} → Walked tells first mid place end → end ≡ length first.seen → place < end
      → (IsTrue tells → bytes ≡ take 1 (drop place mid.seen)) → IsTrue tells
      → drop place first.seen ≡ get_or bytes 0 0 ∷ drop (place + 1) first.seen
  gate_is {mid} {place} {bytes} way is within read told =
      gate_read first.seen bytes place (omega (arith, is, within)) (read told ∙ ap (λ f. take 1 (drop place f)) way.quiet.same)

  pub goes_further : {mid after last : Standing} {place next : ℕ} {bytes : List ℕ} → Walked tells first mid place end → end ≡ length first.seen → place < end
      → (IsTrue tells → bytes ≡ take 1 (drop place mid.seen)) → get_or bytes 0 0 ≡ 1 → Quiet mid after
      → (IsTrue tells → FrameEnds after.seen place (Some next)) → place + 9 ≤ next → next ≤ end → Quiet after last
      → Walked tells first last next end
  goes_further {mid} {after} {last} {place} {next} {bytes} way is within read open_gate quiet2 ends low high quiet3 =
      record {
        begins = omega (arith, way.begins, low);
        within = high;
        quiet = quiet_on (quiet_on way.quiet quiet2) quiet3;
        walked = λ told.
            let walked = way.walked told in
            let Q : List ℕ → Type 0 = λ f. FrameEnds f place (Some next) in
            let frame = subst Q (quiet2.same ∙ way.quiet.same) (ends told) in
            let gate = gate_is way is within read told ∙ ap (λ g. g ∷ drop (place + 1) first.seen) open_gate in
            let more = frame_more first.seen place next walked.0 frame.0 walked.1 walked.2 gate frame.1 frame.2 in
            (walked.0 ++ frame.0 ∷ [], more.0, more.1);
      }

  pub last_found : {mid : Standing} {place gate : ℕ} {bytes : List ℕ} → Walked tells first mid place end → end ≡ length first.seen → place < end
      → (IsTrue tells → bytes ≡ take 1 (drop place mid.seen)) → gate ≡ get_or bytes 0 0 → gate ≢ 1
      → IsTrue tells → IsLast first.seen (record { place = place; gate = gate })
  last_found {mid} {place} {gate} {bytes} way is within read gate_of shut told =
      let walked = way.walked told in
      record {
        records = walked.0;
        behind = drop (place + 1) first.seen;
        is = walked.1 ∙ ap (λ l. frames walked.0 ++ l) (gate_is way is within read told ∙ ap (λ g. g ∷ drop (place + 1) first.seen) (sym gate_of));
        stands = walked.2;
        shut = shut;
      }

  pub breaks_off : {mid after : Standing} {place : ℕ} {bytes : List ℕ} → Walked tells first mid place end → end ≡ length first.seen → place < end
      → (IsTrue tells → bytes ≡ take 1 (drop place mid.seen)) → get_or bytes 0 0 ≡ 1 → Quiet mid after
      → (IsTrue tells → FrameEnds after.seen place None)
      → IsTrue tells → BreaksAt first.seen place
  breaks_off {mid} {after} {place} {bytes} way is within read open_gate quiet ends told =
      let walked = way.walked told in
      let Q : List ℕ → Type 0 = λ f. FrameEnds f place None in
      let broken = subst Q (quiet.same ∙ way.quiet.same) (ends told) in
      let gate = gate_is way is within read told ∙ ap (λ g. g ∷ drop (place + 1) first.seen) open_gate in
      record {
        records = walked.0;
        behind = drop place first.seen;
        is = walked.1;
        stands = walked.2;
        broken = inr (drop (place + 1) first.seen, gate, broken);
      }

  pub ends_open : {mid : Standing} {place : ℕ} → Walked tells first mid place end → end ≡ length first.seen → end ≤ place
      → IsTrue tells → BreaksAt first.seen place
  ends_open {mid} {place} way is past told =
      let walked = way.walked told in
      record {
        records = walked.0;
        behind = drop place first.seen;
        is = walked.1;
        stands = walked.2;
        broken = inl (drop_all place first.seen (omega (arith, is, past)));
      }
