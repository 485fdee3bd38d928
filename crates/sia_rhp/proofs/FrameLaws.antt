-- The frames of bytes.
use Rattle.std.proofs.Common.{inl, inr, ◌≡◌, ◌++◌, ℕ, zero, suc, ◌+◌, ◌-◌, ◌≤◌, ◌<◌, ◌^◌, nat_lt, min, List, ◌∷◌, length, take, drop, Option, None, Some, Result, Ok, Err, arith, refl, ap, ◌∙◌, append_assoc, length-append}
use Rattle.std.proofs.lemmas.Bool.{le-ltb, ltb-false}
use Rattle.std.proofs.lemmas.List.{take_at, drop_at, length-take, length-drop}
use Rattle.std.proofs.lemmas.Nat.{from_le_bytes-to_le_bytes_8}
use Rattle.std.specs.Int.{w64, from_le_bytes, to_le_bytes}
use Rattle.sia_encoding.specs.Spelling.{spelled_u64, spelled_bytes}
use Rattle.sia_rhp.specs.declared.frames.FrameFault.{FrameFault}
use Rattle.sia_rhp.specs.Frames.{frame_of, length_at, body_at, frame_at, behind_length, bodies_from, frames_in, frames_of, FrameStream}
use Rattle.sia_rhp.proofs.FrameLemmas.{chosen, chosen_second, length_has}

-- so does a body
body_has : (n room : ℕ) (bytes body : List ℕ) → body_at n room bytes ≡ Ok (Some body) → (length body ≤ n) × (n ≤ length bytes) × (n ≤ room)
unfolding body_at
body_has n room bytes body is = elim (chosen (nat_lt (length bytes) (min n room)) _ _ _ is) [
  | inl short ↦ cc
  | inr whole ↦ elim (chosen (nat_lt room n) _ _ _ whole.1) [
    | inl few ↦ cc
    | inr many ↦
        let le = ltb-false _ _ whole.0 in
        let room_le = ltb-false _ _ many.0 in
        let same : take n bytes ≡ body = cc in
        (omega (arith, ap length same, length-take n bytes), omega (arith, le, room_le), omega (arith, room_le))
  ]
]

-- a frame has at least its length, and lies in the bytes
frame_has : (limit room : ℕ) (bytes body : List ℕ) → frame_at limit room bytes ≡ Ok (Some body) → (8 + length body ≤ length bytes) × (8 + length body ≤ room)
frame_has limit room bytes body is = first (length_at room bytes) refl is
  where
    first : (r : Result (Option ℕ) FrameFault) → length_at room bytes ≡ r → behind_length limit room bytes r ≡ Ok (Some body) → (8 + length body ≤ length bytes) × (8 + length body ≤ room)
    first (Err e) read is = cc
    first (Ok None) read is = cc
    first (Ok (Some n)) read is = elim (chosen (nat_lt limit n) _ _ _ is) [
      | inl above ↦ cc
      | inr within ↦
          let one = length_has room bytes n read in
          let two = body_has n (room - 8) (drop 8 bytes) body within.1 in
          (omega (arith, one, two, length-drop 8 bytes), omega (arith, one, two))
    ]

-- a count that passes the bytes is enough
as_many : (limit n m room : ℕ) (bytes : List ℕ) → length bytes < n → length bytes < m → frames_in n limit room bytes ≡ frames_in m limit room bytes
unfolding frames_in
as_many limit zero m room bytes first second = absurd (omega (arith, first))
as_many limit (suc n) zero room bytes first second = absurd (omega (arith, second))
as_many limit (suc n) (suc m) room bytes first second = step (λ room bytes one two. as_many limit n m room bytes one two) (frame_at limit room bytes) refl
  where
    step : ((room : ℕ) (bytes : List ℕ) → length bytes < n → length bytes < m → frames_in n limit room bytes ≡ frames_in m limit room bytes) → (r : Result (Option (List ℕ)) FrameFault) → frame_at limit room bytes ≡ r → bodies_from (frames_in n limit) room bytes r ≡ bodies_from (frames_in m limit) room bytes r
    step again (Err e) is = refl
    step again (Ok None) is = refl
    step again (Ok (Some body)) is =
        let fewer : length (drop (8 + length body) bytes) + 8 ≤ length bytes = omega (arith, length-drop (8 + length body) bytes, (frame_has limit room bytes body is).0) in
        ap (λ (others : FrameStream). let made : FrameStream = record { bodies = body ∷ others.bodies; last = others.last } in made) (again (room - (8 + length body)) (drop (8 + length body) bytes) (omega (arith, fewer, first)) (omega (arith, fewer, second)))

-- the frame in front, and those behind it
pub frames_follow : (limit room : ℕ) (bytes : List ℕ) → frames_of limit room bytes ≡ bodies_from (frames_of limit) room bytes (frame_at limit room bytes)
unfolding frames_of frames_in
frames_follow limit room bytes = here (frame_at limit room bytes) refl
  where
    here : (r : Result (Option (List ℕ)) FrameFault) → frame_at limit room bytes ≡ r → bodies_from (frames_in (length bytes) limit) room bytes r ≡ bodies_from (λ room bytes. frames_in (suc (length bytes)) limit room bytes) room bytes r
    here (Err e) is = refl
    here (Ok None) is = refl
    here (Ok (Some body)) is =
        let fewer : length (drop (8 + length body) bytes) + 8 ≤ length bytes = omega (arith, length-drop (8 + length body) bytes, (frame_has limit room bytes body is).0) in
        ap (λ (others : FrameStream). let made : FrameStream = record { bodies = body ∷ others.bodies; last = others.last } in made) (as_many limit (length bytes) (suc (length (drop (8 + length body) bytes))) (room - (8 + length body)) (drop (8 + length body) bytes) (omega (arith, fewer)) (omega arith))

-- the length of a frame is read
length_read : (room : ℕ) (body rest : List ℕ) → 8 ≤ room → length body < 2 ^ 64 → length_at room (frame_of body ++ rest) ≡ Ok (Some (length body))
unfolding length_at spelled_bytes spelled_u64
length_read room body rest many small =
    let text = to_le_bytes w64 (length body) in
    let eight : length text ≡ 8 = refl in
    let cut : frame_of body ++ rest ≡ text ++ (body ++ rest) = append_assoc text body rest in
    let front : take 8 (frame_of body ++ rest) ≡ text = ap (take 8) cut ∙ take_at text (body ++ rest) 8 eight in
    let whole : min 8 room ≤ length (frame_of body ++ rest) = omega (arith, ap length cut, length-append text (body ++ rest), eight) in
    chosen_second _ _ _ (le-ltb _ _ whole) ∙ chosen_second _ _ _ (le-ltb _ _ many) ∙ ap (λ xs. Ok (Some (from_le_bytes w64 xs))) front ∙ ap (λ n. Ok (Some n)) (from_le_bytes-to_le_bytes_8 (length body) small)

-- its body too
pub frames_are_read : (limit room : ℕ) (body rest : List ℕ) → length body ≤ limit → 8 + length body ≤ room → length body < 2 ^ 64 → frame_at limit room (frame_of body ++ rest) ≡ Ok (Some body)
unfolding body_at spelled_bytes spelled_u64
frames_are_read limit room body rest within fits small =
    let many : 8 ≤ room = omega (arith, fits) in
    let text = to_le_bytes w64 (length body) in
    let eight : length text ≡ 8 = refl in
    let behind : drop 8 (frame_of body ++ rest) ≡ body ++ rest = ap (drop 8) (append_assoc text body rest) ∙ drop_at text (body ++ rest) 8 eight in
    let size : length (body ++ rest) ≡ length body + length rest = length-append body rest in
    let whole : min (length body) (room - 8) ≤ length (body ++ rest) = omega (arith, size) in
    let room_for : length body ≤ room - 8 = omega (arith, fits) in
    rw (length_read room body rest many small) (chosen_second _ _ _ (le-ltb _ _ within) ∙ ap (body_at (length body) (room - 8)) behind
    ∙ chosen_second _ _ _ (le-ltb _ _ whole) ∙ chosen_second _ _ _ (le-ltb _ _ room_for) ∙ ap (λ xs. Ok (Some xs)) (take_at body rest (length body) refl))
