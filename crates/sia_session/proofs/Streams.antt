-- The frames of bytes: what was read of them decides, whatever comes behind.
use Rattle.std.proofs.Common.{inl, inr, ◌≡◌, ◌++◌, ℕ, ◌+◌, ◌-◌, ◌≤◌, ◌==◌, Bool, true, false, nat_lt, min, if◌then◌else◌, List, [], ◌∷◌, length, take, drop, Option, None, Some, Result, Ok, Err, arith, refl, sym, ap, ◌∙◌, length-append}
use Rattle.std.proofs.lemmas.Bool.{le-ltb, ltb-false, ltb-true, eqb-true}
use Rattle.std.proofs.lemmas.List.{length-take, length-take-le, length-drop, take_at, drop_at, take-take, drop-take}
use Rattle.std.specs.Int.{w64, from_le_bytes}
use Rattle.sia_rhp.specs.declared.frames.FrameFault.{FrameFault}
use Rattle.sia_rhp.specs.declared.frames.FrameFault.TheVariants as fault
use Rattle.sia_rhp.specs.Frames.{length_at, body_at, frame_at, behind_length, bodies_from, frames_of, FrameStream, Between, Faulty}
use Rattle.sia_rhp.proofs.FrameLemmas.{chosen, chosen_first, chosen_second, length_has}
use Rattle.sia_rhp.proofs.FrameLaws.{frames_follow}

-- two lists begin with the same bytes, so many
pub record Alike (count : ℕ) (xs ys : List ℕ) : Type 0 where
  pub first : count ≤ length xs
  pub second : count ≤ length ys
  pub same : take count xs ≡ take count ys

fewer : (n count : ℕ) (xs ys : List ℕ) → n ≤ count → Alike count xs ys → take n xs ≡ take n ys
fewer n count xs ys within alike = sym (take-take n count xs within) ∙ ap (take n) alike.same ∙ take-take n count ys within

behind : (n count all : ℕ) (xs ys : List ℕ) → n + count ≡ all → Alike all xs ys → Alike count (drop n xs) (drop n ys)
behind n count all xs ys parts alike = record {
  first = omega (arith, length-drop n xs, alike.first);
  second = omega (arith, length-drop n ys, alike.second);
  same =
      let both : take (n + count) xs ≡ take (n + count) ys = ap (λ k. take k xs) parts ∙ alike.same ∙ ap (λ k. take k ys) (sym parts) in
      sym (drop-take n count xs) ∙ ap (drop n) both ∙ drop-take n count ys;
}

-- a list, and its first bytes with others behind them
with_more : (count : ℕ) (xs more : List ℕ) → count ≤ length xs → Alike count xs (take count xs ++ more)
with_more count xs more within =
    let all : length (take count xs) ≡ count = length-take-le count xs within in
    record { first = within; second = omega (arith, length-append (take count xs) more, all); same = sym (take_at (take count xs) more count all) }

alone : (count : ℕ) (xs : List ℕ) → count ≤ length xs → Alike count xs (take count xs)
alone count xs within =
    let all : length (take count xs) ≡ count = length-take-le count xs within in
    record { first = within; second = omega (arith, all); same = sym (take-take count count xs (omega arith)) }

length_alike : (room count : ℕ) (xs ys : List ℕ) → min 8 room ≤ count → Alike count xs ys → length_at room xs ≡ length_at room ys
unfolding length_at
length_alike room count xs ys enough alike =
    let one : min 8 room ≤ length xs = omega (arith, enough, alike.first) in
    let other : min 8 room ≤ length ys = omega (arith, enough, alike.second) in
    chosen_second _ _ _ (le-ltb _ _ one) ∙ cases (nat_lt room 8) refl ∙ sym (chosen_second _ _ _ (le-ltb _ _ other))
  where
    cases : (b : Bool) → nat_lt room 8 ≡ b → (if b then Err fault.Long else Ok (Some (from_le_bytes w64 (take 8 xs)))) ≡ (if b then Err fault.Long else Ok (Some (from_le_bytes w64 (take 8 ys))))
    cases true is = refl
    cases false is =
        let many = ltb-false _ _ is in
        ap (λ zs. Ok (Some (from_le_bytes w64 zs))) (fewer 8 count xs ys (omega (arith, many, enough)) alike)

body_alike : (size room count : ℕ) (xs ys : List ℕ) → min size room ≤ count → Alike count xs ys → body_at size room xs ≡ body_at size room ys
unfolding body_at
body_alike size room count xs ys enough alike =
    let one : min size room ≤ length xs = omega (arith, enough, alike.first) in
    let other : min size room ≤ length ys = omega (arith, enough, alike.second) in
    chosen_second _ _ _ (le-ltb _ _ one) ∙ cases (nat_lt room size) refl ∙ sym (chosen_second _ _ _ (le-ltb _ _ other))
  where
    cases : (b : Bool) → nat_lt room size ≡ b → (if b then Err fault.Long else Ok (Some (take size xs))) ≡ (if b then Err fault.Long else Ok (Some (take size ys)))
    cases true is = refl
    cases false is =
        let many = ltb-false _ _ is in
        ap (λ zs. Ok (Some zs)) (fewer size count xs ys (omega (arith, many, enough)) alike)

-- what a body that was read, or a fault, says of the bytes

body_has : (n room : ℕ) (bytes body : List ℕ) → body_at n room bytes ≡ Ok (Some body) → (length body ≡ n) × (n ≤ length bytes) × (n ≤ room)
unfolding body_at
body_has n room bytes body is = elim (chosen (nat_lt (length bytes) (min n room)) _ _ _ is) [
  | inl short ↦ cc
  | inr whole ↦ elim (chosen (nat_lt room n) _ _ _ whole.1) [
    | inl few ↦ cc
    | inr many ↦
        let le = ltb-false _ _ whole.0 in
        let room_le = ltb-false _ _ many.0 in
        let same : take n bytes ≡ body = cc in
        (omega (arith, ap length same, length-take n bytes, le, room_le), omega (arith, le, room_le), omega (arith, room_le))
  ]
]

body_long : (n room : ℕ) (bytes : List ℕ) → body_at n room bytes ≡ Err fault.Long → room ≤ length bytes
unfolding body_at
body_long n room bytes is = elim (chosen (nat_lt (length bytes) (min n room)) _ _ _ is) [
  | inl short ↦ cc
  | inr whole ↦ elim (chosen (nat_lt room n) _ _ _ whole.1) [
    | inl few ↦ let le = ltb-false _ _ whole.0 in let above = ltb-true _ _ few.0 in omega (arith, le, above)
    | inr many ↦ cc
  ]
]

body_within : (n room k : ℕ) (bytes : List ℕ) → body_at n room bytes ≡ Err (fault.TooLong k) → ⊥
unfolding body_at
body_within n room k bytes is = elim (chosen (nat_lt (length bytes) (min n room)) _ _ _ is) [
  | inl short ↦ cc
  | inr whole ↦ elim (chosen (nat_lt room n) _ _ _ whole.1) [ inl few ↦ cc | inr many ↦ cc ]
]

body_some : (n room : ℕ) (bytes : List ℕ) → body_at n room bytes ≡ Ok None → ⊥
unfolding body_at
body_some n room bytes is = elim (chosen (nat_lt (length bytes) (min n room)) _ _ _ is) [
  | inl short ↦ cc
  | inr whole ↦ elim (chosen (nat_lt room n) _ _ _ whole.1) [ inl few ↦ cc | inr many ↦ cc ]
]

length_long : (room : ℕ) (bytes : List ℕ) → length_at room bytes ≡ Err fault.Long → room ≤ length bytes
unfolding length_at
length_long room bytes is = elim (chosen (nat_lt (length bytes) (min 8 room)) _ _ _ is) [
  | inl short ↦ elim (chosen (length bytes == 0) _ _ _ short.1) [ inl none ↦ cc | inr some ↦ cc ]
  | inr whole ↦ elim (chosen (nat_lt room 8) _ _ _ whole.1) [
    | inl few ↦ let le = ltb-false _ _ whole.0 in let above = ltb-true _ _ few.0 in omega (arith, le, above)
    | inr many ↦ cc
  ]
]

length_within : (room k : ℕ) (bytes : List ℕ) → length_at room bytes ≡ Err (fault.TooLong k) → ⊥
unfolding length_at
length_within room k bytes is = elim (chosen (nat_lt (length bytes) (min 8 room)) _ _ _ is) [
  | inl short ↦ elim (chosen (length bytes == 0) _ _ _ short.1) [ inl none ↦ cc | inr some ↦ cc ]
  | inr whole ↦ elim (chosen (nat_lt room 8) _ _ _ whole.1) [ inl few ↦ cc | inr many ↦ cc ]
]

empty : (bytes : List ℕ) → length bytes ≡ 0 → bytes ≡ []
empty [] is = refl
empty (x ∷ xs) is = absurd (omega (arith, is))

length_none : (room : ℕ) (bytes : List ℕ) → length_at room bytes ≡ Ok None → bytes ≡ []
unfolding length_at
length_none room bytes is = elim (chosen (nat_lt (length bytes) (min 8 room)) _ _ _ is) [
  | inl short ↦ elim (chosen (length bytes == 0) _ _ _ short.1) [ inl none ↦ empty bytes (eqb-true _ _ none.0) | inr some ↦ cc ]
  | inr whole ↦ elim (chosen (nat_lt room 8) _ _ _ whole.1) [ inl few ↦ cc | inr many ↦ cc ]
]

-- a frame, whatever comes behind it

pub record ReadsOn (limit room : ℕ) (bytes body more : List ℕ) : Type 0 where
  pub lies : 8 + length body ≤ length bytes
  pub again : frame_at limit room (take (8 + length body) bytes ++ more) ≡ Ok (Some body)

pub frame_more : (limit room : ℕ) (bytes body more : List ℕ) → frame_at limit room bytes ≡ Ok (Some body) → ReadsOn limit room bytes body more
frame_more limit room bytes body more is = first (length_at room bytes) refl is
  where
    first : (r : Result (Option ℕ) FrameFault) → length_at room bytes ≡ r → behind_length limit room bytes r ≡ Ok (Some body) → ReadsOn limit room bytes body more
    first (Err e) read is = cc
    first (Ok None) read is = cc
    first (Ok (Some n)) read is = elim (chosen (nat_lt limit n) _ _ _ is) [
      | inl above ↦ cc
      | inr within ↦
          let one = length_has room bytes n read in
          let two = body_has n (room - 8) (drop 8 bytes) body within.1 in
          let all = 8 + length body in
          let lies : all ≤ length bytes = omega (arith, one, two, length-drop 8 bytes) in
          let front = take all bytes ++ more in
          let alike : Alike all bytes front = with_more all bytes more lies in
          let read_again : length_at room front ≡ Ok (Some n) = sym (length_alike room all bytes front (omega arith) alike) ∙ read in
          let body_again : body_at n (room - 8) (drop 8 front) ≡ Ok (Some body) =
          sym (body_alike n (room - 8) (length body) (drop 8 bytes) (drop 8 front) (omega (arith, two)) (behind 8 (length body) all bytes front refl alike)) ∙ within.1 in
          record { lies = lies; again = ap (behind_length limit room front) read_again ∙ chosen_second _ _ _ within.0 ∙ body_again }
    ]

-- a length above the limit, as soon as it was read
pub too_long_read : (limit room n : ℕ) (bytes : List ℕ) → frame_at limit room bytes ≡ Err (fault.TooLong n) → frame_at limit room (take 8 bytes) ≡ Err (fault.TooLong n)
too_long_read limit room n bytes is = first (length_at room bytes) refl is
  where
    first : (r : Result (Option ℕ) FrameFault) → length_at room bytes ≡ r → behind_length limit room bytes r ≡ Err (fault.TooLong n) → frame_at limit room (take 8 bytes) ≡ Err (fault.TooLong n)
    first (Err e) read is = absurd (length_within room n bytes (read ∙ (cc)))
    first (Ok None) read is = cc
    first (Ok (Some m)) read is = elim (chosen (nat_lt limit m) _ _ _ is) [
      | inl above ↦
          let one = length_has room bytes m read in
          ap (behind_length limit room (take 8 bytes)) (sym (length_alike room 8 bytes (take 8 bytes) (omega arith) (alone 8 bytes one.0)) ∙ read) ∙ chosen_first _ _ _ above.0 ∙ above.1
      | inr within ↦ absurd (body_within m (room - 8) n (drop 8 bytes) within.1)
    ]

-- as many bytes as may be read, and no further body in them
pub long_read : (limit room : ℕ) (bytes : List ℕ) → frame_at limit room bytes ≡ Err fault.Long → frame_at limit room (take room bytes) ≡ Err fault.Long
long_read limit room bytes is = first (length_at room bytes) refl is
  where
    first : (r : Result (Option ℕ) FrameFault) → length_at room bytes ≡ r → behind_length limit room bytes r ≡ Err fault.Long → frame_at limit room (take room bytes) ≡ Err fault.Long
    first (Err e) read is =
        let long : length_at room bytes ≡ Err fault.Long = read ∙ (cc) in
        ap (behind_length limit room (take room bytes)) (sym (length_alike room room bytes (take room bytes) (omega arith) (alone room bytes (length_long room bytes long))) ∙ long)
    first (Ok None) read is = cc
    first (Ok (Some m)) read is = elim (chosen (nat_lt limit m) _ _ _ is) [
      | inl above ↦ cc
      | inr within ↦
          let one = length_has room bytes m read in
          let many = body_long m (room - 8) (drop 8 bytes) within.1 in
          let lies : room ≤ length bytes = omega (arith, one, many, length-drop 8 bytes) in
          let alike : Alike room bytes (take room bytes) = alone room bytes lies in
          ap (behind_length limit room (take room bytes)) (sym (length_alike room room bytes (take room bytes) (omega arith) alike) ∙ read) ∙ chosen_second _ _ _ within.0
          ∙ sym (body_alike m (room - 8) (room - 8) (drop 8 bytes) (drop 8 (take room bytes)) (omega arith) (behind 8 (room - 8) room bytes (take room bytes) (omega (arith, one)) alike)) ∙ within.1
    ]

-- an end between two frames: no byte is left
pub none_read : (limit room : ℕ) (bytes : List ℕ) → frame_at limit room bytes ≡ Ok None → bytes ≡ []
none_read limit room bytes is = first (length_at room bytes) refl is
  where
    first : (r : Result (Option ℕ) FrameFault) → length_at room bytes ≡ r → behind_length limit room bytes r ≡ Ok None → bytes ≡ []
    first (Err e) read is = cc
    first (Ok None) read is = length_none room bytes read
    first (Ok (Some m)) read is = elim (chosen (nat_lt limit m) _ _ _ is) [
      | inl above ↦ cc
      | inr within ↦ absurd (body_some m (room - 8) (drop 8 bytes) within.1)
    ]

-- streams

-- a body in front of others
abbrev pub with_body : List ℕ → FrameStream → FrameStream
with_body body others = record { bodies = body ∷ others.bodies; last = others.last }

pub frames_more : (limit room : ℕ) (bytes body more : List ℕ) → frame_at limit room bytes ≡ Ok (Some body)
    → frames_of limit room (take (8 + length body) bytes ++ more) ≡ with_body body (frames_of limit (room - (8 + length body)) more)
frames_more limit room bytes body more is =
    let all = 8 + length body in
    let front = take all bytes ++ more in
    let reads = frame_more limit room bytes body more is in
    frames_follow limit room front ∙ ap (bodies_from (frames_of limit) room front) reads.again
    ∙ ap (λ xs. with_body body (frames_of limit (room - all) xs)) (drop_at (take all bytes) more all (length-take-le all bytes reads.lies))

pub frames_fault : (limit room : ℕ) (bytes : List ℕ) (e : FrameFault) → frame_at limit room bytes ≡ Err e → frames_of limit room bytes ≡ record { bodies = []; last = Faulty e }
frames_fault limit room bytes e is = frames_follow limit room bytes ∙ ap (bodies_from (frames_of limit) room bytes) is

pub frames_none : (limit room : ℕ) (bytes : List ℕ) → frame_at limit room bytes ≡ Ok None → frames_of limit room bytes ≡ record { bodies = []; last = Between }
frames_none limit room bytes is = frames_follow limit room bytes ∙ ap (bodies_from (frames_of limit) room bytes) is
