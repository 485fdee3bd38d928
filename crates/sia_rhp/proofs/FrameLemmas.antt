-- Reading a frame in parts: its length, and then its body.
use Rattle.std.proofs.Common.{◌⊎◌, inl, inr, refl, ◌≡◌, ◌++◌, ℕ, ◌+◌, ◌-◌, ◌≤◌, ◌<◌, ◌==◌, Bool, true, false, nat_lt, min, if◌then◌else◌, List, [], length, take, drop, Option, None, Some, Result, Ok, Err, arith, sym, ap, ◌∙◌, subst, append_assoc}
use Rattle.std.specs.Prelude.{IfSome}
use Rattle.std.proofs.lemmas.Bool.{le-ltb, lt-ltb, ltb-false, ne_eqb, eq-eqb}
use Rattle.std.proofs.lemmas.List.{drop-drop, drop_all, take_all, take_at, take-append-drop}
use Rattle.std.specs.Int.{w64, from_le_bytes}
use Rattle.sia_edge.specs.Filled.{FilledFrom}
use Rattle.sia_rhp.specs.declared.frames.FrameFault.{FrameFault}
use Rattle.sia_rhp.specs.declared.frames.FrameFault.TheVariants as fault
use Rattle.sia_rhp.specs.Frames.{length_at, body_at, frame_at}
use Rattle.sia_rhp.specs.Taking.{LosesSome, TakesOff}

-- choices whose test is known
pub chosen_first : {A : Type 0} (b : Bool) (x y : A) → b ≡ true → (if b then x else y) ≡ x
chosen_first b x y is = ap (λ b. if b then x else y) is

pub chosen_second : {A : Type 0} (b : Bool) (x y : A) → b ≡ false → (if b then x else y) ≡ y
chosen_second b x y is = ap (λ b. if b then x else y) is

-- where all that was left was filled in, nothing is left
ended : (bytes buffer : List ℕ) (left : Option (List ℕ)) (count : ℕ) → length bytes ≤ count → FilledFrom bytes left count buffer → left ≡ Some []
ended bytes buffer left count all filled = filled.rest ∙ ap Some (drop_all count bytes all)

-- what was filled is no longer left
moved : (bytes buffer : List ℕ) (left : Option (List ℕ)) (count size : ℕ) → count ≡ size → FilledFrom bytes left count buffer → left ≡ Some (drop size bytes)
moved bytes buffer left count size is filled = filled.rest ∙ ap (λ n. Some (drop n bytes)) is

-- the first bytes, where the whole buffer was filled
filled_front : (bytes buffer : List ℕ) (left : Option (List ℕ)) (count : ℕ) → count ≡ length buffer → FilledFrom bytes left count buffer → take count bytes ≡ buffer
filled_front bytes buffer left count whole filled =
    let all : length buffer ≤ count = omega (arith, whole) in
    sym filled.front ∙ take_all count buffer all

-- a length

pub length_none : (room count : ℕ) (old new : Option (List ℕ)) (buffer : List ℕ) → length buffer ≡ min room 8 → count ≡ 0 → 0 < length buffer → IfSome old (λ bytes. FilledFrom bytes new count buffer)
    → IfSome old (λ bytes. TakesOff (λ (n : ℕ). 8) room (Ok None) (length_at room bytes) bytes new)
unfolding length_at
length_none room count None new buffer size none some filled = tt
length_none room count (Some bytes) new buffer size none some filled =
    let empty : length bytes ≡ 0 = omega (arith, filled.count_is) in
    let short : length bytes < min 8 room = omega (arith, size) in
    (chosen_first _ _ _ (lt-ltb _ _ short) ∙ chosen_first _ _ _ (eq-eqb _ _ empty), moved bytes buffer new count 0 none filled)

pub length_short : (room count : ℕ) (old new : Option (List ℕ)) (buffer : List ℕ) → length buffer ≡ min room 8 → (count ≡ 0 → ⊥) → count < length buffer → IfSome old (λ bytes. FilledFrom bytes new count buffer)
    → IfSome old (λ bytes. TakesOff (λ (n : ℕ). 8) room (Err fault.Short) (length_at room bytes) bytes new)
unfolding length_at
length_short room count None new buffer size some within filled = tt
length_short room count (Some bytes) new buffer size some within filled =
    let all : length bytes ≡ count = omega (arith, filled.count_is) in
    let short : length bytes < min 8 room = omega (arith, size) in
    (chosen_first _ _ _ (lt-ltb _ _ short) ∙ chosen_second _ _ _ (ne_eqb (length bytes) 0 (λ is. some (sym all ∙ is))), ended bytes buffer new count (omega (arith, all)) filled)

pub length_long : (room count : ℕ) (old new : Option (List ℕ)) (buffer : List ℕ) → length buffer ≡ min room 8 → room < 8 → count ≡ length buffer → IfSome old (λ bytes. FilledFrom bytes new count buffer)
    → IfSome old (λ bytes. TakesOff (λ (n : ℕ). 8) room (Err fault.Long) (length_at room bytes) bytes new)
unfolding length_at
length_long room count None new buffer size few whole filled = tt
length_long room count (Some bytes) new buffer size few whole filled =
    let enough : min 8 room ≤ length bytes = omega (arith, size, filled.count_is) in
    let all : count ≡ room = omega (arith, size, whole, few) in
    (chosen_second _ _ _ (le-ltb _ _ enough) ∙ chosen_first _ _ _ (lt-ltb _ _ few), moved bytes buffer new count room all filled)

pub length_whole : (room count n : ℕ) (old new : Option (List ℕ)) (buffer : List ℕ) → length buffer ≡ 8 → 8 ≤ room → count ≡ 8 → n ≡ from_le_bytes w64 buffer → IfSome old (λ bytes. FilledFrom bytes new count buffer)
    → IfSome old (λ bytes. TakesOff (λ (n : ℕ). 8) room (Ok (Some n)) (length_at room bytes) bytes new)
unfolding length_at
length_whole room count n None new buffer size many whole is filled = tt
length_whole room count n (Some bytes) new buffer size many whole is filled =
    let enough : min 8 room ≤ length bytes = omega (arith, size, filled.count_is) in
    let full : count ≡ length buffer = omega (arith, size, whole) in
    let front : take 8 bytes ≡ buffer = ap (λ k. take k bytes) (sym whole) ∙ filled_front bytes buffer new count full filled in
    (chosen_second _ _ _ (le-ltb _ _ enough) ∙ chosen_second _ _ _ (le-ltb _ _ many) ∙ ap (λ xs. Ok (Some (from_le_bytes w64 xs))) front ∙ ap (λ m. Ok (Some m)) (sym is), moved bytes buffer new count 8 whole filled)

-- a body

pub body_short : (size room count : ℕ) (old new : Option (List ℕ)) (buffer : List ℕ) → length buffer ≡ min size room → count < min size room → IfSome old (λ bytes. FilledFrom bytes new count buffer)
    → IfSome old (λ bytes. TakesOff (λ (body : List ℕ). length body) room (Err fault.Short) (body_at size room bytes) bytes new)
unfolding body_at
body_short size room count None new buffer is within filled = tt
body_short size room count (Some bytes) new buffer is within filled =
    let short : length bytes < min size room = omega (arith, is, filled.count_is) in
    (chosen_first _ _ _ (lt-ltb _ _ short), ended bytes buffer new count (omega (arith, filled.count_is, within, is)) filled)

pub body_long : (size room count : ℕ) (old new : Option (List ℕ)) (buffer : List ℕ) → length buffer ≡ min size room → min size room ≤ count → room < size → IfSome old (λ bytes. FilledFrom bytes new count buffer)
    → IfSome old (λ bytes. TakesOff (λ (body : List ℕ). length body) room (Err fault.Long) (body_at size room bytes) bytes new)
unfolding body_at
body_long size room count None new buffer is whole few filled = tt
body_long size room count (Some bytes) new buffer is whole few filled =
    let enough : min size room ≤ length bytes = omega (arith, is, filled.count_is) in
    let all : count ≡ room = omega (arith, is, whole, few, filled.count_is) in
    (chosen_second _ _ _ (le-ltb _ _ enough) ∙ chosen_first _ _ _ (lt-ltb _ _ few), moved bytes buffer new count room all filled)

pub body_whole : (size room count : ℕ) (old new : Option (List ℕ)) (buffer : List ℕ) → length buffer ≡ min size room → min size room ≤ count → size ≤ room → IfSome old (λ bytes. FilledFrom bytes new count buffer)
    → IfSome old (λ bytes. TakesOff (λ (body : List ℕ). length body) room (Ok (Some buffer)) (body_at size room bytes) bytes new)
unfolding body_at
body_whole size room count None new buffer is whole many filled = tt
body_whole size room count (Some bytes) new buffer is whole many filled =
    let full : count ≡ length buffer = omega (arith, is, whole, filled.count_is) in
    let all : size ≡ count = omega (arith, is, full) in
    let enough : min size room ≤ length bytes = omega (arith, is, filled.count_is) in
    let front : take size bytes ≡ buffer = ap (λ k. take k bytes) all ∙ filled_front bytes buffer new count full filled in
    (chosen_second _ _ _ (le-ltb _ _ enough) ∙ chosen_second _ _ _ (le-ltb _ _ many) ∙ ap (λ xs. Ok (Some xs)) front, moved bytes buffer new count (length buffer) full filled)

-- both

behind_again : (bytes : List ℕ) (left : Option (List ℕ)) (n : ℕ) → LosesSome (drop n bytes) left → LosesSome bytes left
behind_again bytes left n lost =
    (take n bytes ++ lost.0, lost.1, sym (take-append-drop n bytes) ∙ ap (λ xs. take n bytes ++ xs) lost.2 ∙ sym (append_assoc (take n bytes) lost.0 lost.1), lost.3)

pub frame_too_long : (limit room n : ℕ) (old new : Option (List ℕ)) → limit < n → IfSome old (λ bytes. TakesOff (λ (n : ℕ). 8) room (Ok (Some n)) (length_at room bytes) bytes new)
    → IfSome old (λ bytes. TakesOff (λ (body : List ℕ). 8 + length body) room (Err (fault.TooLong n)) (frame_at limit room bytes) bytes new)
frame_too_long limit room n None new above taken = tt
frame_too_long limit room n (Some bytes) new above taken =
    (rw taken.0 (chosen_first _ _ _ (lt-ltb _ _ above)), taken.1)

-- a choice is one of the two
pub chosen : {A : Type 0} (b : Bool) (x y z : A) → (if b then x else y) ≡ z → ((b ≡ true) × (x ≡ z)) ⊎ ((b ≡ false) × (y ≡ z))
chosen true x y z is = inl (refl, is)
chosen false x y z is = inr (refl, is)

-- a length that is read lies in the bytes and the room
pub length_has : (room : ℕ) (bytes : List ℕ) (n : ℕ) → length_at room bytes ≡ Ok (Some n) → (8 ≤ length bytes) × (8 ≤ room)
unfolding length_at
length_has room bytes n is = elim (chosen (nat_lt (length bytes) (min 8 room)) _ _ _ is) [
  | inl short ↦ elim (chosen (length bytes == 0) _ _ _ short.1) [ inl none ↦ cc | inr some ↦ cc ]
  | inr whole ↦ elim (chosen (nat_lt room 8) _ _ _ whole.1) [
    | inl few ↦ cc
    | inr many ↦ let le = ltb-false _ _ whole.0 in let room_le = ltb-false _ _ many.0 in (omega (arith, le, room_le), omega (arith, room_le))
  ]
]

framed_by : (limit room n : ℕ) (bytes : List ℕ) (r : Result (Option (List ℕ)) FrameFault) → n ≤ limit → length_at room bytes ≡ Ok (Some n) → body_at n (room - 8) (drop 8 bytes) ≡ r → frame_at limit room bytes ≡ r
framed_by limit room n bytes r within first second = rw first (chosen_second _ _ _ (le-ltb _ _ within) ∙ second)

-- a body is never missing, and has no length of its own that is too long
not_none : {A : Type 0} (n room : ℕ) (bytes : List ℕ) → body_at n room bytes ≡ Ok None → A
unfolding body_at
not_none n room bytes is = absurd (cases (nat_lt (length bytes) (min n room)) (nat_lt room n) is)
  where
    cases : (a b : Bool) → (if a then Err fault.Short else if b then Err fault.Long else Ok (Some (take n bytes))) ≡ Ok None → ⊥
    cases true b is = cc
    cases false true is = cc
    cases false false is = cc

not_too_long : {A : Type 0} (n room k : ℕ) (bytes : List ℕ) → body_at n room bytes ≡ Err (fault.TooLong k) → A
unfolding body_at
not_too_long n room k bytes is = absurd (cases (nat_lt (length bytes) (min n room)) (nat_lt room n) is)
  where
    cases : (a b : Bool) → (if a then Err fault.Short else if b then Err fault.Long else Ok (Some (take n bytes))) ≡ Err (fault.TooLong k) → ⊥
    cases true b is = cc
    cases false true is = cc
    cases false false is = cc

-- a body that was taken behind a length
body_behind : (limit room n : ℕ) (bytes : List ℕ) (result : Result (Option (List ℕ)) FrameFault) (left : Option (List ℕ)) → n ≤ limit → length_at room bytes ≡ Ok (Some n)
    → TakesOff (λ (body : List ℕ). length body) (room - 8) result (body_at n (room - 8) (drop 8 bytes)) (drop 8 bytes) left
    → TakesOff (λ (body : List ℕ). 8 + length body) room result (frame_at limit room bytes) bytes left
body_behind limit room n bytes (Ok None) left within first taken = not_none n (room - 8) (drop 8 bytes) taken.0
body_behind limit room n bytes (Ok (Some body)) left within first taken =
    (framed_by limit room n bytes _ within first taken.0, taken.1 ∙ ap Some (drop-drop (length body) 8 bytes))
body_behind limit room n bytes (Err fault.Link) left within first taken = behind_again bytes left 8 taken
body_behind limit room n bytes (Err fault.Memory) left within first taken = behind_again bytes left 8 taken
body_behind limit room n bytes (Err fault.Short) left within first taken = (framed_by limit room n bytes _ within first taken.0, taken.1)
body_behind limit room n bytes (Err fault.Long) left within first taken =
    let all : 8 + (room - 8) ≡ room = omega (arith, (length_has room bytes n first).1) in
    (framed_by limit room n bytes _ within first taken.0, taken.1 ∙ ap Some (drop-drop (room - 8) 8 bytes ∙ ap (λ k. drop k bytes) all))
body_behind limit room n bytes (Err (fault.TooLong k)) left within first taken = not_too_long n (room - 8) k (drop 8 bytes) taken.0

-- the same, of what a link has left
pub frame_behind : (limit room n : ℕ) (result : Result (Option (List ℕ)) FrameFault) (old mid new : Option (List ℕ)) → n ≤ limit
    → IfSome old (λ bytes. TakesOff (λ (n : ℕ). 8) room (Ok (Some n)) (length_at room bytes) bytes mid)
    → IfSome mid (λ bytes. TakesOff (λ (body : List ℕ). length body) (room - 8) result (body_at n (room - 8) bytes) bytes new)
    → IfSome old (λ bytes. TakesOff (λ (body : List ℕ). 8 + length body) room result (frame_at limit room bytes) bytes new)
frame_behind limit room n result None mid new within first second = tt
frame_behind limit room n result (Some bytes) mid new within first second =
    let behind : Option (List ℕ) → Type 0 = λ told. IfSome told (λ rest. TakesOff (λ (body : List ℕ). length body) (room - 8) result (body_at n (room - 8) rest) rest new) in
    body_behind limit room n bytes result new within first.0 (subst behind first.1 second)

-- the same of a body, where the buffer is a Vec's
pub body_whole_of : (size room count len : ℕ) (old new : Option (List ℕ)) (buffer items body : List ℕ) → length buffer ≡ min size room → length buffer ≡ len → body ≡ take len (buffer ++ drop (length buffer) items) → min size room ≤ count → size ≤ room → IfSome old (λ bytes. FilledFrom bytes new count buffer)
    → IfSome old (λ bytes. TakesOff (λ (body : List ℕ). length body) room (Ok (Some body)) (body_at size room bytes) bytes new)
body_whole_of size room count len old new buffer items body is all same whole many filled =
    rw (same, take_at buffer (drop (length buffer) items) len all) (body_whole size room count old new buffer is whole many filled)
