-- How many records were read.
use Rattle.std.proofs.Common.{◌≡◌, ℕ, ◌+◌, ◌≤◌, Bool, true, List, [], ◌∷◌, ◌++◌, length, arith, sym, ◌∙◌, append_assoc, length-append}
use Rattle.std.proofs.lemmas.Bool.{false≢true}
use Rattle.sia_journal.specs.Listed.{frame, frames, at_rest, place_after}
use Rattle.sia_journal.specs.Journal.{NextIs}

-- one record more was read
pub read_more : (read left records : List (List ℕ)) (count place : ℕ) (held out : List ℕ) (answer : Bool) → records ≡ read ++ left → length read ≡ count
    → answer ≡ true → NextIs read left held place out answer
    → (front : List (List ℕ)) × (back : List (List ℕ)) × (records ≡ front ++ back) × (length front ≡ count + 1) × (place ≡ place_after front)
read_more read [] records count place held out answer is size was next = absurd (false≢true (sym next ∙ was))
read_more read (payload ∷ others) records count place held out answer is size was next =
    (read ++ payload ∷ [], others, is ∙ sym (append_assoc read (payload ∷ []) others), omega (arith, size, length-append read (payload ∷ [])), next.2)

frames_long : (records : List (List ℕ)) → length records ≤ length (frames records)
frames_long [] = omega arith
frames_long (payload ∷ others) = omega (arith, frames_long others, length-append (frame payload) (frames others))

-- a file has more bytes than records
pub fewer_records : (header : List ℕ) (records read left : List (List ℕ)) (most count : ℕ) → records ≡ read ++ left → length read ≡ count
    → most ≡ length (at_rest header records) → most ≤ count → ⊥
fewer_records header records read left most count is size whole over =
    let parts : length records ≡ length read + length left = rw is (length-append read left) in
    let file : length (at_rest header records) ≡ length header + (length (frames records) + 1) =
    omega (arith, length-append header (frames records ++ 0 ∷ []), length-append (frames records) (0 ∷ [])) in
    omega (arith, parts, file, size, whole, over, frames_long records)
