-- How far filling a buffer from a source has come.
use Rattle.std.proofs.Common.{◌≡◌, ◌++◌, ℕ, ◌+◌, ◌≤◌, List, [], length, take, drop, Option, None, Some, arith, ap, refl, sym, ◌∙◌}
use Rattle.std.specs.Prelude.{IfSome}
use Rattle.std.specs.Io.KnownBytes.{Consumes, Keeps}
use Rattle.std.proofs.lemmas.List.{take_at, drop_at, take-append-le, length-take, length-append, append_assoc}
use Rattle.std.proofs.Math.Seq.{take-add}
use Rattle.sia_edge.specs.Filled.{FilledFrom}

-- The buffer's front is what the source has lost.
abbrev pub FilledSoFar : Option (List ℕ) → Option (List ℕ) → List ℕ → ℕ → Type 0
FilledSoFar None now buffer done = Unit {0}
FilledSoFar (Some before) None buffer done = ⊥
FilledSoFar (Some before) (Some now) buffer done = before ≡ take done buffer ++ now

-- a failed read takes nothing more
pub lost_so_far : (before now new : Option (List ℕ)) (buffer : List ℕ) (done : ℕ) → FilledSoFar before now buffer done → Keeps now new → (front : List ℕ) × Consumes before new front
lost_so_far None now new buffer done so_far kept = ([], tt)
lost_so_far (Some before) None new buffer done so_far kept = absurd so_far
lost_so_far (Some before) (Some now) None buffer done so_far kept = absurd kept
lost_so_far (Some before) (Some now) (Some after) buffer done so_far kept = (take done buffer, so_far ∙ ap (λ xs. take done buffer ++ xs) (sym kept))

-- some bytes more are read behind the front
pub filled_more : (before now new : Option (List ℕ)) (buffer rest behind : List ℕ) (done count : ℕ) → done ≤ length buffer → count ≤ length rest
    → FilledSoFar before now buffer done → Consumes now new (take count rest) → FilledSoFar before new (take done buffer ++ (rest ++ behind)) (done + count)
filled_more None now new buffer rest behind done count within fits so_far taken = tt
filled_more (Some before) None new buffer rest behind done count within fits so_far taken = absurd so_far
filled_more (Some before) (Some now) None buffer rest behind done count within fits so_far taken = absurd taken
filled_more (Some before) (Some now) (Some after) buffer rest behind done count within fits so_far taken =
    let size : length (take done buffer) ≡ done = omega (arith, length-take done buffer) in
    let front : take (done + count) (take done buffer ++ (rest ++ behind)) ≡ take done buffer ++ take count rest =
    take-add done count (take done buffer ++ (rest ++ behind))
    ∙ rw (take_at (take done buffer) (rest ++ behind) done size, drop_at (take done buffer) (rest ++ behind) done size, take-append-le count rest behind fits) refl in
    so_far ∙ ap (λ xs. take done buffer ++ xs) taken ∙ sym (append_assoc (take done buffer) (take count rest) after) ∙ ap (λ xs. xs ++ after) (sym front)

-- the buffer is full
pub filled_full : (before now : Option (List ℕ)) (buffer : List ℕ) (done : ℕ) → done ≡ length buffer → FilledSoFar before now buffer done → IfSome before (λ left. FilledFrom left now done buffer)
filled_full None now buffer done full so_far = tt
filled_full (Some before) None buffer done full so_far = absurd so_far
filled_full (Some before) (Some now) buffer done full so_far =
    let size : length (take done buffer) ≡ done = omega (arith, length-take done buffer) in
    let whole : length before ≡ done + length now = ap length so_far ∙ length-append (take done buffer) now ∙ ap (λ n. n + length now) size in
    record {
      count_is = omega arith;
      front = sym (ap (take done) so_far ∙ take_at (take done buffer) now done size);
      rest = ap Some (sym (ap (drop done) so_far ∙ drop_at (take done buffer) now done size));
    }
