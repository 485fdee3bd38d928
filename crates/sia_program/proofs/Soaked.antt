-- How far hashing a file in pieces has come.
use Rattle.std.proofs.Common.{◌≡◌, ◌++◌, ℕ, ◌+◌, ◌^◌, ◌<◌, ◌≤◌, List, length, take, drop, true, false, Option, None, Some, Ok, Err, arith, refl, ap, sym, subst, ◌∙◌}
use Rattle.std.specs.Prelude.{IfSome, min, nat_le}
use Rattle.std.proofs.lemmas.Bool.Decides.{nat_tests}
use Rattle.std.proofs.lemmas.List.{append_assoc, drop_all, length-append, take-append-drop, take_all}
use Rattle.sia_edge.specs.Filled.{FilledFrom}
use Rattle.sia_merkle.specs.Roots.{leaves_of, root_of}
use Rattle.sia_program.specs.declared.stop.Stop.TheVariants as stop
use Rattle.sia_program.specs.Answer.{ReadToEnd}
use Rattle.sia_program.specs.Commands.Root.{root_found}
use Rattle.sia_program.specs.Inputs.{within}

-- What was pushed is what the source has lost.
abbrev pub SoakedSoFar : Option (List ℕ) → Option (List ℕ) → List ℕ → Type 0
SoakedSoFar None now pushed = Unit {0}
SoakedSoFar (Some before) None pushed = ⊥
SoakedSoFar (Some before) (Some now) pushed = before ≡ pushed ++ now

-- what filling a buffer gave, where the source tells its bytes
abbrev pub Filled : Option (List ℕ) → Option (List ℕ) → ℕ → List ℕ → Type 0
Filled now new count buffer = IfSome now (λ left. FilledFrom left new count buffer)

-- a piece more is pushed
pub soaked_more : (before now new : Option (List ℕ)) (pushed piece buffer : List ℕ) (count : ℕ) → SoakedSoFar before now pushed → Filled now new count buffer
    → piece ≡ take count buffer → SoakedSoFar before new (pushed ++ piece)
soaked_more None now new pushed piece buffer count so_far filled is = tt
soaked_more (Some before) None new pushed piece buffer count so_far filled is = absurd so_far
soaked_more (Some before) (Some now) new pushed piece buffer count so_far filled is =
    let split : before ≡ (pushed ++ piece) ++ drop count now =
    so_far ∙ ap (λ xs. pushed ++ xs) (sym (take-append-drop count now)) ∙ sym (append_assoc pushed (take count now) (drop count now))
    ∙ ap (λ xs. (pushed ++ xs) ++ drop count now) (sym (is ∙ filled.front)) in
    subst (λ (n : Option (List ℕ)). SoakedSoFar (Some before) n (pushed ++ piece)) (sym filled.rest) split

too_long : (file : List ℕ) → 2 ^ 30 < length file → root_found file ≡ Err stop.Long
unfolding root_found within
too_long file long =
    let over : nat_le (length file) (2 ^ 30) ≡ false = grind (arith, nat_tests) in
    rw over refl

-- more came than may
pub soaked_over : (before now new : Option (List ℕ)) (pushed buffer : List ℕ) (count : ℕ) → SoakedSoFar before now pushed → Filled now new count buffer
    → 2 ^ 30 < length pushed + count → IfSome before (λ file. root_found file ≡ Err stop.Long)
soaked_over None now new pushed buffer count so_far filled over = tt
soaked_over (Some before) None new pushed buffer count so_far filled over = absurd so_far
soaked_over (Some before) (Some now) new pushed buffer count so_far filled over =
    too_long before (omega (arith, ap length so_far, length-append pushed now, filled.count_is))

pub rest_all : (now buffer : List ℕ) (count : ℕ) → count ≡ min (length now) (length buffer) → count < length buffer → length now ≤ count
rest_all now buffer count is short = omega arith

found : (file : List ℕ) → length file ≤ 2 ^ 30 → root_found file ≡ Ok (root_of (leaves_of file), length file)
unfolding root_found within
found file fits =
    let under : nat_le (length file) (2 ^ 30) ≡ true = grind (arith, nat_tests) in
    rw under refl

-- the last piece came, and it is less than a buffer
pub soaked_all : (before now new : Option (List ℕ)) (pushed piece buffer : List ℕ) (count size : ℕ) → SoakedSoFar before now pushed → Filled now new count buffer
    → piece ≡ take count buffer → count < length buffer → size ≡ length pushed + count → size ≤ 2 ^ 30
    → IfSome before (λ file. root_found file ≡ Ok (root_of (leaves_of (pushed ++ piece)), size))
soaked_all None now new pushed piece buffer count size so_far filled is short sum fits = tt
soaked_all (Some before) None new pushed piece buffer count size so_far filled is short sum fits = absurd so_far
soaked_all (Some before) (Some now) new pushed piece buffer count size so_far filled is short sum fits =
    let all : length now ≤ count = rest_all now buffer count filled.count_is short in
    let same : pushed ++ piece ≡ before = ap (λ xs. pushed ++ xs) (is ∙ filled.front ∙ take_all count now all) ∙ sym so_far in
    let long : length before ≡ size = omega (arith, ap length so_far, length-append pushed now, filled.count_is, all, sum) in
    rw same (rw (← long) (found before (omega arith)))

-- and then the source has nothing left
pub soaked_end : (before now new : Option (List ℕ)) (pushed buffer : List ℕ) (count : ℕ) → SoakedSoFar before now pushed → Filled now new count buffer
    → count < length buffer → ReadToEnd before new
soaked_end None now new pushed buffer count so_far filled short = tt
soaked_end (Some before) None new pushed buffer count so_far filled short = absurd so_far
soaked_end (Some before) (Some now) new pushed buffer count so_far filled short =
    filled.rest ∙ ap Some (drop_all count now (rest_all now buffer count filled.count_is short))
