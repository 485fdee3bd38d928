-- The first fault of a list, entry by entry and part by part.
use Rattle.std.proofs.Common.{◌≡◌, ℕ, ◌+◌, ◌<◌, ◌≤◌, suc, List, [], ◌∷◌, ◌++◌, length, drop, get_or, Option, Some, None, Result, Ok, Err, refl, sym, ap, ◌∙◌, subst, arith, add-zero, add-one}
use Rattle.std.proofs.Math.Seq.{drop-cons}
use Rattle.std.proofs.lemmas.List.{drop_all}
use Rattle.sia_encoding.proofs.Answering.{unless_err}
use Rattle.sia_encoding.specs.Answer.{unless}
use Rattle.sia_encoding.specs.Firsts.{◌or_else◌, first_at}

-- where the first has no fault the second decides, and else the first does
pub second_decides : {F : Type 0} (a b : Option F) → unless a ≡ Ok tt → (a or_else b) ≡ b
second_decides None b is = refl
second_decides (Some fault) b is = cc

pub first_decides : {F : Type 0} (a b : Option F) (fault : F) → unless a ≡ Err fault → (a or_else b) ≡ Some fault
first_decides None b fault is = cc
first_decides (Some other) b fault is = unless_err (Some other) fault is

-- an entry without a fault is passed over
pub first_passed : {X F : Type 0} (f : ℕ → X → Option F) (xs : List X) (i : ℕ) (x : X) → i < length xs → unless (f i (get_or xs i x)) ≡ Ok tt → first_at f i (drop i xs) ≡ first_at f (i + 1) (drop (i + 1) xs)
first_passed f xs i x within is =
    ap (first_at f i) (drop-cons xs i x within)
    ∙ second_decides (f i (get_or xs i x)) (first_at f (i + 1) (drop (suc i) xs)) is
    ∙ ap (λ n. first_at f (i + 1) (drop n xs)) (sym (add-one i))

-- an entry with a fault is the first
pub first_found : {X F : Type 0} (f : ℕ → X → Option F) (xs : List X) (i : ℕ) (x : X) (fault : F) → i < length xs → unless (f i (get_or xs i x)) ≡ Err fault → first_at f i (drop i xs) ≡ Some fault
first_found f xs i x fault within is =
    ap (first_at f i) (drop-cons xs i x within)
    ∙ first_decides (f i (get_or xs i x)) (first_at f (i + 1) (drop (suc i) xs)) fault is

or_else_assoc : {F : Type 0} (a b c : Option F) → (a or_else (b or_else c)) ≡ ((a or_else b) or_else c)
or_else_assoc None b c = refl
or_else_assoc (Some fault) b c = refl

-- the first fault of two lists, one behind the other
pub first_at_append : {X F : Type 0} (f : ℕ → X → Option F) (i : ℕ) (xs ys : List X) → first_at f i (xs ++ ys) ≡ (first_at f i xs or_else first_at f (i + length xs) ys)
first_at_append f i [] ys = ap (λ n. first_at f n ys) (sym (add-zero i))
first_at_append f i (x ∷ xs) ys =
    let place : (i + 1) + length xs ≡ i + length (x ∷ xs) = omega arith in
    ap (λ later. f i x or_else later) (first_at_append f (i + 1) xs ys ∙ ap (λ n. first_at f (i + 1) xs or_else first_at f n ys) place)
    ∙ or_else_assoc (f i x) (first_at f (i + 1) xs) (first_at f (i + length (x ∷ xs)) ys)
