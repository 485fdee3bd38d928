-- Free slots, found one after another.
use Rattle.std.proofs.Common.{◌≡◌, ◌++◌, ℕ, suc, ◌+◌, ◌-◌, ◌<◌, true, false, cond, List, [], ◌∷◌, length, take, count_by, arith, sym, ap, ◌∙◌, refl}
use Rattle.std.proofs.lemmas.List.{append_assoc, length-append}
use Rattle.std.proofs.lemmas.List.Sums.{sum_by-cons}
use Rattle.sia_shelf.specs.Shelf.{free_from, is_free}
use Rattle.sia_shelf.specs.declared.mark.Mark.{Mark}
use Rattle.sia_shelf.specs.declared.mark.Mark.TheVariants as mark

pub length-free : (first : ℕ) (marks : List Mark) → length (free_from first marks) ≡ count_by is_free marks
length-free first [] = refl
length-free first (mark.Free ∷ rest) = omega (arith, length-free (first + 1) rest, sum_by-cons (λ it. cond (is_free it) 1 0) mark.Free rest)
length-free first (mark.Put ∷ rest) = omega (arith, length-free (first + 1) rest, sum_by-cons (λ it. cond (is_free it) 1 0) mark.Put rest)
length-free first (mark.Live ∷ rest) = omega (arith, length-free (first + 1) rest, sum_by-cons (λ it. cond (is_free it) 1 0) mark.Live rest)

-- a free slot is the first of those from it on
pub free_here : (at : ℕ) (it : Mark) (rest : List Mark) → is_free it ≡ true → free_from at (it ∷ rest) ≡ at ∷ free_from (at + 1) rest
free_here at mark.Free rest free = refl
free_here at mark.Put rest free = let clash : false ≡ true = free in cc
free_here at mark.Live rest free = let clash : false ≡ true = free in cc

pub taken_here : (at : ℕ) (it : Mark) (rest : List Mark) → is_free it ≡ false → free_from at (it ∷ rest) ≡ free_from (at + 1) rest
taken_here at mark.Free rest taken = let clash : true ≡ false = taken in cc
taken_here at mark.Put rest taken = refl
taken_here at mark.Live rest taken = refl

-- one slot more is found
pub one_found : (found rest all : List ℕ) (more at : ℕ) → length found < more
    → found ++ take (more - length found) (at ∷ rest) ≡ all
    → (found ++ at ∷ []) ++ take (more - length (found ++ at ∷ [])) rest ≡ all
one_found found rest all more at few so_far =
    let one : more - length found ≡ suc (more - length (found ++ at ∷ [])) = omega (arith, length-append found (at ∷ [])) in
    append_assoc found (at ∷ []) (take (more - length (found ++ at ∷ [])) rest)
    ∙ ap (λ k. found ++ take k (at ∷ rest)) (sym one)
    ∙ so_far
