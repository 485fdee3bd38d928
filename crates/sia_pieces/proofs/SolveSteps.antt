-- One step of the recursion that solves: the parts behind the first value are worked out, and put back.
use Rattle.std.proofs.Common.{◌≡◌, ℕ, zero, suc, Bool, false, nat_eq, ◌-◌, ◌<◌, List, [], ◌∷◌, ◌++◌, length, get_or, drop, refl, sym, ◌∙◌, ap, subst, arith}
use Rattle.std.specs.List.{between}
use Rattle.std.proofs.lemmas.List.{take_all, drop_all, length-map}
use Rattle.std.proofs.lemmas.Bool.{true≢false}
use borrow.Rule.Slice.PartMut.{put_mid}
use Rattle.sia_pieces.specs.declared.piece.Piece.{Piece}
use Rattle.sia_pieces.specs.Joined.{AreBelow}
use Rattle.sia_pieces.specs.Solving.{slopes, raised, solved, places}
use Rattle.sia_pieces.proofs.Groups.{append_none}
use Rattle.sia_pieces.proofs.Solutions.{length-slopes}

rest_is : {X : Type 0} (x : X) (xs : List X) → between 1 (length (x ∷ xs)) (x ∷ xs) ≡ xs
rest_is x xs = take_all (suc (length xs) - 1) xs (omega arith)

pub below_rest : (n : ℕ) (chosen : List Piece) → AreBelow n chosen → AreBelow n (between 1 (length chosen) chosen)
below_rest n [] all = λ k d lt. absurd (omega arith)
below_rest n (c ∷ cs) all = subst (AreBelow n) (sym (rest_is c cs)) (λ k d lt. all (suc k) d (omega arith))

put_is : (y : ℕ) (ys zs : List ℕ) → put_mid 1 (length (y ∷ ys) - 1) (y ∷ ys) zs ≡ y ∷ zs
put_is y ys zs =
    let none : drop (suc (length ys) - 1) ys ≡ [] = drop_all (suc (length ys) - 1) ys (omega arith) in
    ap (λ rest. y ∷ (zs ++ rest)) none ∙ ap (λ l. y ∷ l) (append_none zs)

pub length_rest : {X : Type 0} (xs : List X) → length (between 1 (length xs) xs) ≡ length xs - 1
length_rest [] = refl
length_rest (x ∷ xs) = let e : length xs ≡ suc (length xs) - 1 = omega arith in ap length (rest_is x xs) ∙ e

pub not_empty : (n : ℕ) (b : Bool) → b ≡ nat_eq n 0 → b ≡ false → 0 < n
not_empty zero b is empty = absurd (true≢false (sym is ∙ empty))
not_empty (suc n) b is empty = omega arith

pub solved_none : (chosen : List Piece) (values : List ℕ) → length chosen ≡ length values → length chosen ≡ 0 → values ≡ solved (places chosen) values
unfolding solved
solved_none [] [] same none = refl
solved_none [] (y ∷ ys) same none = absurd (omega arith)
solved_none (c ∷ cs) values same none = absurd (omega arith)

-- what is left to be solved has as many places as values
pub solve_ready : (chosen : List Piece) (values s1 : List ℕ) (place value : ℕ) → length chosen ≡ length values → 0 < length chosen → s1 ≡ slopes place value (places (between 1 (length chosen) chosen)) (between 1 (length values) values) → length (between 1 (length chosen) chosen) ≡ length (between 1 (length (put_mid 1 (length values - 1) values s1)) (put_mid 1 (length values - 1) values s1))
solve_ready [] values s1 place value same some is1 = absurd (omega arith)
solve_ready (c ∷ cs) [] s1 place value same some is1 = absurd (omega arith)
solve_ready (c ∷ cs) (y ∷ ys) s1 place value same some is1 =
    let sloped : s1 ≡ slopes place value (places cs) ys =
    is1
    ∙ ap (λ ps. slopes place value ps (between 1 (length (y ∷ ys)) (y ∷ ys))) (ap places (rest_is c cs))
    ∙ ap (slopes place value (places cs)) (rest_is y ys) in
    let counts : length (places cs) ≡ length cs = length-map cs (λ (piece : Piece). piece.place) in
    let one : length cs ≡ length ys = omega arith in
    let long : length s1 ≡ length ys = ap length sloped ∙ length-slopes place value (places cs) ys (counts ∙ one) in
    ap length (rest_is c cs)
    ∙ one
    ∙ sym long
    ∙ sym (ap length (rest_is y s1))
    ∙ ap (λ v. length (between 1 (length v) v)) (sym (put_is y ys s1))

pub solve_step : (chosen : List Piece) (values v1 s1 s2 new : List ℕ) (place value : ℕ) (d : Piece) → length chosen ≡ length values → 0 < length chosen → place ≡ (get_or chosen 0 d).place → value ≡ get_or values 0 0 → s1 ≡ slopes place value (places (between 1 (length chosen) chosen)) (between 1 (length values) values) → v1 ≡ put_mid 1 (length values - 1) values s1 → s2 ≡ solved (places (between 1 (length chosen) chosen)) (between 1 (length v1) v1) → new ≡ raised place (put_mid 1 (length v1 - 1) v1 s2) → new ≡ solved (places chosen) values
unfolding solved
solve_step [] values v1 s1 s2 new place value d same some at first is1 put1 is2 is = absurd (omega arith)
solve_step (c ∷ cs) [] v1 s1 s2 new place value d same some at first is1 put1 is2 is = absurd (omega arith)
solve_step (c ∷ cs) (y ∷ ys) v1 s1 s2 new place value d same some at first is1 put1 is2 is =
    let others : places (between 1 (length (c ∷ cs)) (c ∷ cs)) ≡ places cs = ap places (rest_is c cs) in
    let left : v1 ≡ y ∷ s1 = put1 ∙ put_is y ys s1 in
    let sloped : s1 ≡ slopes c.place y (places cs) ys =
    is1
    ∙ ap (λ p. slopes p value (places (between 1 (length (c ∷ cs)) (c ∷ cs))) (between 1 (length (y ∷ ys)) (y ∷ ys))) at
    ∙ ap (λ v. slopes c.place v (places (between 1 (length (c ∷ cs)) (c ∷ cs))) (between 1 (length (y ∷ ys)) (y ∷ ys))) first
    ∙ ap (λ ps. slopes c.place y ps (between 1 (length (y ∷ ys)) (y ∷ ys))) others
    ∙ ap (slopes c.place y (places cs)) (rest_is y ys) in
    let found : s2 ≡ solved (places cs) (slopes c.place y (places cs) ys) =
    is2
    ∙ ap (λ ps. solved ps (between 1 (length v1) v1)) others
    ∙ ap (λ v. solved (places cs) (between 1 (length v) v)) left
    ∙ ap (solved (places cs)) (rest_is y s1 ∙ sloped) in
    is
    ∙ ap (λ v. raised place (put_mid 1 (length v - 1) v s2)) left
    ∙ ap (raised place) (put_is y s1 s2)
    ∙ ap (λ p. raised p (y ∷ s2)) at
    ∙ ap (λ qs. raised c.place (y ∷ qs)) found
