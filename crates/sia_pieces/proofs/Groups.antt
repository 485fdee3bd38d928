-- The groups of a byte string, one after another.
use Rattle.std.proofs.Common.{◌≡◌, ℕ, zero, suc, ◌+◌, ◌-◌, ◌*◌, ◌<◌, ◌≤◌, List, [], ◌∷◌, ◌++◌, length, take, drop, refl, sym, ◌∙◌, ap, arith, map, append_assoc}
use Rattle.std.specs.Int.{div_ceil}
use Rattle.std.specs.List.{concat, range_with_len}
use Rattle.std.proofs.lemmas.Grind.{div_ceil_times}
use Rattle.std.proofs.lemmas.List.{drop-drop, map-append}
use Rattle.std.proofs.Math.Nat.{zero-mul, mul-le-mul_right, add-mul, one-mul}
use Rattle.sia_pieces.specs.Pieces.{filled, first_groups, values_at, value}
use Rattle.sia_pieces.proofs.Values.{value_of_filled}

pub append_none : (xs : List ℕ) → xs ++ [] ≡ xs
append_none [] = refl
append_none (x ∷ xs) = ap (λ ys. x ∷ ys) (append_none xs)

-- one group more
pub groups_more : (t k : ℕ) (bytes : List ℕ) → first_groups (t + 1) k bytes ≡ first_groups t k bytes ++ filled k (take k (drop (t * k) bytes)) ∷ []
unfolding first_groups
groups_more zero k bytes = let e : 0 ≡ 0 * k = sym (zero-mul k) in ap (λ n. filled k (take k (drop n bytes)) ∷ []) e
groups_more (suc t) k bytes =
    let count : suc t + 1 ≡ suc (t + 1) = omega arith in
    let start : k + t * k ≡ suc t * k = omega arith in
    ap (λ n. first_groups n k bytes) count
    ∙ ap (λ gs. filled k (take k bytes) ∷ gs)
    (groups_more t k (drop k bytes)
    ∙ ap (λ rest. first_groups t k (drop k bytes) ++ filled k (take k rest) ∷ []) (drop-drop (t * k) k bytes ∙ ap (λ n. drop n bytes) start))

-- each group begins within the bytes
pub starts_within : (t n k : ℕ) → 0 < k → t < div_ceil n k → t * k < n
starts_within t n k some lt =
    let whole : div_ceil n k * k < n + k = (div_ceil_times n k some).1 in
    let count : t + 1 ≤ div_ceil n k = omega arith in
    let more : (t + 1) * k ≤ div_ceil n k * k = mul-le-mul_right k count in
    let split : (t + 1) * k ≡ t * k + k = add-mul t 1 k ∙ ap (λ m. t * k + m) (one-mul k) in
    omega arith

-- the values of one group more
pub values_more : (t k place : ℕ) (bytes : List ℕ) → values_at place (first_groups (t + 1) k bytes) ≡ values_at place (first_groups t k bytes) ++ value (take k (drop (t * k) bytes)) place ∷ []
values_more t k place bytes =
    let part : List ℕ = take k (drop (t * k) bytes) in
    ap (values_at place) (groups_more t k bytes)
    ∙ map-append (λ group. value group place) (first_groups t k bytes) (filled k part ∷ [])
    ∙ ap (λ last. values_at place (first_groups t k bytes) ++ last ∷ []) (value_of_filled part (k - length part) place 0)

-- numbers in order, one more
numbers_on : (a n : ℕ) → range_with_len a (suc n) ≡ range_with_len a n ++ (a + n) ∷ []
numbers_on a zero = let e : a ≡ a + 0 = omega arith in ap (λ b. b ∷ []) e
numbers_on a (suc n) = let e : a + 1 + n ≡ a + suc n = omega arith in ap (λ ns. a ∷ ns) (numbers_on (a + 1) n ∙ ap (λ b. range_with_len (a + 1) n ++ b ∷ []) e)

pub numbers_more : (n : ℕ) → range_with_len 0 (n + 1) ≡ range_with_len 0 n ++ n ∷ []
numbers_more n =
    let count : n + 1 ≡ suc n = omega arith in
    let last : 0 + n ≡ n = omega arith in
    ap (range_with_len 0) count ∙ numbers_on 0 n ∙ ap (λ b. range_with_len 0 n ++ b ∷ []) last

-- what a list is after one more element
pub pushed_on : {X : Type 0} {new items before after : List X} {b b' : X} → new ≡ items ++ b ∷ [] → items ≡ before → b ≡ b' → after ≡ before ++ b' ∷ [] → new ≡ after
pushed_on {before = before} {b = b} e is h g = e ∙ ap (λ xs. xs ++ b ∷ []) is ∙ ap (λ last. before ++ last ∷ []) h ∙ sym g

concat_last : (xss : List (List ℕ)) (ys : List ℕ) → concat (xss ++ ys ∷ []) ≡ concat xss ++ ys
concat_last [] ys = append_none ys
concat_last (xs ∷ xss) ys = ap (λ zs. xs ++ zs) (concat_last xss ys) ∙ sym (append_assoc xs (concat xss) ys)

-- lists that are told by a number, joined, and one more
pub concat_more : (f : ℕ → List ℕ) (n : ℕ) → concat (map f (range_with_len 0 (n + 1))) ≡ concat (map f (range_with_len 0 n)) ++ f n
concat_more f n =
    ap (λ ns. concat (map f ns)) (numbers_more n)
    ∙ ap concat (map-append f (range_with_len 0 n) (n ∷ []))
    ∙ concat_last (map f (range_with_len 0 n)) (f n)

-- such a list behind some bytes, and one more
pub joined_on : (new items before group : List ℕ) (f : ℕ → List ℕ) (t : ℕ) → new ≡ items ++ group → items ≡ before ++ concat (map f (range_with_len 0 t)) → group ≡ f t → new ≡ before ++ concat (map f (range_with_len 0 (t + 1)))
joined_on new items before group f t e is one =
    e
    ∙ ap (λ bs. bs ++ group) is
    ∙ append_assoc before (concat (map f (range_with_len 0 t))) group
    ∙ ap (λ bs. before ++ bs) (ap (λ g. concat (map f (range_with_len 0 t)) ++ g) one ∙ sym (concat_more f t))
