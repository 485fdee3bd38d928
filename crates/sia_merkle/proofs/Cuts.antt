-- The leaves of a byte string, one by one.
use Rattle.std.proofs.Common.{◌≡◌, ℕ, zero, suc, ◌+◌, ◌-◌, ◌*◌, ◌<◌, ◌≤◌, List, [], ◌∷◌, ◌++◌, length, map, take, drop, get_or, refl, sym, ◌∙◌, ap, arith, length-drop}
use Rattle.std.specs.List.{range_with_len}
use Rattle.std.proofs.lemmas.List.{map-append, length-map, length-take-le, drop-take, take-take, drop-drop, drop-map, take-map, get_or-map}
use Rattle.std.proofs.lemmas.List.FromFn.{map-range_with_len_more, length-map-range_with_len, take-map-range_with_len, get_or-map-range_with_len}
use Rattle.sia_merkle.specs.Roots.{leaf_at, leaf_count, leaf_digest, leaves_of}

pub pushed_leaf : (bytes : List ℕ) (place : ℕ) → map leaf_digest (map (leaf_at bytes) (range_with_len 0 (place + 1))) ≡ map leaf_digest (map (leaf_at bytes) (range_with_len 0 place)) ++ leaf_digest (leaf_at bytes place) ∷ []
pushed_leaf bytes place =
    ap (map leaf_digest) (map-range_with_len_more (leaf_at bytes) 0 place place (omega arith)) ∙ map-append leaf_digest (map (leaf_at bytes) (range_with_len 0 place)) (leaf_at bytes place ∷ [])

pub length-hashes : (bytes : List ℕ) (count : ℕ) → length (map leaf_digest (map (leaf_at bytes) (range_with_len 0 count))) ≡ count
length-hashes bytes count = length-map (map (leaf_at bytes) (range_with_len 0 count)) leaf_digest ∙ length-map-range_with_len (leaf_at bytes) 0 count

pub all_leaves : (bytes : List ℕ) (count : ℕ) → count ≡ leaf_count (length bytes) → map leaf_digest (map (leaf_at bytes) (range_with_len 0 count)) ≡ map leaf_digest (leaves_of bytes)
unfolding leaves_of
all_leaves bytes count is = ap (λ n. map leaf_digest (map (leaf_at bytes) (range_with_len 0 n))) is

map_same : {X : Type 0} (f g : ℕ → X) (at count : ℕ) → ((k : ℕ) → at ≤ k → k < at + count → f k ≡ g k) → map f (range_with_len at count) ≡ map g (range_with_len at count)
map_same f g at zero same = refl
map_same f g at (suc count) same =
    let here : f at ≡ g at = same at (omega arith) (omega arith) in
    let rest : map f (range_with_len (at + 1) count) ≡ map g (range_with_len (at + 1) count) = map_same f g (at + 1) count (λ k low high. same k (omega arith) (omega arith)) in
    ap (λ x. x ∷ map f (range_with_len (at + 1) count)) here ∙ ap (λ xs. g at ∷ xs) rest

map_shifted : {X : Type 0} (f : ℕ → X) (by at count : ℕ) → map f (range_with_len (by + at) count) ≡ map (λ k. f (by + k)) (range_with_len at count)
map_shifted f by at zero = refl
map_shifted f by at (suc count) =
    let up : by + at + 1 ≡ by + (at + 1) = omega arith in
    ap (λ xs. f (by + at) ∷ xs) (ap (λ n. map f (range_with_len n count)) up ∙ map_shifted f by (at + 1) count)

drop_range : (by at count : ℕ) → by ≤ count → drop by (range_with_len at count) ≡ range_with_len (at + by) (count - by)
drop_range zero at count fits = let e : at ≡ at + 0 = omega arith in let f : count ≡ count - 0 = omega arith in ap (λ a. range_with_len a count) e ∙ ap (range_with_len (at + 0)) f
drop_range (suc by) at zero fits = absurd (omega arith)
drop_range (suc by) at (suc count) fits =
    let less : by ≤ count = omega arith in
    let up : at + 1 + by ≡ at + suc by = omega arith in
    let down : suc count - suc by ≡ count - by = omega arith in
    drop_range by (at + 1) count less ∙ ap (λ a. range_with_len a (count - by)) up ∙ ap (range_with_len (at + suc by)) (sym down)

pub length-leaves : (bytes : List ℕ) → length (leaves_of bytes) ≡ leaf_count (length bytes)
unfolding leaves_of
length-leaves bytes = length-map-range_with_len (leaf_at bytes) 0 (leaf_count (length bytes))

-- the leaves of a front of whole leaves
pub leaves-take : (bytes : List ℕ) (count : ℕ) → count < leaf_count (length bytes) → leaves_of (take (64 * count) bytes) ≡ take count (leaves_of bytes)
unfolding leaves_of
leaves-take bytes count within =
    let long : 64 * count ≤ length bytes = omega arith in
    let cut : length (take (64 * count) bytes) ≡ 64 * count = length-take-le (64 * count) bytes long in
    let counts : leaf_count (length (take (64 * count) bytes)) ≡ count = ap leaf_count cut ∙ (omega arith) in
    ap (λ n. map (leaf_at (take (64 * count) bytes)) (range_with_len 0 n)) counts
    ∙ map_same (leaf_at (take (64 * count) bytes)) (leaf_at bytes) 0 count (λ k low high.
    let split : 64 * count ≡ 64 * k + (64 * count - 64 * k) = omega arith in
    let enough : 64 ≤ 64 * count - 64 * k = omega arith in
    ap (λ n. take 64 (drop (64 * k) (take n bytes))) split ∙ ap (take 64) (drop-take (64 * k) (64 * count - 64 * k) bytes) ∙ take-take 64 (64 * count - 64 * k) (drop (64 * k) bytes) enough)
    ∙ sym (take-map-range_with_len (leaf_at bytes) 0 (leaf_count (length bytes)) count (omega arith))

-- the leaves behind it
pub leaves-drop : (bytes : List ℕ) (count : ℕ) → count < leaf_count (length bytes) → leaves_of (drop (64 * count) bytes) ≡ drop count (leaves_of bytes)
unfolding leaves_of
leaves-drop bytes count within =
    let counts : leaf_count (length (drop (64 * count) bytes)) ≡ leaf_count (length bytes) - count = ap leaf_count (length-drop (64 * count) bytes) ∙ (omega arith) in
    let swapped : 0 + count ≡ count + 0 = omega arith in
    ap (λ n. map (leaf_at (drop (64 * count) bytes)) (range_with_len 0 n)) counts
    ∙ map_same (leaf_at (drop (64 * count) bytes)) (λ k. leaf_at bytes (count + k)) 0 (leaf_count (length bytes) - count) (λ k low high.
    let at : 64 * count + 64 * k ≡ 64 * (count + k) = omega arith in
    ap (take 64) (drop-drop (64 * k) (64 * count) bytes ∙ ap (λ n. drop n bytes) at))
    ∙ sym (drop-map (leaf_at bytes) count (range_with_len 0 (leaf_count (length bytes))) ∙ ap (map (leaf_at bytes)) (drop_range count 0 (leaf_count (length bytes)) (omega arith) ∙ ap (λ a. range_with_len a (leaf_count (length bytes) - count)) swapped)
    ∙ map_shifted (leaf_at bytes) count 0 (leaf_count (length bytes) - count))

-- the same of the leaves' digests
pub hashes-take : (bytes : List ℕ) (count : ℕ) → count < leaf_count (length bytes) → map leaf_digest (leaves_of (take (64 * count) bytes)) ≡ take count (map leaf_digest (leaves_of bytes))
hashes-take bytes count within = ap (map leaf_digest) (leaves-take bytes count within) ∙ sym (take-map leaf_digest count (leaves_of bytes))

pub hashes-drop : (bytes : List ℕ) (count : ℕ) → count < leaf_count (length bytes) → map leaf_digest (leaves_of (drop (64 * count) bytes)) ≡ drop count (map leaf_digest (leaves_of bytes))
hashes-drop bytes count within = ap (map leaf_digest) (leaves-drop bytes count within) ∙ sym (drop-map leaf_digest count (leaves_of bytes))

pub length-leaf_hashes : (bytes : List ℕ) → length (map leaf_digest (leaves_of bytes)) ≡ leaf_count (length bytes)
length-leaf_hashes bytes = length-map (leaves_of bytes) leaf_digest ∙ length-leaves bytes

pub leaf_hash_at : (bytes : List ℕ) (place : ℕ) → place < leaf_count (length bytes) → get_or (map leaf_digest (leaves_of bytes)) place [] ≡ leaf_digest (leaf_at bytes place)
unfolding leaves_of
leaf_hash_at bytes place within =
    let here : place < length (map (leaf_at bytes) (range_with_len 0 (leaf_count (length bytes)))) = omega (arith, length-map-range_with_len (leaf_at bytes) 0 (leaf_count (length bytes))) in
    get_or-map leaf_digest (map (leaf_at bytes) (range_with_len 0 (leaf_count (length bytes)))) place [] [] here
    ∙ ap leaf_digest (get_or-map-range_with_len (leaf_at bytes) 0 (leaf_count (length bytes)) place place [] within (omega arith))
