-- The leaves of parts of a byte string.
use Rattle.std.proofs.Common.{◌≡◌, ℕ, ◌-◌, ◌*◌, ◌<◌, ◌≤◌, true, false, List, [], ◌++◌, length, take, drop, refl, sym, ◌∙◌, ap, arith, append-nil, length-append, length-drop, inl, inr}
use Rattle.std.specs.Prelude.{Bool, nat_lt, ◌⊎◌}
use Rattle.std.proofs.lemmas.Bool.{ltb-true, ltb-false}
use Rattle.std.proofs.lemmas.List.{length-take-le, take_all, take_at, drop_at, take-append-drop}
use Rattle.sia_merkle.specs.Roots.{leaf_count, leaves_of}
use Rattle.sia_merkle.proofs.Cuts.{leaves-take, leaves-drop, length-leaves}
use Rattle.sia_range.specs.Ranges.{part_between, replaced}
use Rattle.sia_cover.proofs.Soundness.{no_elements}

front_by : (bytes : List ℕ) (count : ℕ) → (more : Bool) → nat_lt count (leaf_count (length bytes)) ≡ more → leaves_of (take (64 * count) bytes) ≡ take count (leaves_of bytes)
front_by bytes count true e = leaves-take bytes count (ltb-true _ _ e)
front_by bytes count false e =
    let few : leaf_count (length bytes) ≤ count = ltb-false _ _ e in
    ap leaves_of (take_all (64 * count) bytes (omega arith)) ∙ sym (take_all count (leaves_of bytes) (omega (arith, length-leaves bytes)))

-- the leaves of a front of so many whole leaves, which may end before
pub front : (bytes : List ℕ) (count : ℕ) → leaves_of (take (64 * count) bytes) ≡ take count (leaves_of bytes)
front bytes count = front_by bytes count (nat_lt count (leaf_count (length bytes))) refl

-- the bytes of a range have its leaves
pub part_leaves : (bytes : List ℕ) (a b : ℕ) → a < b → b ≤ leaf_count (length bytes) → leaves_of (part_between (64 * a) (64 * b) bytes) ≡ part_between a b (leaves_of bytes)
part_leaves bytes a b some within =
    let turned : 64 * b - 64 * a ≡ 64 * (b - a) = omega arith in
    ap (λ n. leaves_of (take n (drop (64 * a) bytes))) turned ∙ front (drop (64 * a) bytes) (b - a) ∙ ap (take (b - a)) (leaves-drop bytes a (omega arith))

joined_by : (left right : List ℕ) (count : ℕ) → length left ≡ 64 * count → (some : Bool) → nat_lt 0 (length right) ≡ some → leaves_of (left ++ right) ≡ leaves_of left ++ leaves_of right
unfolding leaves_of
joined_by left right count whole true e =
    let more : 0 < length right = ltb-true _ _ e in
    let long = length-append left right in
    let within : count < leaf_count (length (left ++ right)) = omega arith in
    sym (take-append-drop count (leaves_of (left ++ right)))
    ∙ ap (λ leaves. leaves ++ drop count (leaves_of (left ++ right))) (sym (leaves-take (left ++ right) count within) ∙ ap leaves_of (take_at left right (64 * count) whole))
    ∙ ap (λ leaves. leaves_of left ++ leaves) (sym (leaves-drop (left ++ right) count within) ∙ ap leaves_of (drop_at left right (64 * count) whole))
joined_by left right count whole false e =
    let few : length right ≤ 0 = ltb-false _ _ e in
    let none : right ≡ [] = no_elements right [] (omega arith) refl in
    ap (λ bytes. leaves_of (left ++ bytes)) none ∙ ap leaves_of (append-nil left) ∙ sym (ap (λ bytes. leaves_of left ++ leaves_of bytes) none ∙ append-nil (leaves_of left))

-- bytes behind whole leaves have leaves of their own
pub joined : (left right : List ℕ) (count : ℕ) → length left ≡ 64 * count → leaves_of (left ++ right) ≡ leaves_of left ++ leaves_of right
joined left right count whole = joined_by left right count whole (nat_lt 0 (length right)) refl

rest_by : (bytes : List ℕ) (count : ℕ) → count ≤ leaf_count (length bytes) → (more : Bool) → nat_lt count (leaf_count (length bytes)) ≡ more → leaves_of (drop (64 * count) bytes) ≡ drop count (leaves_of bytes)
unfolding leaves_of
rest_by bytes count within true e = leaves-drop bytes count (ltb-true _ _ e)
rest_by bytes count within false e =
    let last : leaf_count (length bytes) ≤ count = ltb-false _ _ e in
    let none : drop (64 * count) bytes ≡ [] = no_elements (drop (64 * count) bytes) [] (omega (arith, length-drop (64 * count) bytes)) refl in
    let none_too : drop count (leaves_of bytes) ≡ [] = no_elements (drop count (leaves_of bytes)) [] (omega (arith, length-drop count (leaves_of bytes), length-leaves bytes)) refl in
    ap leaves_of none ∙ sym none_too

rest : (bytes : List ℕ) (count : ℕ) → count ≤ leaf_count (length bytes) → leaves_of (drop (64 * count) bytes) ≡ drop count (leaves_of bytes)
rest bytes count within = rest_by bytes count within (nat_lt count (leaf_count (length bytes))) refl

behind : (bytes new : List ℕ) (a b : ℕ) → b ≤ leaf_count (length bytes) → (b ≡ leaf_count (length bytes)) ⊎ (length new ≡ 64 * (b - a)) → leaves_of (new ++ drop (64 * b) bytes) ≡ leaves_of new ++ drop b (leaves_of bytes)
behind bytes new a b within (inl last) =
    let none : drop (64 * b) bytes ≡ [] = no_elements (drop (64 * b) bytes) [] (omega (arith, length-drop (64 * b) bytes)) refl in
    let none_too : drop b (leaves_of bytes) ≡ [] = no_elements (drop b (leaves_of bytes)) [] (omega (arith, length-drop b (leaves_of bytes), length-leaves bytes)) refl in
    ap (λ bytes. leaves_of (new ++ bytes)) none ∙ ap leaves_of (append-nil new) ∙ sym (ap (λ leaves. leaves_of new ++ leaves) none_too ∙ append-nil (leaves_of new))
behind bytes new a b within (inr whole) = joined new (drop (64 * b) bytes) (b - a) whole ∙ ap (λ leaves. leaves_of new ++ leaves) (rest bytes b within)

-- the leaves of a byte string whose leaves from a to b are replaced by bytes of whole leaves, or of the last ones
pub replaced_leaves : (bytes new : List ℕ) (a b : ℕ) → a < b → b ≤ leaf_count (length bytes) → (b ≡ leaf_count (length bytes)) ⊎ (length new ≡ 64 * (b - a))
    → leaves_of (replaced (64 * a) (64 * b) new bytes) ≡ replaced a b (leaves_of new) (leaves_of bytes)
replaced_leaves bytes new a b some within fits =
    let long : length (take (64 * a) bytes) ≡ 64 * a = length-take-le (64 * a) bytes (omega arith) in
    joined (take (64 * a) bytes) (new ++ drop (64 * b) bytes) a long
    ∙ ap (λ leaves. leaves ++ leaves_of (new ++ drop (64 * b) bytes)) (front bytes a)
    ∙ ap (λ leaves. take a (leaves_of bytes) ++ leaves) (behind bytes new a b within fits)
