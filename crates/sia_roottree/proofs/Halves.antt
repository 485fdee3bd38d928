-- Roots of segments: a segment is the node over its two halves, and depends on its own hashes alone.
use Rattle.std.proofs.Common.{◌≡◌, ℕ, zero, suc, ◌+◌, ◌-◌, ◌*◌, ◌^◌, ◌<◌, ◌≤◌, List, [], ◌∷◌, ◌++◌, length, take, drop, get_or, set, refl, ◌∙◌, ap, arith, length-drop, length-take-le, length-append}
use native.Mathlib.Nat.{pow-suc}
use Rattle.std.proofs.Math.Seq.{take-add}
use Rattle.std.proofs.lemmas.List.{take-append-le, drop-append-le, drop-drop, drop_at, take_at, take-set-le, drop-set-lt, drop-set-add}
use Rattle.std.proofs.lemmas.Nat.{pow_pos}
use Rattle.sia_merkle.specs.Roots.{node_digest, first_hash, tree_root}
use Rattle.sia_merkle.specs.Segments.{segment_root}
use Rattle.sia_merkle.proofs.Trees.{tree_root-split}

-- the hashes of a segment, as its two halves
pub segment_split : (hashes : List (List ℕ)) (below index : ℕ) → (index + 1) * 2 ^ suc below ≤ length hashes
    → segment_root hashes (suc below) index ≡ node_digest (segment_root hashes below (2 * index)) (segment_root hashes below (2 * index + 1))
segment_split hashes below index whole =
    let wide : 2 ^ suc below ≡ 2 ^ below + 2 ^ below = pow-suc 2 below ∙ (omega arith) in
    let some : 0 < 2 ^ below = pow_pos below in
    let at : index * 2 ^ suc below ≡ 2 * index * 2 ^ below = ap (λ w. index * w) wide ∙ (omega arith) in
    let end : (index + 1) * 2 ^ suc below ≡ 2 * index * 2 ^ below + (2 ^ below + 2 ^ below) = ap (λ w. (index + 1) * w) wide ∙ (omega arith) in
    let next : 2 * index * 2 ^ below + 2 ^ below ≡ (2 * index + 1) * 2 ^ below = omega arith in
    let rest : List (List ℕ) = drop (2 * index * 2 ^ below) hashes in
    let left : List (List ℕ) = take (2 ^ below) rest in
    let right : List (List ℕ) = take (2 ^ below) (drop (2 ^ below) rest) in
    let long : length rest ≡ length hashes - 2 * index * 2 ^ below = length-drop (2 * index * 2 ^ below) hashes in
    let left_long : length left ≡ 2 ^ below = length-take-le (2 ^ below) rest (omega arith) in
    let behind : length (drop (2 ^ below) rest) ≡ length rest - 2 ^ below = length-drop (2 ^ below) rest in
    let right_long : length right ≡ 2 ^ below = length-take-le (2 ^ below) (drop (2 ^ below) rest) (omega arith) in
    let both : take (2 ^ suc below) (drop (index * 2 ^ suc below) hashes) ≡ left ++ right = ap (λ w. take w (drop (index * 2 ^ suc below) hashes)) wide ∙ (ap (λ a. take (2 ^ below + 2 ^ below) (drop a hashes)) at ∙ take-add (2 ^ below) (2 ^ below) rest) in
    let above : 2 ^ below < length (left ++ right) = omega (arith, length-append left right) in
    let first : take (2 ^ below) (left ++ right) ≡ left = take_at left right (2 ^ below) left_long in
    let second : drop (2 ^ below) (left ++ right) ≡ right = drop_at left right (2 ^ below) left_long in
    let there : right ≡ take (2 ^ below) (drop ((2 * index + 1) * 2 ^ below) hashes) = ap (take (2 ^ below)) (drop-drop (2 ^ below) (2 * index * 2 ^ below) hashes ∙ ap (λ a. drop a hashes) next) in
    ap (tree_root (suc below)) both ∙ (tree_root-split below (left ++ right) above
    ∙ (ap (λ l. node_digest (tree_root below l) (tree_root below (drop (2 ^ below) (left ++ right)))) first ∙ ap (λ r. node_digest (tree_root below left) (tree_root below r)) (second ∙ there)))

first_of : (hashes : List (List ℕ)) (index : ℕ) → index < length hashes → first_hash (take 1 (drop index hashes)) ≡ get_or hashes index []
first_of [] index within = absurd (omega arith)
first_of (hash ∷ hashes) zero within = refl
first_of (hash ∷ hashes) (suc index) within = first_of hashes index (omega arith)

-- a segment of one hash
pub segment_one : (hashes : List (List ℕ)) (index : ℕ) → (index + 1) * 2 ^ 0 ≤ length hashes → segment_root hashes 0 index ≡ get_or hashes index []
unfolding tree_root
segment_one hashes index within =
    let at : index * 2 ^ 0 ≡ index = omega arith in
    ap (λ a. first_hash (take 1 (drop a hashes))) at ∙ first_of hashes index (omega arith)

-- more hashes behind it do not touch a segment
pub segment_front : (hashes more : List (List ℕ)) (level index : ℕ) → (index + 1) * 2 ^ level ≤ length hashes → segment_root (hashes ++ more) level index ≡ segment_root hashes level index
segment_front hashes more level index whole =
    let end : (index + 1) * 2 ^ level ≡ index * 2 ^ level + 2 ^ level = omega arith in
    let room : index * 2 ^ level ≤ length hashes = omega arith in
    let left : 2 ^ level ≤ length (drop (index * 2 ^ level) hashes) = omega (arith, length-drop (index * 2 ^ level) hashes) in
    ap (tree_root level) (ap (take (2 ^ level)) (drop-append-le (index * 2 ^ level) hashes more room) ∙ take-append-le (2 ^ level) (drop (index * 2 ^ level) hashes) more left)

-- another hash in front of it
pub segment_set_before : (hashes : List (List ℕ)) (hash : List ℕ) (place level index : ℕ) → place < index * 2 ^ level → segment_root (set hashes place hash) level index ≡ segment_root hashes level index
segment_set_before hashes hash place level index before = ap (λ l. tree_root level (take (2 ^ level) l)) (drop-set-lt (index * 2 ^ level) hashes place hash before)

-- or behind it
pub segment_set_behind : (hashes : List (List ℕ)) (hash : List ℕ) (place level index : ℕ) → (index + 1) * 2 ^ level ≤ place → segment_root (set hashes place hash) level index ≡ segment_root hashes level index
segment_set_behind hashes hash place level index behind =
    let end : (index + 1) * 2 ^ level ≡ index * 2 ^ level + 2 ^ level = omega arith in
    let at : place ≡ index * 2 ^ level + (place - index * 2 ^ level) = omega arith in
    ap (tree_root level) (ap (λ p. take (2 ^ level) (drop (index * 2 ^ level) (set hashes p hash))) at
    ∙ (ap (take (2 ^ level)) (drop-set-add (index * 2 ^ level) hashes (place - index * 2 ^ level) hash) ∙ take-set-le (2 ^ level) (drop (index * 2 ^ level) hashes) (place - index * 2 ^ level) hash (omega arith)))
