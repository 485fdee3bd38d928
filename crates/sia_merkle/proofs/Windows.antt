-- What stands in a list from a place on, and the roots over it.
use Rattle.std.proofs.Common.{◌≡◌, ℕ, suc, ◌+◌, ◌-◌, ◌*◌, ◌^◌, ◌<◌, ◌≤◌, List, length, take, drop, sym, ◌∙◌, ap, arith, length-take, length-drop}
use native.Mathlib.Nat.{pow-suc}
use Rattle.std.specs.Prelude.{◌/◌}
use Rattle.std.proofs.lemmas.List.{drop-drop, drop-take, take-take, take_all}
use Rattle.std.proofs.lemmas.Nat.{div-mul-add, pow_pos}
use Rattle.sia_merkle.specs.Roots.{node_digest, tree_root}
use Rattle.sia_merkle.specs.Segments.{segment_root}
use Rattle.sia_merkle.proofs.Trees.{tree_root-low, tree_root-split}

pub drop_taken : {X : Type 0} (first count : ℕ) (xs : List X) → first ≤ count → drop first (take count xs) ≡ take (count - first) (drop first xs)
drop_taken first count xs fits =
    let split : count ≡ first + (count - first) = omega arith in
    ap (λ n. drop first (take n xs)) split ∙ drop-take first (count - first) xs

pub mul_div : (index width : ℕ) → 0 < width → index * width / width ≡ index
mul_div index width some =
    let same : index * width ≡ index * width + 0 = omega arith in
    ap (λ n. n / width) same ∙ div-mul-add index width 0 some

-- the root over the places from low on, by its two parts
pub root_low : (hashes : List (List ℕ)) (height low : ℕ) → length hashes ≤ low + 2 ^ height → tree_root (suc height) (take (2 ^ suc height) (drop low hashes)) ≡ tree_root height (take (2 ^ height) (drop low hashes))
root_low hashes height low past =
    let up : 2 ^ suc height ≡ 2 ^ height * 2 = pow-suc 2 height in
    let rest : length (drop low hashes) ≤ 2 ^ height = omega (arith, length-drop low hashes) in
    let rest_wide : length (drop low hashes) ≤ 2 ^ suc height = omega arith in
    let same : take (2 ^ suc height) (drop low hashes) ≡ take (2 ^ height) (drop low hashes) = take_all (2 ^ suc height) (drop low hashes) rest_wide ∙ sym (take_all (2 ^ height) (drop low hashes) rest) in
    let fits : length (take (2 ^ height) (drop low hashes)) ≤ 2 ^ height = omega (arith, length-take (2 ^ height) (drop low hashes)) in
    ap (tree_root (suc height)) same ∙ tree_root-low height (take (2 ^ height) (drop low hashes)) fits

pub root_node : (hashes : List (List ℕ)) (height low : ℕ) → low + 2 ^ height < length hashes
    → tree_root (suc height) (take (2 ^ suc height) (drop low hashes)) ≡ node_digest (tree_root height (take (2 ^ height) (drop low hashes))) (tree_root height (take (2 ^ height) (drop (low + 2 ^ height) hashes)))
root_node hashes height low above =
    let up : 2 ^ suc height ≡ 2 ^ height * 2 = pow-suc 2 height in
    let long : 2 ^ height < length (take (2 ^ suc height) (drop low hashes)) = omega (arith, length-take (2 ^ suc height) (drop low hashes), length-drop low hashes, pow_pos height) in
    let first : take (2 ^ height) (take (2 ^ suc height) (drop low hashes)) ≡ take (2 ^ height) (drop low hashes) = take-take (2 ^ height) (2 ^ suc height) (drop low hashes) (omega arith) in
    let left_over : 2 ^ suc height - 2 ^ height ≡ 2 ^ height = omega arith in
    let second : drop (2 ^ height) (take (2 ^ suc height) (drop low hashes)) ≡ take (2 ^ height) (drop (low + 2 ^ height) hashes) =
    drop_taken (2 ^ height) (2 ^ suc height) (drop low hashes) (omega arith) ∙ ap (λ n. take n (drop (2 ^ height) (drop low hashes))) left_over ∙ ap (take (2 ^ height)) (drop-drop (2 ^ height) low hashes) in
    tree_root-split height (take (2 ^ suc height) (drop low hashes)) long ∙ ap (λ xs. node_digest (tree_root height xs) (tree_root height (drop (2 ^ height) (take (2 ^ suc height) (drop low hashes))))) first
    ∙ ap (λ xs. node_digest (tree_root height (take (2 ^ height) (drop low hashes))) (tree_root height xs)) second

-- the root of a segment that is given by its first place
pub root_at : (hashes : List (List ℕ)) (height low index : ℕ) → low ≡ index * 2 ^ height → segment_root hashes height (low / 2 ^ height) ≡ tree_root height (take (2 ^ height) (drop low hashes))
root_at hashes height low index aligned =
    let back : low / 2 ^ height * 2 ^ height ≡ low = ap (λ n. n / 2 ^ height * 2 ^ height) aligned ∙ ap (λ n. n * 2 ^ height) (mul_div index (2 ^ height) (pow_pos height)) ∙ sym aligned in
    ap (λ n. tree_root height (take (2 ^ height) (drop n hashes))) back

-- where the halves of an aligned part stand
pub left_aligned : (low height index : ℕ) → low ≡ index * 2 ^ suc height → low ≡ index * 2 * 2 ^ height
left_aligned low height index aligned =
    let turned : index * (2 ^ height * 2) ≡ index * 2 * 2 ^ height = omega arith in
    aligned ∙ ap (λ n. index * n) (pow-suc 2 height) ∙ turned

pub right_aligned : (low height index : ℕ) → low ≡ index * 2 ^ suc height → low + 2 ^ height ≡ (index * 2 + 1) * 2 ^ height
right_aligned low height index aligned =
    let part : low ≡ index * 2 * 2 ^ height = left_aligned low height index aligned in
    omega arith

pub first_half : (low height lower index : ℕ) → height ≡ suc lower → low ≡ index * 2 ^ height → low ≡ index * 2 * 2 ^ lower
first_half low height lower index up aligned = left_aligned low lower index (aligned ∙ ap (λ h. index * 2 ^ h) up)

pub second_half : (low height lower index next : ℕ) → height ≡ suc lower → low ≡ index * 2 ^ height → next ≡ low + 2 ^ lower → next ≡ (index * 2 + 1) * 2 ^ lower
second_half low height lower index next up aligned there = there ∙ right_aligned low lower index (aligned ∙ ap (λ h. index * 2 ^ h) up)
