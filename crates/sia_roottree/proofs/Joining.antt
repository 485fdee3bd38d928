-- The root is joined from the largest subtrees, from the right.
use Rattle.std.proofs.Common.{◌≡◌, ℕ, ◌+◌, ◌-◌, ◌*◌, ◌^◌, ◌/◌, ◌%◌, ◌<◌, ◌≤◌, List, [], length, map, take, drop, get_or, refl, sym, subst, ◌∙◌, ap, arith, Option, None, Some, replicate, unwrap_or}
use Rattle.std.specs.List.{range_with_len}
use Rattle.std.proofs.lemmas.List.FromFn.{get_or-map-range_with_len}
use Rattle.std.proofs.lemmas.Nat.{shr_split}
use Rattle.sia_merkle.specs.Roots.{tree_root, node_root_of}
use Rattle.sia_merkle.specs.Segments.{segment_root}
use Rattle.sia_merkle.specs.Stacked.{IsRest, over_rest, under}
use Rattle.sia_roottree.specs.KeptNodes.{AreKept, kept_root}
use Rattle.sia_merkle.proofs.Stacks.{half_of, rest_even, rest_odd}
use Rattle.sia_merkle.proofs.Trees.{node_root_of-at}

-- the roots of the largest subtrees, by their heights
peaks : List (List ℕ) → List (List ℕ)
peaks hashes = map (λ height. tree_root height (under height hashes)) (range_with_len 0 64)

peak_at : (hashes : List (List ℕ)) (height : ℕ) → height < 64 → get_or (peaks hashes) height [] ≡ tree_root height (under height hashes)
unfolding peaks
peak_at hashes height low = get_or-map-range_with_len (λ (h : ℕ). tree_root h (under h hashes)) 0 64 height height [] low (omega arith)

-- the last whole segment of a height ends inside
last_within : (count whole level : ℕ) → whole ≡ count / 2 ^ level → whole % 2 ≡ 1 → (whole - 1 + 1) * 2 ^ level ≤ count
last_within count whole level is odd =
    let more : whole - 1 + 1 ≡ whole = omega arith in
    let product : (whole - 1 + 1) * 2 ^ level ≡ count / 2 ^ level * 2 ^ level = ap (λ w. w * 2 ^ level) (more ∙ is) in
    omega (arith, product, shr_split count level)

-- a power of two that the number of hashes has
pub joined_odd : (root : Option (List ℕ)) (hashes nodes : List (List ℕ)) (subtree : List ℕ) (level count : ℕ) → AreKept hashes nodes → level < 64 → count ≡ length hashes / 2 ^ level → count % 2 ≡ 1
    → subtree ≡ kept_root hashes nodes level (count - 1) → IsRest root level (drop (length hashes / 2 ^ level * 2 ^ level) hashes)
    → IsRest (Some (over_rest subtree root)) (level + 1) (drop (length hashes / 2 ^ (level + 1) * 2 ^ (level + 1)) hashes)
joined_odd root hashes nodes subtree level count kept low is odd found was =
    let made : subtree ≡ segment_root hashes level (count - 1) = found ∙ kept level (count - 1) (last_within (length hashes) count level is odd) in
    let half : count / 2 ≡ length hashes / 2 ^ (level + 1) = ap (λ c. c / 2) is ∙ half_of (length hashes) level in
    let slot : subtree ≡ get_or (peaks hashes) level [] = made ∙ (ap (λ c. tree_root level (take (2 ^ level) (drop ((c - 1) * 2 ^ level) hashes))) is ∙ sym (peak_at hashes level low)) in
    subst (λ (c : ℕ). IsRest (Some (over_rest subtree root)) (level + 1) (drop (c * 2 ^ (level + 1)) hashes)) half
    (rest_odd root (peaks hashes) hashes subtree level count (record { kept = λ height below odd. peak_at hashes height below }) low slot is odd
    (subst (λ (c : ℕ). IsRest root level (drop (c * 2 ^ level) hashes)) (sym is) was))

-- and one that it lacks
pub joined_even : (root : Option (List ℕ)) (hashes : List (List ℕ)) (level count : ℕ) → count ≡ length hashes / 2 ^ level → count % 2 ≡ 0
    → IsRest root level (drop (length hashes / 2 ^ level * 2 ^ level) hashes) → IsRest root (level + 1) (drop (length hashes / 2 ^ (level + 1) * 2 ^ (level + 1)) hashes)
joined_even root hashes level count is even was =
    let half : count / 2 ≡ length hashes / 2 ^ (level + 1) = ap (λ c. c / 2) is ∙ half_of (length hashes) level in
    subst (λ (c : ℕ). IsRest root (level + 1) (drop (c * 2 ^ (level + 1)) hashes)) half
    (rest_even root hashes level count is even (subst (λ (c : ℕ). IsRest root level (drop (c * 2 ^ level) hashes)) (sym is) was))

root_of_rest : (root : Option (List ℕ)) (height : ℕ) (hashes : List (List ℕ)) → length hashes ≤ 2 ^ height → IsRest root height hashes → unwrap_or root (replicate 32 0) ≡ node_root_of hashes
unfolding tree_root node_root_of
root_of_rest None height hashes fits was = rw was refl
root_of_rest (Some root) height hashes fits was = was.1 ∙ sym (node_root_of-at height hashes fits)

-- all powers are joined
pub joined_all : (root : Option (List ℕ)) (hashes : List (List ℕ)) (level : ℕ) → length hashes ≤ 65536 → level ≡ 17
    → IsRest root level (drop (length hashes / 2 ^ level * 2 ^ level) hashes) → unwrap_or root (replicate 32 0) ≡ node_root_of hashes
joined_all root hashes level few is was =
    let was' : IsRest root 17 (drop (length hashes / 2 ^ 17 * 2 ^ 17) hashes) = subst (λ (l : ℕ). IsRest root l (drop (length hashes / 2 ^ l * 2 ^ l) hashes)) is was in
    let none : length hashes / 2 ^ 17 * 2 ^ 17 ≡ 0 = omega arith in
    root_of_rest root 17 hashes (omega arith) (subst (λ (a : ℕ). IsRest root 17 (drop a hashes)) none was')
