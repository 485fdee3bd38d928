-- Laws of the root of a tree: it does not depend on the height that it is tried from, and it is a node over the two
-- parts.
use Rattle.std.proofs.Common.{◌≡◌, ℕ, zero, suc, ◌+◌, ◌^◌, ◌<◌, ◌≤◌, List, length, take, drop, refl, sym, ◌∙◌, ap, arith, suc-add, zero-add, length-take, length-drop}
use native.Mathlib.Nat.{pow-suc}
use Rattle.std.proofs.lemmas.Bool.{le-leb, lt-leb, ltb-true, ltb-false}
use Rattle.std.specs.Prelude.{Bool, true, false, nat_lt, ◌-◌, ◌*◌}
use Rattle.sia_merkle.specs.Segments.{segment_root}
use Rattle.sia_merkle.specs.Roots.{node_digest, tree_root, node_root_of}

pub lt_pow : (n : ℕ) → n < 2 ^ n
lt_pow zero = omega arith
lt_pow (suc n) = omega (arith, pow-suc 2 n, lt_pow n)

-- a tree that fits a lower height
pub tree_root-low : (height : ℕ) (hashes : List (List ℕ)) → length hashes ≤ 2 ^ height → tree_root (suc height) hashes ≡ tree_root height hashes
unfolding tree_root
tree_root-low height hashes fits = rw (le-leb _ _ fits) refl

-- a tree that does not
pub tree_root-split : (height : ℕ) (hashes : List (List ℕ)) → 2 ^ height < length hashes
    → tree_root (suc height) hashes ≡ node_digest (tree_root height (take (2 ^ height) hashes)) (tree_root height (drop (2 ^ height) hashes))
unfolding tree_root
tree_root-split height hashes above = rw (lt-leb _ _ above) refl

pub pow_up : (more height : ℕ) → 2 ^ height ≤ 2 ^ (more + height)
pow_up zero height = rw zero-add (omega arith)
pow_up (suc more) height = rw suc-add (omega (arith, pow-suc 2 (more + height), pow_up more height))

tree_root-add : (more height : ℕ) (hashes : List (List ℕ)) → length hashes ≤ 2 ^ height → tree_root (more + height) hashes ≡ tree_root height hashes
tree_root-add zero height hashes fits = rw zero-add refl
tree_root-add (suc more) height hashes fits =
    let up : 2 ^ height ≤ 2 ^ (more + height) = pow_up more height in
    let low : length hashes ≤ 2 ^ (more + height) = omega arith in
    rw suc-add (tree_root-low (more + height) hashes low ∙ tree_root-add more height hashes fits)

-- any two heights that the hashes fit give one root
pub tree_root-same : (height other : ℕ) (hashes : List (List ℕ)) → length hashes ≤ 2 ^ height → length hashes ≤ 2 ^ other → tree_root height hashes ≡ tree_root other hashes
tree_root-same height other hashes fits fits_other =
    let there : tree_root (other + height) hashes ≡ tree_root height hashes = tree_root-add other height hashes fits in
    let here : tree_root (height + other) hashes ≡ tree_root other hashes = tree_root-add height other hashes fits_other in
    let swapped : height + other ≡ other + height = omega arith in
    sym there ∙ ap (λ h. tree_root h hashes) (sym swapped) ∙ here

pub node_root_of-at : (height : ℕ) (hashes : List (List ℕ)) → length hashes ≤ 2 ^ height → node_root_of hashes ≡ tree_root height hashes
unfolding node_root_of
node_root_of-at height hashes fits = tree_root-same (length hashes) height hashes (omega (arith, lt_pow (length hashes))) fits

-- the sentence of the whitepaper: above one hash, the root is the node over the split at the largest power of two below
-- their number
pub node_root_of-split : (height : ℕ) (hashes : List (List ℕ)) → 2 ^ height < length hashes → length hashes ≤ 2 ^ suc height
    → node_root_of hashes ≡ node_digest (node_root_of (take (2 ^ height) hashes)) (node_root_of (drop (2 ^ height) hashes))
node_root_of-split height hashes above within =
    let left : length (take (2 ^ height) hashes) ≤ 2 ^ height = omega (arith, length-take (2 ^ height) hashes) in
    let right : length (drop (2 ^ height) hashes) ≤ 2 ^ height = omega (arith, length-drop (2 ^ height) hashes, pow-suc 2 height) in
    node_root_of-at (suc height) hashes within ∙ tree_root-split height hashes above
    ∙ sym (ap (λ x. node_digest x (node_root_of (drop (2 ^ height) hashes))) (node_root_of-at height _ left) ∙ ap (λ y. node_digest (tree_root height (take (2 ^ height) hashes)) y) (node_root_of-at height _ right))

low_by : (level : ℕ) (low : Bool) → nat_lt level 64 ≡ low → 2 ^ level < 2 ^ 64 → level < 64
low_by level true e wide = ltb-true level 64 e
low_by level false e wide =
    let high : 64 ≤ level = ltb-false level 64 e in
    let parts : level - 64 + 64 ≡ level = omega arith in
    absurd (omega (arith, pow_up (level - 64) 64, ap (λ n. 2 ^ n) parts))

-- the level of a segment of fewer than 2 ^ 64 hashes
pub low_level : (level index count : ℕ) → (index + 1) * 2 ^ level ≤ count → count < 2 ^ 64 → level < 64
low_level level index count within short =
    let product : (index + 1) * 2 ^ level ≡ index * 2 ^ level + 2 ^ level = omega arith in
    let wide : 2 ^ level < 2 ^ 64 = omega arith in
    low_by level (nat_lt level 64) refl wide

-- the root over a segment
pub segment_root-is : (hashes segment : List (List ℕ)) (level index : ℕ) → segment ≡ take (2 ^ level) (drop (index * 2 ^ level) hashes) → node_root_of segment ≡ segment_root hashes level index
segment_root-is hashes segment level index is =
    let fits : length (take (2 ^ level) (drop (index * 2 ^ level) hashes)) ≤ 2 ^ level = omega (arith, length-take (2 ^ level) (drop (index * 2 ^ level) hashes)) in
    ap node_root_of is ∙ node_root_of-at level (take (2 ^ level) (drop (index * 2 ^ level) hashes)) fits
