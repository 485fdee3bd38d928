-- The root over hashes is the root over those of any level above them.
use Rattle.std.proofs.Common.{◌≡◌, ℕ, zero, suc, ◌+◌, ◌*◌, ◌^◌, ◌/◌, ◌<◌, ◌≤◌, List, [], ◌∷◌, ◌++◌, length, take, drop, refl, sym, ◌∙◌, ap, ap₂, arith, length-take, length-drop}
use native.Mathlib.Nat.{pow-suc}
use Rattle.std.specs.Prelude.{Bool, true, false, nat_le}
use Rattle.std.proofs.Math.Seq.{take-add}
use Rattle.std.proofs.lemmas.Bool.{leb-true, leb-false}
use Rattle.std.proofs.lemmas.List.{take-append-drop, length-take-le, drop_at, take_at, take_all}
use Rattle.sia_merkle.specs.Levels.{pairs, levels_up}
use Rattle.sia_merkle.specs.Roots.{node_digest, tree_root, node_root_of}
use Rattle.sia_merkle.proofs.Trees.{lt_pow, tree_root-low, tree_root-split, node_root_of-at}

-- behind an even number of hashes the pairs begin anew
pub pairs-append : (count : ℕ) (front back : List (List ℕ)) → length front ≡ count * 2 → pairs (front ++ back) ≡ pairs front ++ pairs back
unfolding pairs
pairs-append count [] back is = refl
pairs-append count (hash ∷ []) back is = absurd (omega arith)
pairs-append zero (left ∷ right ∷ front) back is = absurd (omega arith)
pairs-append (suc count) (left ∷ right ∷ front) back is = ap (λ above. node_digest left right ∷ above) (pairs-append count front back (omega arith))

pub length-pairs : (hashes : List (List ℕ)) → length (pairs hashes) ≡ (length hashes + 1) / 2
unfolding pairs
length-pairs [] = refl
length-pairs (hash ∷ []) = refl
length-pairs (left ∷ right ∷ hashes) = omega (arith, length-pairs hashes)

pairs_cut : (count : ℕ) (hashes : List (List ℕ)) → count * 2 ≤ length hashes → pairs hashes ≡ pairs (take (count * 2) hashes) ++ pairs (drop (count * 2) hashes)
pairs_cut count hashes within =
    ap pairs (sym (take-append-drop (count * 2) hashes)) ∙ pairs-append count (take (count * 2) hashes) (drop (count * 2) hashes) (length-take-le (count * 2) hashes within)

length_cut : (count : ℕ) (hashes : List (List ℕ)) → count * 2 ≤ length hashes → length (pairs (take (count * 2) hashes)) ≡ count
length_cut count hashes within = omega (arith, length-pairs (take (count * 2) hashes), length-take-le (count * 2) hashes within)

pub pairs-take : (count : ℕ) (hashes : List (List ℕ)) → count * 2 ≤ length hashes → pairs (take (count * 2) hashes) ≡ take count (pairs hashes)
pairs-take count hashes within =
    sym (ap (take count) (pairs_cut count hashes within) ∙ take_at (pairs (take (count * 2) hashes)) (pairs (drop (count * 2) hashes)) count (length_cut count hashes within))

pub pairs-drop : (count : ℕ) (hashes : List (List ℕ)) → count * 2 ≤ length hashes → pairs (drop (count * 2) hashes) ≡ drop count (pairs hashes)
pairs-drop count hashes within =
    sym (ap (drop count) (pairs_cut count hashes within) ∙ drop_at (pairs (take (count * 2) hashes)) (pairs (drop (count * 2) hashes)) count (length_cut count hashes within))

raised_by : (height : ℕ) (hashes : List (List ℕ)) (low : Bool) → nat_le (length hashes) (2 ^ suc height) ≡ low
    → ((part : List (List ℕ)) → tree_root (suc height) part ≡ tree_root height (pairs part))
    → tree_root (suc (suc height)) hashes ≡ tree_root (suc height) (pairs hashes)
raised_by height hashes true e below =
    let fits : length hashes ≤ 2 ^ suc height = leb-true (length hashes) (2 ^ suc height) e in
    let halved : length (pairs hashes) ≤ 2 ^ height = omega (arith, length-pairs hashes, pow-suc 2 height) in
    tree_root-low (suc height) hashes fits ∙ below hashes ∙ sym (tree_root-low height (pairs hashes) halved)
raised_by height hashes false e below =
    let above : 2 ^ suc height < length hashes = leb-false (length hashes) (2 ^ suc height) e in
    let twice : 2 ^ suc height ≡ 2 ^ height * 2 = pow-suc 2 height in
    let within : 2 ^ height * 2 ≤ length hashes = omega arith in
    let halved : 2 ^ height < length (pairs hashes) = omega (arith, length-pairs hashes) in
    tree_root-split (suc height) hashes above
    ∙ ap₂ node_digest
    (below (take (2 ^ suc height) hashes) ∙ ap (λ n. tree_root height (pairs (take n hashes))) twice ∙ ap (tree_root height) (pairs-take (2 ^ height) hashes within))
    (below (drop (2 ^ suc height) hashes) ∙ ap (λ n. tree_root height (pairs (drop n hashes))) twice ∙ ap (tree_root height) (pairs-drop (2 ^ height) hashes within))
    ∙ sym (tree_root-split height (pairs hashes) halved)

-- the root is that of the level above
pub tree_root-pairs : (height : ℕ) (hashes : List (List ℕ)) → tree_root (suc height) hashes ≡ tree_root height (pairs hashes)
unfolding pairs tree_root
tree_root-pairs zero [] = refl
tree_root-pairs zero (hash ∷ []) = refl
tree_root-pairs zero (left ∷ right ∷ hashes) = tree_root-split 0 (left ∷ right ∷ hashes) (omega arith)
tree_root-pairs (suc height) hashes = raised_by height hashes (nat_le (length hashes) (2 ^ suc height)) refl (λ part. tree_root-pairs height part)

pub node_root_of-pairs : (hashes : List (List ℕ)) → node_root_of (pairs hashes) ≡ node_root_of hashes
node_root_of-pairs hashes =
    let fits : length hashes ≤ 2 ^ suc (length hashes) = omega (arith, lt_pow (suc (length hashes))) in
    let halved : length (pairs hashes) ≤ 2 ^ length hashes = omega (arith, length-pairs hashes, lt_pow (length hashes)) in
    sym (node_root_of-at (suc (length hashes)) hashes fits ∙ tree_root-pairs (length hashes) hashes ∙ sym (node_root_of-at (length hashes) (pairs hashes) halved))

-- and that of each level above it
pub node_root_of-up : (height : ℕ) (hashes : List (List ℕ)) → node_root_of (levels_up height hashes) ≡ node_root_of hashes
unfolding levels_up
node_root_of-up zero hashes = refl
node_root_of-up (suc height) hashes = node_root_of-up height (pairs hashes) ∙ node_root_of-pairs hashes

halves : (height count : ℕ) (hashes : List (List ℕ)) → length hashes ≡ count * 2 ^ suc height → length hashes ≡ count * 2 ^ height * 2
halves height count hashes is = is ∙ ap (λ p. count * p) (pow-suc 2 height) ∙ (omega arith)

-- behind whole subtrees of a height, that level begins anew
pub up-append : (height count : ℕ) (front back : List (List ℕ)) → length front ≡ count * 2 ^ height → levels_up height (front ++ back) ≡ levels_up height front ++ levels_up height back
unfolding levels_up
up-append zero count front back is = refl
up-append (suc height) count front back is =
    let whole : length front ≡ count * 2 ^ height * 2 = halves height count front is in
    ap (levels_up height) (pairs-append (count * 2 ^ height) front back whole)
    ∙ up-append height count (pairs front) (pairs back) (omega (arith, length-pairs front))

pub length-up : (height count : ℕ) (hashes : List (List ℕ)) → length hashes ≡ count * 2 ^ height → length (levels_up height hashes) ≡ count
unfolding levels_up
length-up zero count hashes is = omega arith
length-up (suc height) count hashes is =
    let whole : length hashes ≡ count * 2 ^ height * 2 = halves height count hashes is in
    length-up height count (pairs hashes) (omega (arith, length-pairs hashes))

-- a tree of at most 2 ^ height hashes has its root alone at that height
pub one_up : (height : ℕ) (hashes : List (List ℕ)) → 0 < length hashes → length hashes ≤ 2 ^ height → levels_up height hashes ≡ node_root_of hashes ∷ []
unfolding levels_up tree_root node_root_of
one_up zero [] some fits = absurd (omega arith)
one_up zero (hash ∷ []) some fits = refl
one_up zero (hash ∷ other ∷ hashes) some fits = absurd (omega arith)
one_up (suc height) hashes some fits =
    let halved : length (pairs hashes) ≤ 2 ^ height = omega (arith, length-pairs hashes, pow-suc 2 height) in
    one_up height (pairs hashes) (omega (arith, length-pairs hashes)) halved ∙ ap (λ root. root ∷ []) (node_root_of-pairs hashes)

-- the level with one more subtree, the last of which may lack hashes
pub up_more : (height place : ℕ) (hashes : List (List ℕ)) → place * 2 ^ height < length hashes
    → levels_up height (take ((place + 1) * 2 ^ height) hashes) ≡ levels_up height (take (place * 2 ^ height) hashes) ++ node_root_of (take (2 ^ height) (drop (place * 2 ^ height) hashes)) ∷ []
up_more height place hashes within =
    let more : (place + 1) * 2 ^ height ≡ place * 2 ^ height + 2 ^ height = omega arith in
    let some : 0 < 2 ^ height = omega (arith, lt_pow height) in
    let before : length (take (place * 2 ^ height) hashes) ≡ place * 2 ^ height = length-take-le (place * 2 ^ height) hashes (omega arith) in
    let last : 0 < length (take (2 ^ height) (drop (place * 2 ^ height) hashes)) = omega (arith, length-take (2 ^ height) (drop (place * 2 ^ height) hashes), length-drop (place * 2 ^ height) hashes) in
    let fits : length (take (2 ^ height) (drop (place * 2 ^ height) hashes)) ≤ 2 ^ height = omega (arith, length-take (2 ^ height) (drop (place * 2 ^ height) hashes)) in
    ap (λ n. levels_up height (take n hashes)) more ∙ ap (levels_up height) (take-add (place * 2 ^ height) (2 ^ height) hashes)
    ∙ up-append height place (take (place * 2 ^ height) hashes) _ before
    ∙ ap (λ above. levels_up height (take (place * 2 ^ height) hashes) ++ above) (one_up height (take (2 ^ height) (drop (place * 2 ^ height) hashes)) last fits)

pub up_all : (height count : ℕ) (hashes : List (List ℕ)) → length hashes ≤ count * 2 ^ height → node_root_of (levels_up height (take (count * 2 ^ height) hashes)) ≡ node_root_of hashes
up_all height count hashes fits = node_root_of-up height (take (count * 2 ^ height) hashes) ∙ ap node_root_of (take_all (count * 2 ^ height) hashes fits)
