-- The hashes beside a path, part by part.
use Rattle.std.proofs.Common.{◌≡◌, ℕ, zero, suc, ◌+◌, ◌-◌, ◌*◌, ◌^◌, ◌<◌, ◌≤◌, List, [], ◌∷◌, ◌++◌, length, map, take, drop, refl, sym, ◌∙◌, ap, arith, min, suc-add, zero-add, append_assoc, append-nil, length-take, length-drop}
use native.Mathlib.Nat.{pow-suc}
use Rattle.std.proofs.lemmas.Bool.{le-leb, lt-leb, lt-ltb, le-ltb}
use Rattle.sia_merkle.specs.Paths.{hashes_beside, leaf_proof}
use Rattle.sia_merkle.specs.Roots.{leaf_count, leaf_digest, leaves_of, root_of, tree_root}
use Rattle.sia_merkle.proofs.Cuts.{hashes-take, hashes-drop, length-leaf_hashes}
use Rattle.sia_merkle.proofs.Trees.{lt_pow, pow_up, node_root_of-at}

pub beside-low : (height : ℕ) (hashes : List (List ℕ)) (place : ℕ) → length hashes ≤ 2 ^ height → hashes_beside (suc height) hashes place ≡ hashes_beside height hashes place
unfolding hashes_beside
beside-low height hashes place fits = rw (le-leb _ _ fits) refl

pub beside-left : (height : ℕ) (hashes : List (List ℕ)) (place : ℕ) → 2 ^ height < length hashes → place < 2 ^ height
    → hashes_beside (suc height) hashes place ≡ hashes_beside height (take (2 ^ height) hashes) place ++ tree_root height (drop (2 ^ height) hashes) ∷ []
unfolding hashes_beside
beside-left height hashes place above left = rw (lt-leb _ _ above, lt-ltb _ _ left) refl

pub beside-right : (height : ℕ) (hashes : List (List ℕ)) (place : ℕ) → 2 ^ height < length hashes → 2 ^ height ≤ place
    → hashes_beside (suc height) hashes place ≡ hashes_beside height (drop (2 ^ height) hashes) (place - 2 ^ height) ++ tree_root height (take (2 ^ height) hashes) ∷ []
unfolding hashes_beside
beside-right height hashes place above right = rw (lt-leb _ _ above, le-ltb _ _ right) refl

pub beside_none : (out hashes : List (List ℕ)) (height place : ℕ) → height ≡ 0 → out ≡ out ++ hashes_beside height hashes place
unfolding hashes_beside
beside_none out hashes height place is = rw is (sym (append-nil out))

pub beside_low : (height lower : ℕ) (bytes : List ℕ) (place : ℕ) → height ≡ suc lower → leaf_count (length bytes) ≤ 2 ^ lower
    → hashes_beside height (map leaf_digest (leaves_of bytes)) place ≡ hashes_beside lower (map leaf_digest (leaves_of bytes)) place
beside_low height lower bytes place is fits =
    let short : length (map leaf_digest (leaves_of bytes)) ≤ 2 ^ lower = omega (arith, length-leaf_hashes bytes) in
    ap (λ h. hashes_beside h (map leaf_digest (leaves_of bytes)) place) is ∙ beside-low lower (map leaf_digest (leaves_of bytes)) place short

-- the count of a right part
pub right_fits : (height lower : ℕ) (bytes right : List ℕ) → height ≡ suc lower → leaf_count (length bytes) ≤ 2 ^ height → 2 ^ lower < leaf_count (length bytes)
    → right ≡ drop (2 ^ lower * 64) bytes → leaf_count (length right) ≤ 2 ^ lower
right_fits height lower bytes right is fits above right_is =
    let turned : 2 ^ height ≡ 2 ^ lower * 2 = ap (λ h. 2 ^ h) is ∙ pow-suc 2 lower in
    let long : length right ≡ length bytes - 2 ^ lower * 64 = ap length right_is ∙ length-drop (2 ^ lower * 64) bytes in
    omega arith

pub left_fits : (lower : ℕ) (bytes left : List ℕ) → left ≡ take (2 ^ lower * 64) bytes → leaf_count (length left) ≤ 2 ^ lower
left_fits lower bytes left left_is =
    let short : length left ≡ min (2 ^ lower * 64) (length bytes) = ap length left_is ∙ length-take (2 ^ lower * 64) bytes in
    omega arith

pub appended_left : (out now : List (List ℕ)) (root : List ℕ) (bytes left right : List ℕ) (height lower place : ℕ)
    → height ≡ suc lower → leaf_count (length bytes) ≤ 2 ^ height → 2 ^ lower < leaf_count (length bytes) → place < 2 ^ lower
    → left ≡ take (2 ^ lower * 64) bytes → right ≡ drop (2 ^ lower * 64) bytes
    → now ≡ out ++ hashes_beside lower (map leaf_digest (leaves_of left)) place → root ≡ root_of (leaves_of right)
    → now ++ root ∷ [] ≡ out ++ hashes_beside height (map leaf_digest (leaves_of bytes)) place
appended_left out now root bytes left right height lower place is fits above at left_is right_is was made =
    let turned : 2 ^ lower * 64 ≡ 64 * 2 ^ lower = omega arith in
    let lefts : map leaf_digest (leaves_of left) ≡ take (2 ^ lower) (map leaf_digest (leaves_of bytes)) =
    ap (λ b. map leaf_digest (leaves_of b)) (left_is ∙ ap (λ n. take n bytes) turned) ∙ hashes-take bytes (2 ^ lower) above in
    let rights : map leaf_digest (leaves_of right) ≡ drop (2 ^ lower) (map leaf_digest (leaves_of bytes)) =
    ap (λ b. map leaf_digest (leaves_of b)) (right_is ∙ ap (λ n. drop n bytes) turned) ∙ hashes-drop bytes (2 ^ lower) above in
    let right_low : length (map leaf_digest (leaves_of right)) ≤ 2 ^ lower = omega (arith, length-leaf_hashes right, right_fits height lower bytes right is fits above right_is) in
    let top : root ≡ tree_root lower (drop (2 ^ lower) (map leaf_digest (leaves_of bytes))) = made ∙ node_root_of-at lower (map leaf_digest (leaves_of right)) right_low ∙ ap (tree_root lower) rights in
    let whole : 2 ^ lower < length (map leaf_digest (leaves_of bytes)) = omega (arith, length-leaf_hashes bytes) in
    ap (λ xs. xs ++ root ∷ []) (was ∙ ap (λ hs. out ++ hashes_beside lower hs place) lefts)
    ∙ append_assoc out (hashes_beside lower (take (2 ^ lower) (map leaf_digest (leaves_of bytes))) place) (root ∷ [])
    ∙ ap (λ r. out ++ (hashes_beside lower (take (2 ^ lower) (map leaf_digest (leaves_of bytes))) place ++ r ∷ [])) top
    ∙ ap (λ xs. out ++ xs) (sym (ap (λ h. hashes_beside h (map leaf_digest (leaves_of bytes)) place) is ∙ beside-left lower (map leaf_digest (leaves_of bytes)) place whole at))

pub appended_right : (out now : List (List ℕ)) (root : List ℕ) (bytes left right : List ℕ) (height lower place : ℕ)
    → height ≡ suc lower → leaf_count (length bytes) ≤ 2 ^ height → 2 ^ lower < leaf_count (length bytes) → 2 ^ lower ≤ place
    → left ≡ take (2 ^ lower * 64) bytes → right ≡ drop (2 ^ lower * 64) bytes
    → now ≡ out ++ hashes_beside lower (map leaf_digest (leaves_of right)) (place - 2 ^ lower) → root ≡ root_of (leaves_of left)
    → now ++ root ∷ [] ≡ out ++ hashes_beside height (map leaf_digest (leaves_of bytes)) place
appended_right out now root bytes left right height lower place is fits above at left_is right_is was made =
    let turned : 2 ^ lower * 64 ≡ 64 * 2 ^ lower = omega arith in
    let lefts : map leaf_digest (leaves_of left) ≡ take (2 ^ lower) (map leaf_digest (leaves_of bytes)) =
    ap (λ b. map leaf_digest (leaves_of b)) (left_is ∙ ap (λ n. take n bytes) turned) ∙ hashes-take bytes (2 ^ lower) above in
    let rights : map leaf_digest (leaves_of right) ≡ drop (2 ^ lower) (map leaf_digest (leaves_of bytes)) =
    ap (λ b. map leaf_digest (leaves_of b)) (right_is ∙ ap (λ n. drop n bytes) turned) ∙ hashes-drop bytes (2 ^ lower) above in
    let left_low : length (map leaf_digest (leaves_of left)) ≤ 2 ^ lower = omega (arith, length-leaf_hashes left, left_fits lower bytes left left_is) in
    let top : root ≡ tree_root lower (take (2 ^ lower) (map leaf_digest (leaves_of bytes))) = made ∙ node_root_of-at lower (map leaf_digest (leaves_of left)) left_low ∙ ap (tree_root lower) lefts in
    let whole : 2 ^ lower < length (map leaf_digest (leaves_of bytes)) = omega (arith, length-leaf_hashes bytes) in
    ap (λ xs. xs ++ root ∷ []) (was ∙ ap (λ hs. out ++ hashes_beside lower hs (place - 2 ^ lower)) rights)
    ∙ append_assoc out (hashes_beside lower (drop (2 ^ lower) (map leaf_digest (leaves_of bytes))) (place - 2 ^ lower)) (root ∷ [])
    ∙ ap (λ r. out ++ (hashes_beside lower (drop (2 ^ lower) (map leaf_digest (leaves_of bytes))) (place - 2 ^ lower) ++ r ∷ [])) top
    ∙ ap (λ xs. out ++ xs) (sym (ap (λ h. hashes_beside h (map leaf_digest (leaves_of bytes)) place) is ∙ beside-right lower (map leaf_digest (leaves_of bytes)) place whole at))

-- any two heights that the hashes fit give one list
beside-add : (more height : ℕ) (hashes : List (List ℕ)) (place : ℕ) → length hashes ≤ 2 ^ height → hashes_beside (more + height) hashes place ≡ hashes_beside height hashes place
beside-add zero height hashes place fits = rw zero-add refl
beside-add (suc more) height hashes place fits =
    let low : length hashes ≤ 2 ^ (more + height) = omega (arith, pow_up more height) in
    rw suc-add (beside-low (more + height) hashes place low ∙ beside-add more height hashes place fits)

pub leaf_proof-at : (height : ℕ) (hashes : List (List ℕ)) (place : ℕ) → length hashes ≤ 2 ^ height → leaf_proof hashes place ≡ hashes_beside height hashes place
unfolding leaf_proof
leaf_proof-at height hashes place fits =
    let swapped : height + length hashes ≡ length hashes + height = omega arith in
    sym (beside-add height (length hashes) hashes place (omega (arith, lt_pow (length hashes)))) ∙ ap (λ h. hashes_beside h hashes place) swapped ∙ beside-add (length hashes) height hashes place fits
