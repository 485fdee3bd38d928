-- The hashes beside a path, in what stands in a list from a place on.
use Rattle.std.proofs.Common.{◌≡◌, ℕ, zero, suc, ◌+◌, ◌-◌, ◌*◌, ◌^◌, ◌<◌, ◌≤◌, List, [], ◌∷◌, ◌++◌, length, take, drop, sym, ◌∙◌, ap, ap₂, arith, length-take, length-drop}
use Rattle.std.specs.Prelude.{◌/◌}
use native.Mathlib.Nat.{pow-suc}
use Rattle.std.proofs.lemmas.List.{drop-drop, take-take, take_all, append_assoc}
use Rattle.std.proofs.lemmas.Nat.{pow_pos}
use Rattle.sia_merkle.specs.Paths.{hashes_beside}
use Rattle.sia_merkle.specs.Roots.{node_digest, tree_root}
use Rattle.sia_merkle.specs.Segments.{segment_root}
use Rattle.sia_merkle.proofs.Beside.{beside-low, beside-left, beside-right}
use Rattle.sia_merkle.proofs.Windows.{drop_taken, root_at, root_low, root_node}

-- the 2 ^ height hashes from low on
abbrev pub window : ℕ → ℕ → List (List ℕ) → List (List ℕ)
window height low hashes = take (2 ^ height) (drop low hashes)

window_low : (height low : ℕ) (hashes : List (List ℕ)) → length hashes ≤ low + 2 ^ height → window (suc height) low hashes ≡ window height low hashes
window_low height low hashes past =
    let up : 2 ^ suc height ≡ 2 ^ height * 2 = pow-suc 2 height in
    let rest : length (drop low hashes) ≤ 2 ^ height = omega (arith, length-drop low hashes) in
    let wide : length (drop low hashes) ≤ 2 ^ suc height = omega arith in
    take_all (2 ^ suc height) (drop low hashes) wide ∙ sym (take_all (2 ^ height) (drop low hashes) rest)

window_left : (height low : ℕ) (hashes : List (List ℕ)) → take (2 ^ height) (window (suc height) low hashes) ≡ window height low hashes
window_left height low hashes = take-take (2 ^ height) (2 ^ suc height) (drop low hashes) (omega (arith, pow-suc 2 height))

window_right : (height low : ℕ) (hashes : List (List ℕ)) → drop (2 ^ height) (window (suc height) low hashes) ≡ window height (low + 2 ^ height) hashes
window_right height low hashes =
    let up : 2 ^ suc height ≡ 2 ^ height * 2 = pow-suc 2 height in
    let left_over : 2 ^ suc height - 2 ^ height ≡ 2 ^ height = omega arith in
    drop_taken (2 ^ height) (2 ^ suc height) (drop low hashes) (omega arith) ∙ ap (λ n. take n (drop (2 ^ height) (drop low hashes))) left_over ∙ ap (take (2 ^ height)) (drop-drop (2 ^ height) low hashes)

window_wide : (height low : ℕ) (hashes : List (List ℕ)) → low + 2 ^ height < length hashes → 2 ^ height < length (window (suc height) low hashes)
window_wide height low hashes above = omega (arith, pow-suc 2 height, pow_pos height, length-take (2 ^ suc height) (drop low hashes), length-drop low hashes)

-- where the second half is missing
pub way_low : (height lower low place : ℕ) (hashes : List (List ℕ)) → height ≡ suc lower → length hashes ≤ low + 2 ^ lower → hashes_beside lower (window lower low hashes) place ≡ hashes_beside height (window height low hashes) place
way_low height lower low place hashes is past =
    sym (ap (λ h. hashes_beside h (window h low hashes) place) is ∙ ap (λ part. hashes_beside (suc lower) part place) (window_low lower low hashes past)
    ∙ beside-low lower (window lower low hashes) place (omega (arith, length-take (2 ^ lower) (drop low hashes))))

-- where the place is in the first half
pub way_left : (height lower low place : ℕ) (hashes : List (List ℕ)) → height ≡ suc lower → low + 2 ^ lower < length hashes → place < 2 ^ lower
    → hashes_beside lower (window lower low hashes) place ++ tree_root lower (window lower (low + 2 ^ lower) hashes) ∷ [] ≡ hashes_beside height (window height low hashes) place
way_left height lower low place hashes is above at =
    sym (ap (λ h. hashes_beside h (window h low hashes) place) is ∙ beside-left lower (window (suc lower) low hashes) place (window_wide lower low hashes above) at
    ∙ ap₂ (λ first second. hashes_beside lower first place ++ tree_root lower second ∷ []) (window_left lower low hashes) (window_right lower low hashes))

-- where it is in the second
pub way_right : (height lower low place : ℕ) (hashes : List (List ℕ)) → height ≡ suc lower → low + 2 ^ lower < length hashes → 2 ^ lower ≤ place
    → hashes_beside lower (window lower (low + 2 ^ lower) hashes) (place - 2 ^ lower) ++ tree_root lower (window lower low hashes) ∷ [] ≡ hashes_beside height (window height low hashes) place
way_right height lower low place hashes is above at =
    sym (ap (λ h. hashes_beside h (window h low hashes) place) is ∙ beside-right lower (window (suc lower) low hashes) place (window_wide lower low hashes above) at
    ∙ ap₂ (λ first second. hashes_beside lower second (place - 2 ^ lower) ++ tree_root lower first ∷ []) (window_left lower low hashes) (window_right lower low hashes))

-- the root over a window: whole, of its first half alone, or of both
pub root_whole : (height low index width : ℕ) (hashes : List (List ℕ)) (root : List ℕ) → low ≡ index * 2 ^ height → width ≡ 2 ^ height → root ≡ segment_root hashes height (low / width) → root ≡ tree_root height (window height low hashes)
root_whole height low index width hashes root aligned wide made = made ∙ ap (λ w. segment_root hashes height (low / w)) wide ∙ root_at hashes height low index aligned

pub root_first : (height lower low : ℕ) (hashes : List (List ℕ)) (root : List ℕ) → height ≡ suc lower → length hashes ≤ low + 2 ^ lower → root ≡ tree_root lower (window lower low hashes) → root ≡ tree_root height (window height low hashes)
root_first height lower low hashes root is past made = made ∙ sym (ap (λ h. tree_root h (window h low hashes)) is ∙ root_low hashes lower low past)

pub root_both : (height lower low next : ℕ) (hashes : List (List ℕ)) (left right root : List ℕ) → height ≡ suc lower → low + 2 ^ lower < length hashes → next ≡ low + 2 ^ lower
    → left ≡ tree_root lower (window lower low hashes) → right ≡ tree_root lower (window lower next hashes) → root ≡ node_digest left right → root ≡ tree_root height (window height low hashes)
root_both height lower low next hashes left right root is above there first second made =
    made ∙ ap₂ node_digest first (second ∙ ap (λ at. tree_root lower (window lower at hashes)) there) ∙ sym (ap (λ h. tree_root h (window h low hashes)) is ∙ root_node hashes lower low above)

-- a hash more beside a path
pub more_left : (height lower low next place : ℕ) (hashes out mid new : List (List ℕ)) (root : List ℕ) → height ≡ suc lower → low + 2 ^ lower < length hashes → next ≡ low + 2 ^ lower → place < 2 ^ lower
    → mid ≡ out ++ hashes_beside lower (window lower low hashes) place → root ≡ tree_root lower (window lower next hashes) → new ≡ mid ++ root ∷ [] → new ≡ out ++ hashes_beside height (window height low hashes) place
more_left height lower low next place hashes out mid new root is above there at was made more =
    more ∙ ap₂ (λ front last. front ++ last ∷ []) was (made ∙ ap (λ from. tree_root lower (window lower from hashes)) there)
    ∙ append_assoc out (hashes_beside lower (window lower low hashes) place) (tree_root lower (window lower (low + 2 ^ lower) hashes) ∷ [])
    ∙ ap (λ all. out ++ all) (way_left height lower low place hashes is above at)

pub more_right : (height lower low next place rest : ℕ) (hashes out mid new : List (List ℕ)) (root : List ℕ) → height ≡ suc lower → low + 2 ^ lower < length hashes → next ≡ low + 2 ^ lower → 2 ^ lower ≤ place
    → rest ≡ place - 2 ^ lower → mid ≡ out ++ hashes_beside lower (window lower next hashes) rest → root ≡ tree_root lower (window lower low hashes) → new ≡ mid ++ root ∷ []
    → new ≡ out ++ hashes_beside height (window height low hashes) place
more_right height lower low next place rest hashes out mid new root is above there at behind was made more =
    more ∙ ap₂ (λ front last. front ++ last ∷ []) (was ∙ ap₂ (λ from left. out ++ hashes_beside lower (window lower from hashes) left) there behind) made
    ∙ append_assoc out (hashes_beside lower (window lower (low + 2 ^ lower) hashes) (place - 2 ^ lower)) (tree_root lower (window lower low hashes) ∷ [])
    ∙ ap (λ all. out ++ all) (way_right height lower low place hashes is above at)

-- a height of more than one hash
one_only : (height : ℕ) → 1 < 2 ^ height → 0 < height
one_only zero wide = absurd (omega arith)
one_only (suc height) wide = omega arith

pub above_one : (height : ℕ) → 1 < 2 ^ height → height ≡ suc (height - 1)
above_one height wide = let some : 0 < height = one_only height wide in omega arith
