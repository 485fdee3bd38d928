-- What the roots of both covers of a list's own places join to: the list's root.
use Rattle.std.proofs.Common.{◌≡◌, ℕ, zero, suc, ◌+◌, ◌*◌, ◌^◌, ◌<◌, ◌≤◌, true, false, List, ◌++◌, length, take, drop, refl, sym, ◌∙◌, ap, arith}
use native.Mathlib.Nat.{pow-suc}
use Rattle.std.specs.Prelude.{Bool, nat_le, ◌/◌}
use Rattle.std.proofs.lemmas.Bool.{leb-true, leb-false}
use Rattle.std.proofs.lemmas.List.{length-map, take_at, drop_at, take_all}
use Rattle.sia_merkle.specs.Computations.{hash_of}
use Rattle.sia_merkle.specs.Computations.Tree.{Given}
use Rattle.sia_merkle.specs.Roots.{first_hash, node_digest, node_root_of, tree_root}
use Rattle.sia_merkle.specs.Segments.{cover, cover_within, is_covered, others, joined_segments_within, segment_root, segment_roots}
use Rattle.sia_merkle.proofs.Trees.{lt_pow}
use Rattle.sia_cover.proofs.Covers.{cover_left, cover_one}
use Rattle.sia_cover.proofs.Joins.{hash_given, hash_of_node}
use Rattle.sia_merkle.proofs.Windows.{root_at, root_low, root_node}
use Rattle.sia_cover.proofs.OwnJoins.{roots_parts}
use Rattle.sia_cover.proofs.SegmentJoins.{other_covered, segments_inner, segments_outer, segments_low, segments_node}

-- the roots of a list's cover among the 2 ^ height places from low on
abbrev roots_within : (ℕ → Bool) → List (List ℕ) → ℕ → ℕ → List (List ℕ)
roots_within chosen hashes height low = segment_roots hashes (cover_within chosen (length hashes) height low)

roots_count : (chosen : ℕ → Bool) (hashes : List (List ℕ)) (height low : ℕ) → length (roots_within chosen hashes height low) ≡ length (cover_within chosen (length hashes) height low)
roots_count chosen hashes height low = length-map (cover_within chosen (length hashes) height low) (λ segment. segment_root hashes segment.level segment.index)

-- the join of a list's own roots
abbrev own_tree_hash : (ℕ → Bool) → List (List ℕ) → ℕ → ℕ → List ℕ
own_tree_hash chosen hashes height low = hash_of (joined_segments_within chosen (length hashes) height low (roots_within chosen hashes height low) (roots_within (others chosen) hashes height low))

only_root : (chosen : ℕ → Bool) (hashes : List (List ℕ)) (height low index : ℕ) → low ≡ index * 2 ^ height → is_covered chosen (length hashes) height low ≡ true
    → hash_of (Given (first_hash (roots_within chosen hashes height low))) ≡ tree_root height (take (2 ^ height) (drop low hashes))
only_root chosen hashes height low index aligned e =
    ap (λ cover. hash_of (Given (first_hash (segment_roots hashes cover)))) (cover_one chosen (length hashes) height low e)
    ∙ hash_given (segment_root hashes height (low / 2 ^ height)) ∙ root_at hashes height low index aligned

own_inner : (chosen : ℕ → Bool) (hashes : List (List ℕ)) (height low index : ℕ) → low ≡ index * 2 ^ height → is_covered chosen (length hashes) height low ≡ true
    → own_tree_hash chosen hashes height low ≡ tree_root height (take (2 ^ height) (drop low hashes))
own_inner chosen hashes height low index aligned e =
    ap hash_of (segments_inner chosen (length hashes) height low (roots_within chosen hashes height low) (roots_within (others chosen) hashes height low) e) ∙ only_root chosen hashes height low index aligned e

own_outer : (chosen : ℕ → Bool) (hashes : List (List ℕ)) (height low index : ℕ) → low ≡ index * 2 ^ height → is_covered chosen (length hashes) height low ≡ false → is_covered (others chosen) (length hashes) height low ≡ true
    → own_tree_hash chosen hashes height low ≡ tree_root height (take (2 ^ height) (drop low hashes))
own_outer chosen hashes height low index aligned e f =
    ap hash_of (segments_outer chosen (length hashes) height low (roots_within chosen hashes height low) (roots_within (others chosen) hashes height low) e f) ∙ only_root (others chosen) hashes height low index aligned f

own_end : (chosen : ℕ → Bool) (hashes : List (List ℕ)) (low : ℕ) → low < length hashes → (covered : Bool) → is_covered chosen (length hashes) 0 low ≡ covered
    → own_tree_hash chosen hashes 0 low ≡ tree_root 0 (take (2 ^ 0) (drop low hashes))
own_end chosen hashes low within true e =
    let aligned : low ≡ low * 2 ^ 0 = omega arith in
    own_inner chosen hashes 0 low low aligned e
own_end chosen hashes low within false e =
    let aligned : low ≡ low * 2 ^ 0 = omega arith in
    own_outer chosen hashes 0 low low aligned e (other_covered chosen (length hashes) 0 low refl within e)

own_low : (chosen : ℕ → Bool) (hashes : List (List ℕ)) (height low : ℕ) → low < length hashes → length hashes ≤ low + 2 ^ height
    → is_covered chosen (length hashes) (suc height) low ≡ false → is_covered (others chosen) (length hashes) (suc height) low ≡ false
    → own_tree_hash chosen hashes (suc height) low ≡ own_tree_hash chosen hashes height low
own_low chosen hashes height low within past e f =
    ap hash_of (segments_low chosen (length hashes) height low (roots_within chosen hashes (suc height) low) (roots_within (others chosen) hashes (suc height) low) e f past)
    ∙ ap (λ cover. hash_of (joined_segments_within chosen (length hashes) height low (segment_roots hashes cover) (roots_within (others chosen) hashes (suc height) low))) (cover_left chosen (length hashes) height low past within e)
    ∙ ap (λ cover. hash_of (joined_segments_within chosen (length hashes) height low (roots_within chosen hashes height low) (segment_roots hashes cover))) (cover_left (others chosen) (length hashes) height low past within f)

own_node : (chosen : ℕ → Bool) (hashes : List (List ℕ)) (height low : ℕ) → low + 2 ^ height < length hashes
    → is_covered chosen (length hashes) (suc height) low ≡ false → is_covered (others chosen) (length hashes) (suc height) low ≡ false
    → own_tree_hash chosen hashes (suc height) low ≡ node_digest (own_tree_hash chosen hashes height low) (own_tree_hash chosen hashes height (low + 2 ^ height))
own_node chosen hashes height low above e f =
    let next = low + 2 ^ height in
    ap (λ roots. hash_of (joined_segments_within chosen (length hashes) (suc height) low roots (roots_within (others chosen) hashes (suc height) low))) (roots_parts chosen (length hashes) height low hashes e)
    ∙ ap (λ roots. hash_of (joined_segments_within chosen (length hashes) (suc height) low (roots_within chosen hashes height low ++ roots_within chosen hashes height next) roots)) (roots_parts (others chosen) (length hashes) height low hashes f)
    ∙ ap hash_of (segments_node chosen (length hashes) height low (roots_within chosen hashes height low ++ roots_within chosen hashes height next) (roots_within (others chosen) hashes height low ++ roots_within (others chosen) hashes height next) e f above)
    ∙ rw (
      take_at (roots_within chosen hashes height low) (roots_within chosen hashes height next) (length (cover_within chosen (length hashes) height low)) (roots_count chosen hashes height low),
      drop_at (roots_within chosen hashes height low) (roots_within chosen hashes height next) (length (cover_within chosen (length hashes) height low)) (roots_count chosen hashes height low),
      take_at (roots_within (others chosen) hashes height low) (roots_within (others chosen) hashes height next) (length (cover_within (others chosen) (length hashes) height low)) (roots_count (others chosen) hashes height low),
      drop_at (roots_within (others chosen) hashes height low) (roots_within (others chosen) hashes height next) (length (cover_within (others chosen) (length hashes) height low)) (roots_count (others chosen) hashes height low),
    )
    (hash_of_node (joined_segments_within chosen (length hashes) height low (roots_within chosen hashes height low) (roots_within (others chosen) hashes height low))
    (joined_segments_within chosen (length hashes) height next (roots_within chosen hashes height next) (roots_within (others chosen) hashes height next)))

own_by : (chosen : ℕ → Bool) (hashes : List (List ℕ)) (height low index : ℕ) → low ≡ index * 2 ^ suc height → low < length hashes
    → ((at part : ℕ) → at ≡ part * 2 ^ height → at < length hashes → own_tree_hash chosen hashes height at ≡ tree_root height (take (2 ^ height) (drop at hashes)))
    → (inside outside : Bool) → is_covered chosen (length hashes) (suc height) low ≡ inside → is_covered (others chosen) (length hashes) (suc height) low ≡ outside
    → (short : Bool) → nat_le (length hashes) (low + 2 ^ height) ≡ short → own_tree_hash chosen hashes (suc height) low ≡ tree_root (suc height) (take (2 ^ suc height) (drop low hashes))
own_by chosen hashes height low index aligned within below true outside e f short g = own_inner chosen hashes (suc height) low index aligned e
own_by chosen hashes height low index aligned within below false true e f short g = own_outer chosen hashes (suc height) low index aligned e f
own_by chosen hashes height low index aligned within below false false e f true g =
    let past : length hashes ≤ low + 2 ^ height = leb-true _ _ g in
    let up : 2 ^ suc height ≡ 2 ^ height * 2 = pow-suc 2 height in
    let turned : index * (2 ^ height * 2) ≡ index * 2 * 2 ^ height = omega arith in
    let part : low ≡ index * 2 * 2 ^ height = aligned ∙ ap (λ n. index * n) up ∙ turned in
    own_low chosen hashes height low within past e f ∙ below low (index * 2) part within ∙ sym (root_low hashes height low past)
own_by chosen hashes height low index aligned within below false false e f false g =
    let above : low + 2 ^ height < length hashes = leb-false _ _ g in
    let up : 2 ^ suc height ≡ 2 ^ height * 2 = pow-suc 2 height in
    let turned : index * (2 ^ height * 2) ≡ index * 2 * 2 ^ height = omega arith in
    let part : low ≡ index * 2 * 2 ^ height = aligned ∙ ap (λ n. index * n) up ∙ turned in
    let next : low + 2 ^ height ≡ (index * 2 + 1) * 2 ^ height = omega arith in
    own_node chosen hashes height low above e f
    ∙ ap (λ hash. node_digest hash (own_tree_hash chosen hashes height (low + 2 ^ height))) (below low (index * 2) part within)
    ∙ ap (node_digest (tree_root height (take (2 ^ height) (drop low hashes)))) (below (low + 2 ^ height) (index * 2 + 1) next above)
    ∙ sym (root_node hashes height low above)

own_join_segments : (chosen : ℕ → Bool) (hashes : List (List ℕ)) (height low index : ℕ) → low ≡ index * 2 ^ height → low < length hashes
    → own_tree_hash chosen hashes height low ≡ tree_root height (take (2 ^ height) (drop low hashes))
own_join_segments chosen hashes zero low index aligned within = own_end chosen hashes low within (is_covered chosen (length hashes) 0 low) refl
own_join_segments chosen hashes (suc height) low index aligned within =
    own_by chosen hashes height low index aligned within (λ at part is in_it. own_join_segments chosen hashes height at part is in_it)
    (is_covered chosen (length hashes) (suc height) low) (is_covered (others chosen) (length hashes) (suc height) low) refl refl (nat_le (length hashes) (low + 2 ^ height)) refl

-- the roots of both covers of a list's places join to the list's root
pub own_segments_whole : (chosen : ℕ → Bool) (hashes : List (List ℕ)) → 0 < length hashes
    → hash_of (joined_segments_within chosen (length hashes) (length hashes) 0 (segment_roots hashes (cover chosen (length hashes))) (segment_roots hashes (cover (others chosen) (length hashes)))) ≡ node_root_of hashes
unfolding cover node_root_of
own_segments_whole chosen hashes some =
    let aligned : 0 ≡ 0 * 2 ^ length hashes = omega arith in
    own_join_segments chosen hashes (length hashes) 0 0 aligned some ∙ ap (tree_root (length hashes)) (take_all (2 ^ length hashes) hashes (omega (arith, lt_pow (length hashes))))
