-- What a list's own hashes join to: the list's root.
use Rattle.std.proofs.Common.{◌≡◌, ℕ, zero, suc, ◌+◌, ◌-◌, ◌*◌, ◌^◌, ◌<◌, ◌≤◌, true, false, List, [], ◌∷◌, ◌++◌, length, map, take, drop, get_or, refl, sym, ◌∙◌, ap, arith, min, length-take, length-drop}
use native.Mathlib.Nat.{pow-suc}
use Rattle.std.specs.Prelude.{Bool, nat_le, ◌/◌}
use Rattle.std.specs.List.{range_with_len, filter}
use Rattle.std.proofs.lemmas.Bool.{leb-true, leb-false}
use Rattle.std.proofs.lemmas.List.{map-append, length-map, take_at, drop_at, take-take, take_all, drop-drop, drop_more}
use Rattle.std.proofs.lemmas.Nat.{div-mul-add}
use Rattle.std.proofs.lemmas.List.Sums.{length-filter}
use Rattle.sia_merkle.specs.Computations.{Tree, hash_of}
use Rattle.sia_merkle.specs.Computations.Tree.{Given}
use Rattle.sia_merkle.specs.Roots.{first_hash, node_digest, tree_root}
use Rattle.sia_merkle.specs.Segments.{cover_within, is_covered, others, places_within, first_tree, joined_within, segment_root, segment_roots}
use Rattle.sia_merkle.proofs.Trees.{tree_root-low, tree_root-split}
use Rattle.sia_merkle.proofs.Windows.{root_low, root_node, root_at}
use Rattle.sia_cover.proofs.Covers.{power_above, cover_one, cover_parts, cover_left}
use Rattle.sia_cover.proofs.Joins.{join_given, join_chosen, join_low, join_node, hash_given, hash_of_node, uncovered_chosen, range_parts}

-- the hashes at the chosen places among the 2 ^ height from low on
abbrev pub own_within : (ℕ → Bool) → List (List ℕ) → ℕ → ℕ → List Tree
own_within chosen hashes height low = map (λ place. Given (get_or hashes place [])) (filter chosen (range_with_len low (min (2 ^ height) (length hashes - low))))

filter_by : (chosen : ℕ → Bool) (x : ℕ) (xs ys : List ℕ) → filter chosen (xs ++ ys) ≡ filter chosen xs ++ filter chosen ys → (here : Bool) → chosen x ≡ here
    → filter chosen (x ∷ (xs ++ ys)) ≡ filter chosen (x ∷ xs) ++ filter chosen ys
filter_by chosen x xs ys rest true e = rw e (ap (λ zs. x ∷ zs) rest)
filter_by chosen x xs ys rest false e = rw e rest

pub filter_append : (chosen : ℕ → Bool) (xs ys : List ℕ) → filter chosen (xs ++ ys) ≡ filter chosen xs ++ filter chosen ys
filter_append chosen [] ys = refl
filter_append chosen (x ∷ xs) ys = filter_by chosen x xs ys (filter_append chosen xs ys) (chosen x) refl

own_count : (chosen : ℕ → Bool) (hashes : List (List ℕ)) (height low : ℕ) → length (own_within chosen hashes height low) ≡ places_within chosen (length hashes) height low
own_count chosen hashes height low =
    length-map (filter chosen (range_with_len low (min (2 ^ height) (length hashes - low)))) (λ place. Given (get_or hashes place [])) ∙ length-filter chosen (range_with_len low (min (2 ^ height) (length hashes - low)))

own_parts : (chosen : ℕ → Bool) (hashes : List (List ℕ)) (height low : ℕ) → low + 2 ^ height < length hashes
    → own_within chosen hashes (suc height) low ≡ own_within chosen hashes height low ++ own_within chosen hashes height (low + 2 ^ height)
own_parts chosen hashes height low above =
    let whole : min (2 ^ height) (length hashes - low) ≡ 2 ^ height = omega arith in
    let up : 2 ^ suc height ≡ 2 ^ height * 2 = pow-suc 2 height in
    let both : min (2 ^ suc height) (length hashes - low) ≡ 2 ^ height + min (2 ^ height) (length hashes - (low + 2 ^ height)) = omega arith in
    ap (λ n. map (λ place. Given (get_or hashes place [])) (filter chosen (range_with_len low n))) both
    ∙ ap (λ xs. map (λ place. Given (get_or hashes place [])) (filter chosen xs)) (range_parts low (2 ^ height) (min (2 ^ height) (length hashes - (low + 2 ^ height))))
    ∙ ap (map (λ place. Given (get_or hashes place []))) (filter_append chosen (range_with_len low (2 ^ height)) (range_with_len (low + 2 ^ height) (min (2 ^ height) (length hashes - (low + 2 ^ height)))))
    ∙ map-append (λ place. Given (get_or hashes place [])) (filter chosen (range_with_len low (2 ^ height))) (filter chosen (range_with_len (low + 2 ^ height) (min (2 ^ height) (length hashes - (low + 2 ^ height)))))
    ∙ ap (λ n. map (λ place. Given (get_or hashes place [])) (filter chosen (range_with_len low n)) ++ own_within chosen hashes height (low + 2 ^ height)) (sym whole)

own_low : (chosen : ℕ → Bool) (hashes : List (List ℕ)) (height low : ℕ) → length hashes ≤ low + 2 ^ height → own_within chosen hashes (suc height) low ≡ own_within chosen hashes height low
own_low chosen hashes height low past =
    let same : min (2 ^ suc height) (length hashes - low) ≡ min (2 ^ height) (length hashes - low) = omega (arith, pow-suc 2 height) in
    ap (λ n. map (λ place. Given (get_or hashes place [])) (filter chosen (range_with_len low n))) same

own_one : (chosen : ℕ → Bool) (hashes : List (List ℕ)) (low : ℕ) → low < length hashes → chosen low ≡ true → own_within chosen hashes 0 low ≡ Given (get_or hashes low []) ∷ []
own_one chosen hashes low within e =
    let one : min (2 ^ 0) (length hashes - low) ≡ 1 = omega arith in
    ap (λ n. map (λ place. Given (get_or hashes place [])) (filter chosen (range_with_len low n))) one ∙ rw e refl

first_at : (hashes : List (List ℕ)) (low : ℕ) → low < length hashes → tree_root 0 (take 1 (drop low hashes)) ≡ get_or hashes low []
unfolding tree_root
first_at hashes low within = ap (λ xs. first_hash (take 1 xs)) (drop_more hashes low [] within)

-- the roots of a cover, by its two parts
pub roots_parts : (chosen : ℕ → Bool) (count height low : ℕ) (hashes : List (List ℕ)) → is_covered chosen count (suc height) low ≡ false
    → segment_roots hashes (cover_within chosen count (suc height) low) ≡ segment_roots hashes (cover_within chosen count height low) ++ segment_roots hashes (cover_within chosen count height (low + 2 ^ height))
roots_parts chosen count height low hashes e =
    ap (segment_roots hashes) (cover_parts chosen count height low e) ∙ map-append (λ segment. segment_root hashes segment.level segment.index) (cover_within chosen count height low) (cover_within chosen count height (low + 2 ^ height))

own_end : (chosen : ℕ → Bool) (hashes : List (List ℕ)) (low : ℕ) → low < length hashes → (covered : Bool) → is_covered (others chosen) (length hashes) 0 low ≡ covered
    → hash_of (joined_within chosen (length hashes) 0 low (own_within chosen hashes 0 low) (segment_roots hashes (cover_within (others chosen) (length hashes) 0 low))) ≡ tree_root 0 (take (2 ^ 0) (drop low hashes))
own_end chosen hashes low within true e =
    let same : low / 2 ^ 0 * 2 ^ 0 ≡ low = omega arith in
    ap hash_of (join_given chosen (length hashes) 0 low (own_within chosen hashes 0 low) (segment_roots hashes (cover_within (others chosen) (length hashes) 0 low)) e)
    ∙ ap (λ cover. hash_of (Given (first_hash (segment_roots hashes cover)))) (cover_one (others chosen) (length hashes) 0 low e)
    ∙ hash_given (segment_root hashes 0 (low / 2 ^ 0)) ∙ ap (λ n. tree_root 0 (take (2 ^ 0) (drop n hashes))) same
own_end chosen hashes low within false e =
    let here : chosen low ≡ true = uncovered_chosen chosen (length hashes) low within e in
    ap hash_of (join_chosen chosen (length hashes) low (own_within chosen hashes 0 low) (segment_roots hashes (cover_within (others chosen) (length hashes) 0 low)) here)
    ∙ ap (λ trees. hash_of (first_tree trees)) (own_one chosen hashes low within here) ∙ hash_given (get_or hashes low []) ∙ sym (first_at hashes low within)

own_by : (chosen : ℕ → Bool) (hashes : List (List ℕ)) (height low index : ℕ) → low ≡ index * 2 ^ suc height → low < length hashes
    → ((at part : ℕ) → at ≡ part * 2 ^ height → at < length hashes
    → hash_of (joined_within chosen (length hashes) height at (own_within chosen hashes height at) (segment_roots hashes (cover_within (others chosen) (length hashes) height at))) ≡ tree_root height (take (2 ^ height) (drop at hashes)))
    → (covered : Bool) → is_covered (others chosen) (length hashes) (suc height) low ≡ covered → (short : Bool) → nat_le (length hashes) (low + 2 ^ height) ≡ short
    → hash_of (joined_within chosen (length hashes) (suc height) low (own_within chosen hashes (suc height) low) (segment_roots hashes (cover_within (others chosen) (length hashes) (suc height) low)))
    ≡ tree_root (suc height) (take (2 ^ suc height) (drop low hashes))
own_by chosen hashes height low index aligned within below true e short f =
    ap hash_of (join_given chosen (length hashes) (suc height) low (own_within chosen hashes (suc height) low) (segment_roots hashes (cover_within (others chosen) (length hashes) (suc height) low)) e)
    ∙ ap (λ cover. hash_of (Given (first_hash (segment_roots hashes cover)))) (cover_one (others chosen) (length hashes) (suc height) low e)
    ∙ hash_given (segment_root hashes (suc height) (low / 2 ^ suc height)) ∙ root_at hashes (suc height) low index aligned
own_by chosen hashes height low index aligned within below false e true f =
    let past : length hashes ≤ low + 2 ^ height = leb-true _ _ f in
    let up : 2 ^ suc height ≡ 2 ^ height * 2 = pow-suc 2 height in
    let turned : index * (2 ^ height * 2) ≡ index * 2 * 2 ^ height = omega arith in
    let part : low ≡ index * 2 * 2 ^ height = aligned ∙ ap (λ n. index * n) up ∙ turned in
    ap hash_of (join_low chosen (length hashes) height low (own_within chosen hashes (suc height) low) (segment_roots hashes (cover_within (others chosen) (length hashes) (suc height) low)) e past)
    ∙ ap (λ trees. hash_of (joined_within chosen (length hashes) height low trees (segment_roots hashes (cover_within (others chosen) (length hashes) (suc height) low)))) (own_low chosen hashes height low past)
    ∙ ap (λ cover. hash_of (joined_within chosen (length hashes) height low (own_within chosen hashes height low) (segment_roots hashes cover))) (cover_left (others chosen) (length hashes) height low past within e)
    ∙ below low (index * 2) part within
    ∙ sym (root_low hashes height low past)
own_by chosen hashes height low index aligned within below false e false f =
    let above : low + 2 ^ height < length hashes = leb-false _ _ f in
    let up : 2 ^ suc height ≡ 2 ^ height * 2 = pow-suc 2 height in
    let turned : index * (2 ^ height * 2) ≡ index * 2 * 2 ^ height = omega arith in
    let part : low ≡ index * 2 * 2 ^ height = aligned ∙ ap (λ n. index * n) up ∙ turned in
    let next : low + 2 ^ height ≡ (index * 2 + 1) * 2 ^ height = omega arith in
    let left_cover = cover_within (others chosen) (length hashes) height low in
    let right_cover = cover_within (others chosen) (length hashes) height (low + 2 ^ height) in
    let cut : length (segment_roots hashes left_cover) ≡ length left_cover = length-map left_cover (λ segment. segment_root hashes segment.level segment.index) in
    let counted = own_count chosen hashes height low in
    ap (λ trees. hash_of (joined_within chosen (length hashes) (suc height) low trees (segment_roots hashes (cover_within (others chosen) (length hashes) (suc height) low)))) (own_parts chosen hashes height low above)
    ∙ ap (λ outer. hash_of (joined_within chosen (length hashes) (suc height) low (own_within chosen hashes height low ++ own_within chosen hashes height (low + 2 ^ height)) outer)) (roots_parts (others chosen) (length hashes) height low hashes e)
    ∙ ap hash_of (join_node chosen (length hashes) height low (own_within chosen hashes height low ++ own_within chosen hashes height (low + 2 ^ height)) (segment_roots hashes left_cover ++ segment_roots hashes right_cover) e above)
    ∙ rw (
      take_at (own_within chosen hashes height low) (own_within chosen hashes height (low + 2 ^ height)) (places_within chosen (length hashes) height low) counted,
      drop_at (own_within chosen hashes height low) (own_within chosen hashes height (low + 2 ^ height)) (places_within chosen (length hashes) height low) counted,
      take_at (segment_roots hashes left_cover) (segment_roots hashes right_cover) (length left_cover) cut,
      drop_at (segment_roots hashes left_cover) (segment_roots hashes right_cover) (length left_cover) cut,
    )
    (hash_of_node (joined_within chosen (length hashes) height low (own_within chosen hashes height low) (segment_roots hashes left_cover))
    (joined_within chosen (length hashes) height (low + 2 ^ height) (own_within chosen hashes height (low + 2 ^ height)) (segment_roots hashes right_cover))
    ∙ ap (λ hash. node_digest hash (hash_of (joined_within chosen (length hashes) height (low + 2 ^ height) (own_within chosen hashes height (low + 2 ^ height)) (segment_roots hashes right_cover)))) (below low (index * 2) part within)
    ∙ ap (node_digest (tree_root height (take (2 ^ height) (drop low hashes)))) (below (low + 2 ^ height) (index * 2 + 1) next above)
    ∙ sym (root_node hashes height low above))

-- the join of a list's own hashes at any places with the roots of the cover of all others
pub own_join : (chosen : ℕ → Bool) (hashes : List (List ℕ)) (height low index : ℕ) → low ≡ index * 2 ^ height → low < length hashes
    → hash_of (joined_within chosen (length hashes) height low (own_within chosen hashes height low) (segment_roots hashes (cover_within (others chosen) (length hashes) height low))) ≡ tree_root height (take (2 ^ height) (drop low hashes))
own_join chosen hashes zero low index aligned within = own_end chosen hashes low within (is_covered (others chosen) (length hashes) 0 low) refl
own_join chosen hashes (suc height) low index aligned within =
    own_by chosen hashes height low index aligned within (λ at part is in_it. own_join chosen hashes height at part is in_it)
    (is_covered (others chosen) (length hashes) (suc height) low) refl (nat_le (length hashes) (low + 2 ^ height)) refl
