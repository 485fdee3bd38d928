-- What a whole list's own hashes join to, at any places and at those of a range.
use Rattle.std.proofs.Common.{◌≡◌, ℕ, zero, suc, ◌+◌, ◌-◌, ◌*◌, ◌^◌, ◌<◌, ◌≤◌, true, false, List, [], ◌∷◌, length, map, take, drop, get_or, refl, sym, ◌∙◌, ap, arith, min}
use Rattle.std.specs.Prelude.{Bool}
use Rattle.std.specs.List.{range_with_len, filter}
use Rattle.std.proofs.lemmas.List.{length-map, take_all, drop_more}
use Rattle.std.proofs.lemmas.List.Sums.{length-filter}
use Rattle.std.proofs.lemmas.Simd.{map-map}
use Rattle.sia_merkle.specs.Computations.{hash_of}
use Rattle.sia_merkle.specs.Computations.Tree.{Given}
use Rattle.sia_merkle.specs.Roots.{first_hash, node_root_of, tree_root}
use Rattle.sia_merkle.specs.Segments.{cover, others, joined_within, segment_root, segment_roots, Joins}
use Rattle.sia_merkle.proofs.Trees.{lt_pow}
use Rattle.sia_cover.proofs.Covers.{cover_none, past_covered}
use Rattle.sia_cover.proofs.Joins.{hash_given}
use Rattle.sia_cover.proofs.OwnJoins.{own_within, own_join}

-- the hashes of a list at the chosen places, in order
abbrev pub own_hashes : (ℕ → Bool) → List (List ℕ) → List (List ℕ)
own_hashes chosen hashes = map (λ place. get_or hashes place []) (filter chosen (range_with_len 0 (length hashes)))

-- the roots of the cover of all other places
abbrev pub own_roots : (ℕ → Bool) → List (List ℕ) → List (List ℕ)
own_roots chosen hashes = segment_roots hashes (cover (others chosen) (length hashes))

own_trees : (chosen : ℕ → Bool) (hashes : List (List ℕ)) → own_within chosen hashes (length hashes) 0 ≡ map Given (own_hashes chosen hashes)
own_trees chosen hashes =
    let whole : min (2 ^ length hashes) (length hashes - 0) ≡ length hashes = omega (arith, lt_pow (length hashes)) in
    ap (λ n. map (λ place. Given (get_or hashes place [])) (filter chosen (range_with_len 0 n))) whole ∙ sym (map-map Given (λ place. get_or hashes place []) (filter chosen (range_with_len 0 (length hashes))))

-- the join of a list's own hashes and roots, of which as many as are wanted are there
pub own_joins : (chosen : ℕ → Bool) (hashes : List (List ℕ))
    → Joins chosen (length hashes) (map Given (own_hashes chosen hashes)) (own_roots chosen hashes) (joined_within chosen (length hashes) (length hashes) 0 (map Given (own_hashes chosen hashes)) (own_roots chosen hashes))
own_joins chosen hashes = record {
  places = length-map (own_hashes chosen hashes) Given ∙ length-map (filter chosen (range_with_len 0 (length hashes))) (λ place. get_or hashes place []) ∙ length-filter chosen (range_with_len 0 (length hashes));
  segments = length-map (cover (others chosen) (length hashes)) (λ segment. segment_root hashes segment.level segment.index);
  joined = refl;
}

none_by : (chosen : ℕ → Bool) (here : Bool) → chosen 0 ≡ here → hash_of (joined_within chosen 0 0 0 [] []) ≡ node_root_of []
unfolding joined_within node_root_of tree_root
none_by chosen true e = rw e (hash_given (first_hash []))
none_by chosen false e = rw e (hash_given (first_hash []))

no_roots : (chosen : ℕ → Bool) → own_roots chosen [] ≡ []
unfolding cover
no_roots chosen = ap (segment_roots []) (cover_none (others chosen) 0 0 (past_covered (others chosen) 0 0 0 (omega arith)))

-- a list's own hashes at any places join with the roots of the cover of all others to the list's root
pub own_whole : (chosen : ℕ → Bool) (hashes : List (List ℕ))
    → hash_of (joined_within chosen (length hashes) (length hashes) 0 (map Given (own_hashes chosen hashes)) (own_roots chosen hashes)) ≡ node_root_of hashes
unfolding cover node_root_of
own_whole chosen [] = ap (λ roots. hash_of (joined_within chosen 0 0 0 [] roots)) (no_roots chosen) ∙ none_by chosen (chosen 0) refl
own_whole chosen (hash ∷ hashes) =
    let all = hash ∷ hashes in
    let some : 0 < length all = omega arith in
    let aligned : 0 ≡ 0 * 2 ^ length all = omega arith in
    let fits : length all ≤ 2 ^ length all = omega (arith, lt_pow (length all)) in
    ap (λ trees. hash_of (joined_within chosen (length all) (length all) 0 trees (own_roots chosen all))) (sym (own_trees chosen all))
    ∙ own_join chosen all (length all) 0 0 aligned some ∙ ap (tree_root (length all)) (take_all (2 ^ length all) all fits)

-- the hashes at neighbouring places
pub neighbours : (hashes : List (List ℕ)) (from count : ℕ) → from + count ≤ length hashes → map (λ place. get_or hashes place []) (range_with_len from count) ≡ take count (drop from hashes)
neighbours hashes from zero within = refl
neighbours hashes from (suc count) within =
    let here : from < length hashes = omega arith in
    ap (λ hs. get_or hashes from [] ∷ hs) (neighbours hashes (from + 1) count (omega arith))
    ∙ sym (ap (take (suc count)) (drop_more hashes from [] here))
