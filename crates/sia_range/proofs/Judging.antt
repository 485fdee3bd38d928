-- What the checks of a range answer.
use Rattle.std.proofs.Common.{◌≡◌, ℕ, zero, suc, ◌+◌, ◌-◌, ◌*◌, ◌^◌, ◌<◌, ◌≤◌, true, false, List, [], ◌∷◌, length, map, take, drop, refl, sym, ◌∙◌, ap, arith, min, length-take}
use Rattle.std.specs.Prelude.{Bool, nat_le, ◌↔◌, count_by}
use Rattle.std.specs.List.{range_with_len}
use Rattle.std.proofs.lemmas.Bool.{leb-true, leb-false}
use Rattle.std.proofs.lemmas.List.{length-map, take-map, drop-map, take_min}
use Rattle.sia_merkle.specs.Computations.{Tree, hash_of}
use Rattle.sia_merkle.specs.Computations.Tree.{Given, Leaf}
use Rattle.sia_merkle.specs.Roots.{first_hash, leaf_count, leaf_digest, leaves_of, node_digest, node_root_of, root_of, tree_root}
use Rattle.sia_merkle.specs.Segments.{cover_within, is_covered, others, places_between, places_within, first_tree, joined_within, joined_segments_within}
use Rattle.sia_merkle.proofs.Cuts.{hashes-drop}
use Rattle.sia_merkle.proofs.Trees.{node_root_of-at}
use Rattle.sia_range.specs.Ranges.{range_tree, segments_tree, IsRangeProof, IsUpdateOf}
use Rattle.sia_cover.specs.Joined.{JoinTo, SegmentsJoinTo}
use Rattle.sia_range.proofs.ByteLeaves.{front}
use Rattle.sia_range.proofs.RangePlaces.{count_between}
use Rattle.sia_cover.proofs.Covers.{power_above}
use Rattle.sia_cover.proofs.Joins.{join_given, join_low, join_node, hash_of_node}

pub joined_is : (count a b : ℕ) (inner : List Tree) (outer : List (List ℕ)) → range_tree count a b inner outer ≡ joined_within (places_between a b) count count 0 inner outer
unfolding range_tree
joined_is count a b inner outer = refl

pub segments_tree_is : (count a b : ℕ) (inner outer : List (List ℕ)) → segments_tree count a b inner outer ≡ joined_segments_within (places_between a b) count count 0 inner outer
unfolding segments_tree
segments_tree_is count a b inner outer = refl

pub inner_count : (count a b : ℕ) (inner : List Tree) → a < b → b ≤ count → length inner ≡ b - a → length inner ≡ count_by (places_between a b) (range_with_len 0 count)
inner_count count a b inner some within fits = fits ∙ sym (count_between a b 0 count ∙ (omega arith))

-- what joins at the places of a range is a proof of it
pub of_joins : (root : List ℕ) (count a b : ℕ) (inner : List Tree) (outer : List (List ℕ)) → JoinTo (places_between a b) count inner outer root ↔ IsRangeProof root count a b inner outer
unfolding range_tree
of_joins root count a b inner outer = ((λ join. record { joins = join.0; gives = join.1 }), (λ proof. (proof.joins, proof.gives)))

-- and the roots of both covers are an update of it
pub of_segments : (root : List ℕ) (count a b : ℕ) (inner outer : List (List ℕ)) → SegmentsJoinTo (places_between a b) count inner outer root ↔ IsUpdateOf root count a b inner outer
unfolding segments_tree
of_segments root count a b inner outer = ((λ join. record { joins = join.0; gives = join.1 }), (λ proof. (proof.joins, proof.gives)))

-- only the hashes of what stands at the places show in the join's hash
first_hashes : (first second : List Tree) → map hash_of first ≡ map hash_of second → hash_of (first_tree first) ≡ hash_of (first_tree second)
first_hashes [] [] same = refl
first_hashes [] (tree ∷ trees) same = absurd (let none : 0 ≡ suc (length (map hash_of trees)) = ap length same in omega arith)
first_hashes (tree ∷ trees) [] same = absurd (let none : suc (length (map hash_of trees)) ≡ 0 = ap length same in omega arith)
first_hashes (tree ∷ trees) (other ∷ others) same = ap first_hash same

hashes_taken : (count : ℕ) (first second : List Tree) → map hash_of first ≡ map hash_of second → map hash_of (take count first) ≡ map hash_of (take count second)
hashes_taken count first second same = sym (take-map hash_of count first) ∙ ap (take count) same ∙ take-map hash_of count second

hashes_dropped : (count : ℕ) (first second : List Tree) → map hash_of first ≡ map hash_of second → map hash_of (drop count first) ≡ map hash_of (drop count second)
hashes_dropped count first second same = sym (drop-map hash_of count first) ∙ ap (drop count) same ∙ drop-map hash_of count second

end_hashes : (chosen : ℕ → Bool) (count low : ℕ) (first second : List Tree) (outer : List (List ℕ)) → map hash_of first ≡ map hash_of second → (here : Bool) → chosen low ≡ here
    → hash_of (joined_within chosen count 0 low first outer) ≡ hash_of (joined_within chosen count 0 low second outer)
unfolding joined_within
end_hashes chosen count low first second outer same true e = rw e (first_hashes first second same)
end_hashes chosen count low first second outer same false e = rw e refl

part_hashes : (chosen : ℕ → Bool) (count height low : ℕ) (first second : List Tree) (outer : List (List ℕ)) → map hash_of first ≡ map hash_of second
    → ((at : ℕ) (left right : List Tree) (hashes : List (List ℕ)) → map hash_of left ≡ map hash_of right → hash_of (joined_within chosen count height at left hashes) ≡ hash_of (joined_within chosen count height at right hashes))
    → (covered : Bool) → is_covered (others chosen) count (suc height) low ≡ covered → (short : Bool) → nat_le count (low + 2 ^ height) ≡ short
    → hash_of (joined_within chosen count (suc height) low first outer) ≡ hash_of (joined_within chosen count (suc height) low second outer)
part_hashes chosen count height low first second outer same below true e short f =
    ap hash_of (join_given chosen count (suc height) low first outer e ∙ sym (join_given chosen count (suc height) low second outer e))
part_hashes chosen count height low first second outer same below false e true f =
    ap hash_of (join_low chosen count height low first outer e (leb-true _ _ f)) ∙ below low first second outer same ∙ ap hash_of (sym (join_low chosen count height low second outer e (leb-true _ _ f)))
part_hashes chosen count height low first second outer same below false e false f =
    let cut = length (cover_within (others chosen) count height low) in
    let places = places_within chosen count height low in
    ap hash_of (join_node chosen count height low first outer e (leb-false _ _ f))
    ∙ hash_of_node (joined_within chosen count height low (take places first) (take cut outer)) (joined_within chosen count height (low + 2 ^ height) (drop places first) (drop cut outer))
    ∙ ap (λ hash. node_digest hash (hash_of (joined_within chosen count height (low + 2 ^ height) (drop places first) (drop cut outer)))) (below low (take places first) (take places second) (take cut outer) (hashes_taken places first second same))
    ∙ ap (node_digest (hash_of (joined_within chosen count height low (take places second) (take cut outer)))) (below (low + 2 ^ height) (drop places first) (drop places second) (drop cut outer) (hashes_dropped places first second same))
    ∙ sym (ap hash_of (join_node chosen count height low second outer e (leb-false _ _ f))
    ∙ hash_of_node (joined_within chosen count height low (take places second) (take cut outer)) (joined_within chosen count height (low + 2 ^ height) (drop places second) (drop cut outer)))

pub join_hashes : (chosen : ℕ → Bool) (count height low : ℕ) (first second : List Tree) (outer : List (List ℕ)) → map hash_of first ≡ map hash_of second
    → hash_of (joined_within chosen count height low first outer) ≡ hash_of (joined_within chosen count height low second outer)
join_hashes chosen count zero low first second outer same = end_hashes chosen count low first second outer same (chosen low) refl
join_hashes chosen count (suc height) low first second outer same =
    part_hashes chosen count height low first second outer same (λ at left right hashes e. join_hashes chosen count height at left right hashes e)
    (is_covered (others chosen) count (suc height) low) refl (nat_le count (low + 2 ^ height)) refl

leaf_hashes : (leaves : List (List ℕ)) → map hash_of (map Given (map leaf_digest leaves)) ≡ map hash_of (map Leaf leaves)
unfolding hash_of
leaf_hashes [] = refl
leaf_hashes (leaf ∷ leaves) = ap (λ xs. leaf_digest leaf ∷ xs) (leaf_hashes leaves)

pub leaf_trees : (count a b : ℕ) (leaves hashes : List (List ℕ)) → hash_of (range_tree count a b (map Given (map leaf_digest leaves)) hashes) ≡ hash_of (range_tree count a b (map Leaf leaves) hashes)
unfolding range_tree
leaf_trees count a b leaves hashes = join_hashes (places_between a b) count count 0 (map Given (map leaf_digest leaves)) (map Leaf leaves) hashes (leaf_hashes leaves)

same_count : (leaves : List (List ℕ)) → length (map Given (map leaf_digest leaves)) ≡ length (map Leaf leaves)
same_count leaves = length-map (map leaf_digest leaves) Given ∙ length-map leaves leaf_digest ∙ sym (length-map leaves Leaf)

-- leaves stand at the places where their digests do
pub of_leaves : (root : List ℕ) (count a b : ℕ) (leaves hashes : List (List ℕ)) → IsRangeProof root count a b (map Given (map leaf_digest leaves)) hashes ↔ IsRangeProof root count a b (map Leaf leaves) hashes
of_leaves root count a b leaves hashes = (
  (λ proof. record {
    joins = record { places = sym (same_count leaves) ∙ proof.joins.places; segments = proof.joins.segments; joined = joined_is count a b (map Leaf leaves) hashes };
    gives = sym (leaf_trees count a b leaves hashes) ∙ proof.gives;
  }),
  (λ proof. record {
    joins = record { places = same_count leaves ∙ proof.joins.places; segments = proof.joins.segments; joined = joined_is count a b (map Given (map leaf_digest leaves)) hashes };
    gives = leaf_trees count a b leaves hashes ∙ proof.gives;
  }),
)

-- the digests of the leaves of a front of so many whole leaves, which may end before
pub front_leaves : (bytes : List ℕ) (count : ℕ) → map leaf_digest (leaves_of (take (64 * count) bytes)) ≡ take count (map leaf_digest (leaves_of bytes))
front_leaves bytes count = ap (map leaf_digest) (front bytes count) ∙ sym (take-map leaf_digest count (leaves_of bytes))

-- the root over part of a byte string's leaves
pub part_of_leaves : (bytes rest part : List ℕ) (height place width len : ℕ) → place + 2 ^ height ≤ leaf_count (length bytes) → width ≡ 2 ^ height
    → rest ≡ drop (place * 64) bytes → len ≡ min (64 * width) (length rest) → part ≡ take len rest
    → root_of (leaves_of part) ≡ tree_root height (take (2 ^ height) (drop place (map leaf_digest (leaves_of bytes))))
part_of_leaves bytes rest part height place width len within wide rest_is len_is part_is =
    let before : place < leaf_count (length bytes) = omega (arith, power_above height) in
    let turned : place * 64 ≡ 64 * place = omega arith in
    let rest_at : rest ≡ drop (64 * place) bytes = rest_is ∙ ap (λ n. drop n bytes) turned in
    let part_at : part ≡ take (64 * 2 ^ height) rest = part_is ∙ ap (λ n. take n rest) len_is ∙ take_min (64 * width) rest ∙ ap (λ w. take (64 * w) rest) wide in
    let row = take (2 ^ height) (drop place (map leaf_digest (leaves_of bytes))) in
    let is : map leaf_digest (leaves_of part) ≡ row =
    ap (λ b. map leaf_digest (leaves_of b)) part_at ∙ front_leaves rest (2 ^ height)
    ∙ ap (take (2 ^ height)) (ap (λ b. map leaf_digest (leaves_of b)) rest_at ∙ hashes-drop bytes place before) in
    let fits : length row ≤ 2 ^ height = omega (arith, length-take (2 ^ height) (drop place (map leaf_digest (leaves_of bytes)))) in
    ap node_root_of is ∙ node_root_of-at height row fits
