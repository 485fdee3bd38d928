-- Who has a range, hashes or an update accepted that are not a list's own shows a collision.
use Rattle.std.proofs.Common.{◌≡◌, ℕ, ◌-◌, ◌<◌, ◌≤◌, List, [], ◌∷◌, length, map, take, drop, refl, sym, ◌∙◌, ap, arith, inl, inr, length-drop}
use Rattle.std.specs.Prelude.{◌⊎◌}
use Rattle.std.proofs.lemmas.List.{length-map, length-take-le, take-map, drop-map}
use Rattle.sia_merkle.specs.Computations.{AreHashes, Tree, hash_of, Collides}
use Rattle.sia_merkle.specs.Computations.Tree.{Given, Leaf, Node}
use Rattle.sia_merkle.specs.Roots.{leaf_count, leaf_digest, leaves_of, node_root_of, root_of}
use Rattle.sia_merkle.specs.Segments.{cover, others, places_between, segment_root, joined_within, Joins}
use Rattle.sia_merkle.proofs.Clashes.{leaf_digest-length}
use Rattle.sia_merkle.proofs.Cuts.{length-leaves}
use Rattle.sia_range.specs.Ranges.{range_tree, IsRangeProof, part_between, roots_outside, own_range_tree, own_nodes_tree}
use Rattle.sia_range.proofs.Judging.{inner_count, joined_is, leaf_trees}
use Rattle.sia_range.proofs.RangePlaces.{own_range_joins}
use Rattle.sia_cover.proofs.Soundness.{roots_sized, take_sized, drop_sized, given_sized, leaves_sized, given_shapes, leaf_shapes, joins_collide}

-- what stands in a leaf or is given
stored : Tree → List ℕ
stored (Given hash) = hash
stored (Leaf bytes) = bytes
stored (Node left right) = []

stored_given : (hashes : List (List ℕ)) → map stored (map Given hashes) ≡ hashes
unfolding stored
stored_given [] = refl
stored_given (hash ∷ hashes) = ap (λ hs. hash ∷ hs) (stored_given hashes)

stored_leaves : (leaves : List (List ℕ)) → map stored (map Leaf leaves) ≡ leaves
unfolding stored
stored_leaves [] = refl
stored_leaves (leaf ∷ leaves) = ap (λ ls. leaf ∷ ls) (stored_leaves leaves)

same_given : (hashes other : List (List ℕ)) → map Given hashes ≡ map Given other → hashes ≡ other
same_given hashes other same = sym (stored_given hashes) ∙ ap (map stored) same ∙ stored_given other

same_leaves : (leaves other : List (List ℕ)) → map Leaf leaves ≡ map Leaf other → leaves ≡ other
same_leaves leaves other same = sym (stored_leaves leaves) ∙ ap (map stored) same ∙ stored_leaves other

-- hashes of 32 bytes
pub digests_sized : (leaves : List (List ℕ)) → AreHashes (map leaf_digest leaves)
digests_sized [] = tt
digests_sized (leaf ∷ leaves) = (leaf_digest-length leaf, digests_sized leaves)

-- a list's own part of a range
pub part_length : {X : Type 0} (a b : ℕ) (list : List X) → a ≤ b → b ≤ length list → length (part_between a b list) ≡ b - a
part_length a b list some within = length-take-le (b - a) (drop a list) (omega (arith, length-drop a list))

pub own_given_joins : (count a b : ℕ) (inner : List Tree) (hashes : List (List ℕ)) → a < b → b ≤ count → length inner ≡ b - a
    → Joins (places_between a b) count inner (roots_outside hashes count a b) (range_tree count a b inner (roots_outside hashes count a b))
own_given_joins count a b inner hashes some within fits = record {
  places = inner_count count a b inner some within fits;
  segments = length-map (cover (others (places_between a b)) count) (λ segment. segment_root hashes segment.level segment.index);
  joined = joined_is count a b inner (roots_outside hashes count a b);
}

-- it joins with its own proof to the list's root
pub own_nodes_root : (a b count : ℕ) (hashes : List (List ℕ)) → a ≤ b → b ≤ count → count ≡ length hashes
    → hash_of (range_tree count a b (map Given (part_between a b hashes)) (roots_outside hashes count a b)) ≡ node_root_of hashes
own_nodes_root a b count hashes some within is =
    ap hash_of (joined_is count a b (map Given (part_between a b hashes)) (roots_outside hashes count a b))
    ∙ ap (λ n. hash_of (joined_within (places_between a b) n n 0 (map Given (part_between a b hashes)) (roots_outside hashes n a b))) is
    ∙ own_range_joins a b hashes some (omega arith)

part_digests : (a b : ℕ) (leaves : List (List ℕ)) → map leaf_digest (part_between a b leaves) ≡ part_between a b (map leaf_digest leaves)
part_digests a b leaves = sym (take-map leaf_digest (b - a) (drop a leaves)) ∙ ap (take (b - a)) (sym (drop-map leaf_digest a leaves))

-- the same of leaves
pub own_leaves_root : (a b count : ℕ) (leaves : List (List ℕ)) → a ≤ b → b ≤ count → count ≡ length leaves
    → hash_of (range_tree count a b (map Leaf (part_between a b leaves)) (roots_outside (map leaf_digest leaves) count a b)) ≡ root_of leaves
own_leaves_root a b count leaves some within is =
    sym (leaf_trees count a b (part_between a b leaves) (roots_outside (map leaf_digest leaves) count a b))
    ∙ ap (λ hashes. hash_of (range_tree count a b (map Given hashes) (roots_outside (map leaf_digest leaves) count a b))) (part_digests a b leaves)
    ∙ own_nodes_root a b count (map leaf_digest leaves) some within (is ∙ sym (length-map leaves leaf_digest))

nodes_by : (own nodes roots hashes : List (List ℕ)) (tree other : Tree) → ((map Given own ≡ map Given nodes) × (roots ≡ hashes)) ⊎ Collides tree other → ((nodes ≡ own) × (hashes ≡ roots)) ⊎ Collides tree other
nodes_by own nodes roots hashes tree other (inl same) = inl (sym (same_given own nodes same.0), sym same.1)
nodes_by own nodes roots hashes tree other (inr clash) = inr clash

leaves_by : (own leaves roots hashes : List (List ℕ)) (tree other : Tree) → ((map Leaf own ≡ map Leaf leaves) × (roots ≡ hashes)) ⊎ Collides tree other → ((leaves ≡ own) × (hashes ≡ roots)) ⊎ Collides tree other
leaves_by own leaves roots hashes tree other (inl same) = inl (sym (same_leaves own leaves same.0), sym same.1)
leaves_by own leaves roots hashes tree other (inr clash) = inr clash

pub another_nodes : (list : List (List ℕ)) (root : List ℕ) (a b : ℕ) (nodes hashes : List (List ℕ)) → a < b → b ≤ length list → node_root_of list ≡ root
    → AreHashes list → AreHashes nodes → AreHashes hashes → IsRangeProof root (length list) a b (map Given nodes) hashes
    → ((nodes ≡ part_between a b list) × (hashes ≡ roots_outside list (length list) a b)) ⊎ Collides (own_nodes_tree list a b) (range_tree (length list) a b (map Given nodes) hashes)
another_nodes list root a b nodes hashes some within is sized nodes_sized hashes_sized proof =
    let own = part_between a b list in
    let roots = roots_outside list (length list) a b in
    let own_length : length (map Given own) ≡ b - a = length-map own Given ∙ part_length a b list (omega arith) within in
    let own_joins = own_given_joins (length list) a b (map Given own) list some within own_length in
    let counts : length own ≡ length nodes = sym (length-map own Given) ∙ own_joins.places ∙ sym proof.joins.places ∙ length-map nodes Given in
    nodes_by own nodes roots hashes (own_nodes_tree list a b) (range_tree (length list) a b (map Given nodes) hashes)
    (joins_collide (places_between a b) (length list) (map Given own) (map Given nodes) roots hashes (own_nodes_tree list a b) (range_tree (length list) a b (map Given nodes) hashes)
    own_joins proof.joins
    (given_sized own (take_sized (b - a) (drop a list) (drop_sized a list sized))) (roots_sized list (cover (others (places_between a b)) (length list)) sized) (given_sized nodes nodes_sized) hashes_sized
    (given_shapes own nodes counts) (own_nodes_root a b (length list) list (omega arith) within refl ∙ is ∙ sym proof.gives))

pub another_range : (bytes root : List ℕ) (a b : ℕ) (leaves hashes : List (List ℕ)) → a < b → b ≤ leaf_count (length bytes) → root_of (leaves_of bytes) ≡ root
    → AreHashes hashes → IsRangeProof root (leaf_count (length bytes)) a b (map Leaf leaves) hashes
    → ((leaves ≡ part_between a b (leaves_of bytes)) × (hashes ≡ roots_outside (map leaf_digest (leaves_of bytes)) (leaf_count (length bytes)) a b))
    ⊎ Collides (own_range_tree bytes a b) (range_tree (leaf_count (length bytes)) a b (map Leaf leaves) hashes)
another_range bytes root a b leaves hashes some within is hashes_sized proof =
    let count = leaf_count (length bytes) in
    let list = leaves_of bytes in
    let counted : length (leaves_of bytes) ≡ leaf_count (length bytes) = length-leaves bytes in
    let own = part_between a b (leaves_of bytes) in
    let roots = roots_outside (map leaf_digest list) count a b in
    let own_length : length (map Leaf own) ≡ b - a = length-map own Leaf ∙ part_length a b list (omega arith) (omega arith) in
    let own_joins = own_given_joins count a b (map Leaf own) (map leaf_digest list) some within own_length in
    let counts : length own ≡ length leaves = sym (length-map own Leaf) ∙ own_joins.places ∙ sym proof.joins.places ∙ length-map leaves Leaf in
    leaves_by own leaves roots hashes (own_range_tree bytes a b) (range_tree count a b (map Leaf leaves) hashes)
    (joins_collide (places_between a b) count (map Leaf own) (map Leaf leaves) roots hashes (own_range_tree bytes a b) (range_tree count a b (map Leaf leaves) hashes)
    own_joins proof.joins
    (leaves_sized own) (roots_sized (map leaf_digest list) (cover (others (places_between a b)) count) (digests_sized list)) (leaves_sized leaves) hashes_sized
    (leaf_shapes own leaves counts) (own_leaves_root a b count list (omega arith) within (sym counted) ∙ is ∙ sym proof.gives))
