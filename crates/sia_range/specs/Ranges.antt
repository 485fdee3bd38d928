-- Proofs of a range of places under the root of a tree: what stands at the places, and the roots of the largest subtrees
-- that cover all other places (RHP2; `merkletree.BuildRangeProof` of Sia's Go library).
use Rattle.std.specs.Prelude.{ℕ, ◌-◌, ◌≡◌, List, ◌++◌, length, map, take, drop}
use Rattle.sia_merkle.specs.Computations.{Tree, hash_of}
use Rattle.sia_merkle.specs.Computations.Tree.{Given, Leaf}
use Rattle.sia_merkle.specs.Roots.{leaf_count, leaf_digest, leaves_of, root_of}
use Rattle.sia_merkle.specs.Segments.{cover, others, places_between, joined_within, joined_segments_within, segment_roots, Joins, JoinsSegments}

-- the computation of a root from what stands at the places from a to b, and the roots of the cover of all others
unfoldable pub range_tree : ℕ → ℕ → ℕ → List Tree → List (List ℕ) → Tree
range_tree count a b inner outer = joined_within (places_between a b) count count 0 inner outer

-- What stands at the places from a to b and the hashes of a proof join to the root, and no hash is missing or left over.
pub record IsRangeProof (root : List ℕ) (count a b : ℕ) (inner : List Tree) (hashes : List (List ℕ)) : Type 0 where
  pub joins : Joins (places_between a b) count inner hashes (range_tree count a b inner hashes)
  pub gives : hash_of (range_tree count a b inner hashes) ≡ root

-- the computation of a root from the roots of the cover of the places from a to b, and those of the cover of all others
unfoldable pub segments_tree : ℕ → ℕ → ℕ → List (List ℕ) → List (List ℕ) → Tree
segments_tree count a b inner outer = joined_segments_within (places_between a b) count count 0 inner outer

-- The roots of both covers join to the root, and none is missing or left over.
pub record IsUpdateOf (root : List ℕ) (count a b : ℕ) (inner outer : List (List ℕ)) : Type 0 where
  pub joins : JoinsSegments (places_between a b) count inner outer (segments_tree count a b inner outer)
  pub gives : hash_of (segments_tree count a b inner outer) ≡ root

-- what a list has at the places from a to b
abbrev pub part_between : {X : Type 0} → ℕ → ℕ → List X → List X
part_between a b list = take (b - a) (drop a list)

-- the list with a part in the place of what stands from a to b
abbrev pub replaced : {X : Type 0} → ℕ → ℕ → List X → List X → List X
replaced a b part list = take a list ++ (part ++ drop b list)

-- the roots of the cover of the places from a to b of so many hashes
abbrev pub roots_inside : List (List ℕ) → ℕ → ℕ → ℕ → List (List ℕ)
roots_inside hashes count a b = segment_roots hashes (cover (places_between a b) count)

-- the roots of the cover of all others
abbrev pub roots_outside : List (List ℕ) → ℕ → ℕ → ℕ → List (List ℕ)
roots_outside hashes count a b = segment_roots hashes (cover (others (places_between a b)) count)

-- the computation of a byte string's root from its own leaves at the places from a to b, and its own proof of them
abbrev pub own_range_tree : List ℕ → ℕ → ℕ → Tree
own_range_tree bytes a b =
    range_tree (leaf_count (length bytes)) a b (map Leaf (part_between a b (leaves_of bytes))) (roots_outside (map leaf_digest (leaves_of bytes)) (leaf_count (length bytes)) a b)

-- the same of a list of hashes
abbrev pub own_nodes_tree : List (List ℕ) → ℕ → ℕ → Tree
own_nodes_tree hashes a b = range_tree (length hashes) a b (map Given (part_between a b hashes)) (roots_outside hashes (length hashes) a b)

-- the computation of a byte string's root from the roots of both covers
abbrev pub own_update_tree : List ℕ → ℕ → ℕ → Tree
own_update_tree bytes a b =
    segments_tree (leaf_count (length bytes)) a b (roots_inside (map leaf_digest (leaves_of bytes)) (leaf_count (length bytes)) a b) (roots_outside (map leaf_digest (leaves_of bytes)) (leaf_count (length bytes)) a b)

-- The roots of an update are a byte string's own, and what they join to with new leaves is the root of its list of leaves
-- with these in the place of the old ones.
pub record IsOwnUpdate (bytes new : List ℕ) (a b : ℕ) (inner outer : List (List ℕ)) : Type 0 where
  pub inside : inner ≡ roots_inside (map leaf_digest (leaves_of bytes)) (leaf_count (length bytes)) a b
  pub outside : outer ≡ roots_outside (map leaf_digest (leaves_of bytes)) (leaf_count (length bytes)) a b
  pub after : hash_of (range_tree (leaf_count (length bytes)) a b (map Leaf (leaves_of new)) outer) ≡ root_of (replaced a b (leaves_of new) (leaves_of bytes))
