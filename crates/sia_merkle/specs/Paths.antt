-- The way from a leaf up to the root, and what a storage proof of one leaf has to be (the Sia whitepaper, "Storage
-- proofs").
use Rattle.std.specs.Prelude.{ℕ, zero, suc, ◌-◌, ◌*◌, ◌^◌, ◌≡◌, nat_le, nat_lt, nat_eq, List, [], ◌∷◌, ◌++◌, length, map, take, drop, Option, Some, None, if◌then◌else◌}
use Rattle.sia_merkle.specs.Computations.{Tree, hash_of}
use Rattle.sia_merkle.specs.Computations.Tree.{Given, Leaf, Node}
use Rattle.sia_merkle.specs.Roots.{leaf_at, leaf_count, leaf_digest, leaves_of, tree_root}

-- on which side of the path a hash stands
pub data Side : Type 0 where
  Left : Side
  Right : Side

-- The sides of the hashes beside the path of a place in a tree of so many leaves, upwards, where the leaves are at most
-- 2 ^ height.
unfoldable pub sides : ℕ → ℕ → ℕ → List Side
sides zero count place = []
sides (suc height) count place =
    if nat_le count (2 ^ height) then sides height count place
    else (if nat_lt place (2 ^ height) then sides height (2 ^ height) place ++ Right ∷ [] else sides height (count - 2 ^ height) (place - 2 ^ height) ++ Left ∷ [])

-- the same for any number of leaves
unfoldable pub path_of : ℕ → ℕ → List Side
path_of count place = sides count count place

-- a node of what was computed below and the hash beside it
abbrev pub beside : Tree → Side → List ℕ → Tree
beside below Left hash = Node (Given hash) below
beside below Right hash = Node below (Given hash)

-- the hashes beside a path, joined upwards
unfoldable pub climbed : Tree → List Side → List (List ℕ) → Tree
climbed below [] hashes = below
climbed below (side ∷ path) [] = below
climbed below (side ∷ path) (hash ∷ hashes) = climbed (beside below side hash) path hashes

-- a leaf of 64 bytes, cut to what a byte string of this size has at the place
abbrev pub cut_leaf : ℕ → ℕ → List ℕ → List ℕ
cut_leaf size place leaf = take (size - 64 * place) leaf

-- the computation of a root from a leaf and the hashes beside its path
abbrev pub leaf_tree : ℕ → ℕ → List ℕ → List (List ℕ) → Tree
leaf_tree size place leaf hashes = climbed (Leaf (cut_leaf size place leaf)) (path_of (leaf_count size) place) hashes

-- The hashes upwards along the path of the place, joined to the leaf, give the root, and each one is used.
pub record IsCorrect (root : List ℕ) (size place : ℕ) (leaf : List ℕ) (hashes : List (List ℕ)) : Type 0 where
  pub used : length hashes ≡ length (path_of (leaf_count size) place)
  pub joined : hash_of (leaf_tree size place leaf hashes) ≡ root

-- the hashes beside the path of a place in the tree over these hashes, at most 2 ^ height of them, upwards
unfoldable pub hashes_beside : ℕ → List (List ℕ) → ℕ → List (List ℕ)
hashes_beside zero hashes place = []
hashes_beside (suc height) hashes place =
    if nat_le (length hashes) (2 ^ height) then hashes_beside height hashes place
    else (if nat_lt place (2 ^ height)
    then hashes_beside height (take (2 ^ height) hashes) place ++ tree_root height (drop (2 ^ height) hashes) ∷ []
    else hashes_beside height (drop (2 ^ height) hashes) (place - 2 ^ height) ++ tree_root height (take (2 ^ height) hashes) ∷ [])

-- the proof of a leaf of a list whose leaves have these hashes
unfoldable pub leaf_proof : List (List ℕ) → ℕ → List (List ℕ)
leaf_proof hashes place = hashes_beside (length hashes) hashes place

-- the computation of a byte string's root from one of its leaves and its proof
abbrev pub own_leaf_tree : List ℕ → ℕ → Tree
own_leaf_tree bytes place = climbed (Leaf (leaf_at bytes place)) (path_of (leaf_count (length bytes)) place) (leaf_proof (map leaf_digest (leaves_of bytes)) place)

-- what joining a hash upwards gives; nothing where a hash is missing or left over
abbrev pub joined_upwards : List ℕ → List Side → List (List ℕ) → Option (List ℕ)
joined_upwards below path hashes = if nat_eq (length hashes) (length path) then Some (hash_of (climbed (Given below) path hashes)) else None
