-- The Merkle tree of the Sia whitepaper, over BLAKE2b-256, as Sia's Go library `merkletree` builds it. A leaf and a
-- node are hashed behind different bytes, so that neither can pass for the other.
use Rattle.std.specs.Prelude.{ℕ, zero, suc, ◌+◌, ◌*◌, ◌^◌, ◌/◌, nat_le, List, [], ◌∷◌, ◌++◌, length, map, take, drop, replicate, if◌then◌else◌}
use Rattle.std.specs.List.{range_with_len}
use Rattle.sia_blake.specs.Blake2b.{blake2b_256}

-- the digest of a leaf, whatever its length
unfoldable pub leaf_digest : List ℕ → List ℕ
leaf_digest leaf = blake2b_256 (0 ∷ leaf)

-- the digest of a node over the digests of its two parts
unfoldable pub node_digest : List ℕ → List ℕ → List ℕ
node_digest left right = blake2b_256 (1 ∷ left ++ right)

-- the first hash; that of nothing is 32 zero bytes
abbrev pub first_hash : List (List ℕ) → List ℕ
first_hash [] = replicate 32 0
first_hash (hash ∷ hashes) = hash

-- The root over at most 2 ^ height hashes. The powers of two are tried from the largest one on, and the first that is
-- below the number of hashes splits them: the left part holds that many, and the right part the rest.
unfoldable pub tree_root : ℕ → List (List ℕ) → List ℕ
tree_root zero hashes = first_hash hashes
tree_root (suc height) hashes =
    if nat_le (length hashes) (2 ^ height) then tree_root height hashes
    else node_digest (tree_root height (take (2 ^ height) hashes)) (tree_root height (drop (2 ^ height) hashes))

-- the root over hashes: 32 zero bytes for none, the hash itself for one, else a node over the split at the largest power
-- of two below their number
unfoldable pub node_root_of : List (List ℕ) → List ℕ
node_root_of hashes = tree_root (length hashes) hashes

-- the root over leaves: the same over their digests
abbrev pub root_of : List (List ℕ) → List ℕ
root_of leaves = node_root_of (map leaf_digest leaves)

-- the leaves of so many bytes
abbrev pub leaf_count : ℕ → ℕ
leaf_count size = (size + 63) / 64

-- the leaf at a place of a byte string: 64 bytes, or what is left of them in the last one
abbrev pub leaf_at : List ℕ → ℕ → List ℕ
leaf_at bytes place = take 64 (drop (64 * place) bytes)

-- the leaves of a byte string, in order
unfoldable pub leaves_of : List ℕ → List (List ℕ)
leaves_of bytes = map (leaf_at bytes) (range_with_len 0 (leaf_count (length bytes)))
