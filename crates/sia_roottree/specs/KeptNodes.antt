-- Where a tree keeps its nodes (an in-order layout, as a flat interval tree has it). No public clause speaks of it.
use Rattle.std.specs.Prelude.{ℕ, zero, suc, ◌+◌, ◌-◌, ◌*◌, ◌^◌, ◌/◌, ◌≤◌, ◌≡◌, ◌≢◌, ◌⊎◌, List, [], length, slice_index_or}
use Rattle.sia_merkle.specs.Segments.{segment_root}

-- The place of the node over two halves of height `below`, which are at 2 * index and 2 * index + 1: that of the last hash
-- of the left half. No two nodes have one place.
abbrev pub node_place : ℕ → ℕ → ℕ
node_place below index = (2 * index + 1) * 2 ^ below - 1

-- what is kept as the root of a segment: a hash itself, or the node over two halves
unfoldable pub kept_root : List (List ℕ) → List (List ℕ) → ℕ → ℕ → List ℕ
kept_root hashes nodes zero index = slice_index_or hashes index []
kept_root hashes nodes (suc below) index = slice_index_or nodes (node_place below index) []

-- each whole segment's root is kept
abbrev pub AreKept : List (List ℕ) → List (List ℕ) → Type 0
AreKept hashes nodes = (level index : ℕ) → (index + 1) * 2 ^ level ≤ length hashes → kept_root hashes nodes level index ≡ segment_root hashes level index

-- the same, but for the segments higher than `top` that hold a place
abbrev pub AreKeptBeside : ℕ → ℕ → List (List ℕ) → List (List ℕ) → Type 0
AreKeptBeside place top hashes nodes =
    (level index : ℕ) → (index + 1) * 2 ^ level ≤ length hashes → (level ≤ top) ⊎ (index ≢ place / 2 ^ level) → kept_root hashes nodes level index ≡ segment_root hashes level index
