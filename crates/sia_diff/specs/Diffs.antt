-- What a diff proof shows: from the old hashes at the touched places and the roots of the cover of the untouched ones, the
-- old root is computed, and then the new one (RHP2; `merkletree.BuildDiffProof` and `VerifyDiffProof` of Sia's Go library).
use Rattle.std.specs.Prelude.{ℕ, ◌≡◌, nat_le, Bool, ◌||◌, List, [], ◌∷◌, length, map, drop, slice_index_or, if◌then◌else◌}
use Rattle.std.specs.List.{range_with_len, filter}
use Rattle.sia_merkle.specs.Computations.{Tree, hash_of}
use Rattle.sia_merkle.specs.Computations.Tree.{Given}
use Rattle.sia_merkle.specs.Roots.{first_hash, node_root_of}
use Rattle.sia_merkle.specs.Segments.{cover, joined_within, others, segment_roots, Joins}
use Rattle.sia_diff.specs.declared.steps.DiffStep.{DiffStep}
use Rattle.sia_diff.specs.DiffSteps.{after, count_after, is_touched, touched_places}

-- The places whose hashes are joined one by one: the old ones that are touched, and all from the old count on. The others
-- are the untouched old places, which are there before and after the steps.
abbrev pub touched_or_new : ℕ → List DiffStep → ℕ → Bool
touched_or_new count steps place = nat_le count place || is_touched count steps place

-- the hashes at the chosen places of a list, in order
abbrev pub hashes_at : (ℕ → Bool) → List (List ℕ) → ℕ → List (List ℕ)
hashes_at chosen hashes count = map (λ place. slice_index_or hashes place []) (filter chosen (range_with_len 0 count))

-- the computation of the old root
unfoldable pub old_tree : ℕ → List DiffStep → List (List ℕ) → List (List ℕ) → Tree
old_tree count steps leaves nodes = joined_within (touched_or_new count steps) count count 0 (map Given leaves) nodes

-- Among these places, hashes one by one at those that are chosen. At the others, which no step moves, stands the root of
-- nothing.
unfoldable pub spread : (ℕ → Bool) → List ℕ → List (List ℕ) → List (List ℕ)
spread chosen [] hashes = []
spread chosen (place ∷ places) hashes =
    if chosen place then first_hash hashes ∷ spread chosen places (drop 1 hashes) else first_hash [] ∷ spread chosen places hashes

-- the old hashes at the touched places, put where they stand and moved by the steps
unfoldable pub moved_hashes : ℕ → List DiffStep → List (List ℕ) → List (List ℕ)
moved_hashes count steps leaves = after (spread (touched_or_new count steps) (range_with_len 0 count) leaves) steps

-- The computation of the new root: the same set of places, of which the untouched ones have the same cover, and the hashes
-- that stand there after the steps.
unfoldable pub new_tree : ℕ → List DiffStep → List (List ℕ) → List (List ℕ) → Tree
new_tree count steps leaves nodes =
    joined_within (touched_or_new count steps) (count_after count steps) (count_after count steps) 0
    (map Given (hashes_at (touched_or_new count steps) (moved_hashes count steps leaves) (count_after count steps))) nodes

-- The hashes and roots of a proof join to the old root, and none is missing or left over.
pub record IsDiffOf (root : List ℕ) (count : ℕ) (steps : List DiffStep) (leaves nodes : List (List ℕ)) : Type 0 where
  pub joins : Joins (touched_or_new count steps) count (map Given leaves) nodes (old_tree count steps leaves nodes)
  pub gives : hash_of (old_tree count steps leaves nodes) ≡ root

-- the first part of the proof that a list makes of steps: its hashes at the touched places
abbrev pub own_leaves : List (List ℕ) → List DiffStep → List (List ℕ)
own_leaves hashes steps = map (λ place. slice_index_or hashes place []) (touched_places (length hashes) steps)

-- the second: the roots of the cover of the untouched places
abbrev pub own_nodes : List (List ℕ) → List DiffStep → List (List ℕ)
own_nodes hashes steps = segment_roots hashes (cover (others (touched_or_new (length hashes) steps)) (length hashes))

-- A proof is the list's own, and the new root is that of the list after the steps.
pub record IsOwnDiff (hashes : List (List ℕ)) (steps : List DiffStep) (leaves nodes : List (List ℕ)) : Type 0 where
  pub own_hashes : leaves ≡ own_leaves hashes steps
  pub own_roots : nodes ≡ own_nodes hashes steps
  pub gives : hash_of (new_tree (length hashes) steps leaves nodes) ≡ node_root_of (after hashes steps)
