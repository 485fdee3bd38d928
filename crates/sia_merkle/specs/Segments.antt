-- The parts that a tree is made of, and the computation of a root from parts of a list alone. A set of places is given by
-- its test, and a list of hashes by their number.
use Rattle.std.specs.Prelude.{ℕ, zero, suc, ◌+◌, ◌-◌, ◌*◌, ◌^◌, ◌/◌, ◌≡◌, min, nat_le, nat_lt, Bool, not, ◌&&◌, List, [], ◌∷◌, ◌++◌, length, map, take, drop, count_by, if◌then◌else◌}
use Rattle.std.specs.List.{range_with_len, list_all}
use Rattle.sia_merkle.specs.Computations.{Tree}
use Rattle.sia_merkle.specs.Computations.Tree.{Given, Node}
use Rattle.sia_merkle.specs.Roots.{first_hash, tree_root}

-- the places from index * 2 ^ level on, 2 ^ level of them
pub record Segment : Type 0 where
  pub level : ℕ
  pub index : ℕ

-- the root of a segment of the tree over these hashes
abbrev pub segment_root : List (List ℕ) → ℕ → ℕ → List ℕ
segment_root hashes level index = tree_root level (take (2 ^ level) (drop (index * 2 ^ level) hashes))

-- the same of each segment of a list
abbrev pub segment_roots : List (List ℕ) → List Segment → List (List ℕ)
segment_roots hashes = map (λ segment. segment_root hashes segment.level segment.index)

-- the places that are not in a set
abbrev pub others : (ℕ → Bool) → ℕ → Bool
others chosen place = not (chosen place)

-- the places from a to b, without b
abbrev pub places_between : ℕ → ℕ → ℕ → Bool
places_between a b place = nat_le a place && nat_lt place b

-- whether the 2 ^ height places from low on are a segment of the tree over so many hashes, and all of them are chosen
abbrev pub is_covered : (ℕ → Bool) → ℕ → ℕ → ℕ → Bool
is_covered chosen count height low = nat_le (low + 2 ^ height) count && list_all chosen (range_with_len low (2 ^ height))

-- Of the 2 ^ height places from low on: the largest segments that hold chosen places alone, from left to right. The
-- larger ones are tried first.
unfoldable pub cover_within : (ℕ → Bool) → ℕ → ℕ → ℕ → List Segment
cover_within chosen count zero low = if is_covered chosen count 0 low then record { level = 0; index = low } ∷ [] else []
cover_within chosen count (suc height) low =
    if is_covered chosen count (suc height) low then record { level = suc height; index = low / 2 ^ suc height } ∷ []
    else cover_within chosen count height low ++ cover_within chosen count height (low + 2 ^ height)

-- the cover of a set of places in the tree over so many hashes
unfoldable pub cover : (ℕ → Bool) → ℕ → List Segment
cover chosen count = cover_within chosen count count 0

-- the chosen places among the 2 ^ height from low on
abbrev pub places_within : (ℕ → Bool) → ℕ → ℕ → ℕ → ℕ
places_within chosen count height low = count_by chosen (range_with_len low (min (2 ^ height) (count - low)))

-- the first computation
abbrev pub first_tree : List Tree → Tree
first_tree [] = Given (first_hash [])
first_tree (tree ∷ trees) = tree

-- The computation of the root of the 2 ^ height places from low on. `inner` computes the hashes at the chosen places, one
-- by one, and `outer` has the roots of the cover of the others. The recursion is that of a root: it ends at a place, or at
-- a segment without a chosen one, and each part has its own of both lists.
unfoldable pub joined_within : (ℕ → Bool) → ℕ → ℕ → ℕ → List Tree → List (List ℕ) → Tree
joined_within chosen count zero low inner outer = if chosen low then first_tree inner else Given (first_hash outer)
joined_within chosen count (suc height) low inner outer =
    if is_covered (others chosen) count (suc height) low then Given (first_hash outer)
    else (if nat_le count (low + 2 ^ height) then joined_within chosen count height low inner outer
    else Node
    (joined_within chosen count height low (take (places_within chosen count height low) inner) (take (length (cover_within (others chosen) count height low)) outer))
    (joined_within chosen count height (low + 2 ^ height) (drop (places_within chosen count height low) inner) (drop (length (cover_within (others chosen) count height low)) outer)))

-- the same from the roots of the cover of the chosen places, in place of the hashes at each
unfoldable pub joined_segments_within : (ℕ → Bool) → ℕ → ℕ → ℕ → List (List ℕ) → List (List ℕ) → Tree
joined_segments_within chosen count zero low inner outer = if chosen low then Given (first_hash inner) else Given (first_hash outer)
joined_segments_within chosen count (suc height) low inner outer =
    if is_covered chosen count (suc height) low then Given (first_hash inner)
    else (if is_covered (others chosen) count (suc height) low then Given (first_hash outer)
    else (if nat_le count (low + 2 ^ height) then joined_segments_within chosen count height low inner outer
    else Node
    (joined_segments_within chosen count height low (take (length (cover_within chosen count height low)) inner) (take (length (cover_within (others chosen) count height low)) outer))
    (joined_segments_within chosen count height (low + 2 ^ height) (drop (length (cover_within chosen count height low)) inner) (drop (length (cover_within (others chosen) count height low)) outer))))

-- The join of a set of places of so many hashes: what `inner` computes at the chosen places, in order, and `outer`, the
-- roots of the cover of all other places.
pub record Joins (chosen : ℕ → Bool) (count : ℕ) (inner : List Tree) (outer : List (List ℕ)) (tree : Tree) : Type 0 where
  pub places : length inner ≡ count_by chosen (range_with_len 0 count)
  pub segments : length outer ≡ length (cover (others chosen) count)
  pub joined : tree ≡ joined_within chosen count count 0 inner outer

-- the same where `inner` has the roots of the cover of the chosen places
pub record JoinsSegments (chosen : ℕ → Bool) (count : ℕ) (inner outer : List (List ℕ)) (tree : Tree) : Type 0 where
  pub places : length inner ≡ length (cover chosen count)
  pub segments : length outer ≡ length (cover (others chosen) count)
  pub joined : tree ≡ joined_segments_within chosen count count 0 inner outer
