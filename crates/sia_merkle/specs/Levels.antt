-- The levels of a tree, counted upwards from the hashes at its bottom. No public clause speaks of them.
use Rattle.std.specs.Prelude.{ℕ, zero, suc, List, [], ◌∷◌}
use Rattle.sia_merkle.specs.Roots.{node_digest}

-- the hashes one level up: a node over each pair of neighbours, and a last one without a neighbour as it is
unfoldable pub pairs : List (List ℕ) → List (List ℕ)
pairs [] = []
pairs (hash ∷ []) = hash ∷ []
pairs (left ∷ right ∷ hashes) = node_digest left right ∷ pairs hashes

-- the hashes so many levels up
unfoldable pub levels_up : ℕ → List (List ℕ) → List (List ℕ)
levels_up zero hashes = hashes
levels_up (suc height) hashes = levels_up height (pairs hashes)
