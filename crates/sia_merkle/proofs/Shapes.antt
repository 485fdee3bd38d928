-- The shapes of small trees, written out.
use Rattle.std.proofs.Common.{◌≡◌, ℕ, List, [], ◌∷◌, refl}
use Rattle.std.specs.Prelude.{◌==◌, ◌||◌, replicate}
use Rattle.sia_merkle.specs.Computations.{Tree}
use Rattle.sia_merkle.specs.Computations.Tree.{Given, Node}
use Rattle.sia_merkle.specs.Roots.{node_digest, tree_root, node_root_of}
use Rattle.sia_merkle.specs.Segments.{others, places_between, cover, cover_within, joined_within}

root_of_none : node_root_of [] ≡ replicate 32 0
unfolding tree_root node_root_of
root_of_none = refl

root_of_one : (a : List ℕ) → node_root_of (a ∷ []) ≡ a
unfolding tree_root node_root_of
root_of_one a = refl

root_of_three : (a b c : List ℕ) → node_root_of (a ∷ b ∷ c ∷ []) ≡ node_digest (node_digest a b) c
unfolding tree_root node_root_of
root_of_three a b c = refl

root_of_five : (a b c d e : List ℕ) → node_root_of (a ∷ b ∷ c ∷ d ∷ e ∷ []) ≡ node_digest (node_digest (node_digest a b) (node_digest c d)) e
unfolding tree_root node_root_of
root_of_five a b c d e = refl

root_of_seven : (a b c d e f g : List ℕ) → node_root_of (a ∷ b ∷ c ∷ d ∷ e ∷ f ∷ g ∷ []) ≡ node_digest (node_digest (node_digest a b) (node_digest c d)) (node_digest (node_digest e f) g)
unfolding tree_root node_root_of
root_of_seven a b c d e f g = refl

-- of 7 hashes, those but [1, 3): [0, 1), [3, 4), [4, 6), [6, 7)
cover_of_range : cover (others (places_between 1 3)) 7
    ≡ record { level = 0; index = 0 } ∷ record { level = 0; index = 3 } ∷ record { level = 1; index = 2 } ∷ record { level = 0; index = 6 } ∷ []
unfolding cover cover_within
cover_of_range = refl

-- of 5 hashes, those but the second: the first, the node of the third and fourth, and the last
cover_of_others : cover (others (λ place. place == 1)) 5 ≡ record { level = 0; index = 0 } ∷ record { level = 1; index = 1 } ∷ record { level = 0; index = 4 } ∷ []
unfolding cover cover_within
cover_of_others = refl

-- of 5 hashes, those but the first, third and fifth
cover_between : cover (others (λ place. (place == 0) || (place == 2) || (place == 4))) 5 ≡ record { level = 0; index = 1 } ∷ record { level = 0; index = 3 } ∷ []
unfolding cover cover_within
cover_between = refl

-- the join of [1, 3) of 7 hashes
join_of_range : (x y : Tree) (a b c d : List ℕ)
    → joined_within (places_between 1 3) 7 7 0 (x ∷ y ∷ []) (a ∷ b ∷ c ∷ d ∷ []) ≡ Node (Node (Node (Given a) x) (Node y (Given b))) (Node (Given c) (Given d))
unfolding cover_within joined_within
join_of_range x y a b c d = refl
