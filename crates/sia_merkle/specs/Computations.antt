-- How a root is computed, as a tree of its own. Roots of lists, proofs of one leaf, of a range and of a diff are all
-- computed so, and two of them are compared here, once for all.
use Rattle.std.specs.Prelude.{ℕ, ◌≡◌, List, [], ◌∷◌, ◌++◌, Bool, false, ◌&&◌, nat_eq, length, if◌then◌else◌, Option, Some, None}
use Rattle.std.specs.Cmp.Lexicographic.{pointwise}
use Rattle.std.specs.Option.{option_or}
use Rattle.sia_merkle.specs.Collision.{Collision}
use Rattle.sia_merkle.specs.Roots.{leaf_digest, node_digest}

-- a hash that is given, a leaf whose bytes are given, or a node over two computations
pub data Tree : Type 0 where
  Given : (hash : List ℕ) → Tree
  Leaf : (bytes : List ℕ) → Tree
  Node : (left right : Tree) → Tree

-- the hash that is computed
unfoldable pub hash_of : Tree → List ℕ
hash_of (Given hash) = hash
hash_of (Leaf bytes) = leaf_digest bytes
hash_of (Node left right) = node_digest (hash_of left) (hash_of right)

-- the bytes that are hashed at its top
unfoldable pub text_of : Tree → List ℕ
text_of (Given hash) = hash
text_of (Leaf bytes) = 0 ∷ bytes
text_of (Node left right) = 1 ∷ hash_of left ++ hash_of right

-- whether two computations are one
unfoldable pub same_tree : Tree → Tree → Bool
same_tree (Given hash) (Given other) = pointwise nat_eq hash other
same_tree (Leaf bytes) (Leaf other) = pointwise nat_eq bytes other
same_tree (Node left right) (Node left' right') = same_tree left left' && same_tree right right'
same_tree _ _ = false

-- the two byte strings that are hashed at their tops, where these have one hash
abbrev pub at_tops : Tree → Tree → Option (List ℕ × List ℕ)
at_tops tree other = if pointwise nat_eq (hash_of tree) (hash_of other) then Some (text_of tree, text_of other) else None

-- The pair of byte strings at which two computations clash, if there is one. Take the path from the root to their first
-- difference from the left: it is the pair that is hashed at the lowest point of the path where the two hashes are equal.
unfoldable pub clash : Tree → Tree → Option (List ℕ × List ℕ)
clash (Node left right) (Node left' right') = option_or (if same_tree left left' then clash right right' else clash left left') (at_tops (Node left right) (Node left' right'))
clash tree other = at_tops tree other

-- both are given hashes, both are leaves, or both are nodes over two of one shape
unfoldable pub HaveOneShape : Tree → Tree → Type 0
HaveOneShape (Given hash) (Given other) = Unit {0}
HaveOneShape (Leaf bytes) (Leaf other) = Unit {0}
HaveOneShape (Node left right) (Node left' right') = HaveOneShape left left' × HaveOneShape right right'
HaveOneShape _ _ = ⊥

-- each hash that is given has 32 bytes
unfoldable pub IsSized : Tree → Type 0
IsSized (Given hash) = length hash ≡ 32
IsSized (Leaf bytes) = Unit {0}
IsSized (Node left right) = IsSized left × IsSized right

-- each of these hashes has 32 bytes
abbrev pub AreHashes : List (List ℕ) → Type 0
AreHashes [] = Unit {0}
AreHashes (hash ∷ hashes) = (length hash ≡ 32) × AreHashes hashes

-- there is such a pair, and it is a collision
abbrev pub IsCollision : Option (List ℕ × List ℕ) → Type 0
IsCollision None = ⊥
IsCollision (Some (text, other)) = Collision text other

-- the clash of two computations is a collision
abbrev pub Collides : Tree → Tree → Type 0
Collides tree other = IsCollision (clash tree other)
