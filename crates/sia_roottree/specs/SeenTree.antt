-- What a contract sees of a tree that keeps its nodes (the Sia whitepaper's Merkle tree: a contract's root is the root
-- over the roots of its sectors). That root is defined in sia_merkle; nothing new is here.
use Rattle.std.specs.Prelude.{ℕ, List}

-- the hashes in their order, and for how many more there is room
pub record TreeView : Type 0 where
  pub hashes : List (List ℕ)
  pub spare : ℕ
