-- What a stack of subtrees keeps of the hashes that were pushed. No public clause speaks of it.
use Rattle.std.specs.Prelude.{ℕ, ◌-◌, ◌*◌, ◌^◌, ◌/◌, ◌%◌, ◌<◌, ◌≡◌, List, [], length, take, drop, Option, None, Some}
use Rattle.std.specs.List.{slice_index_or}
use Rattle.sia_merkle.specs.Roots.{node_digest, tree_root}

-- the hashes under the subtree of a height, the last 2 ^ height before a multiple of it
abbrev pub under : ℕ → List (List ℕ) → List (List ℕ)
under height hashes = take (2 ^ height) (drop ((length hashes / 2 ^ height - 1) * 2 ^ height) hashes)

-- for each power of two in the number of hashes, the slot of its height holds the root of its subtree
pub record IsStacked (slots hashes : List (List ℕ)) : Type 0 where
  pub kept : (height : ℕ) → height < 64 → length hashes / 2 ^ height % 2 ≡ 1 → slice_index_or slots height [] ≡ tree_root height (under height hashes)

-- a subtree's root over what is joined to the right of it, if there is anything
abbrev pub over_rest : List ℕ → Option (List ℕ) → List ℕ
over_rest left None = left
over_rest left (Some right) = node_digest left right

-- the root of at most 2 ^ height hashes, if there are any
abbrev pub IsRest : Option (List ℕ) → ℕ → List (List ℕ) → Type 0
IsRest None height hashes = hashes ≡ []
IsRest (Some root) height hashes = (0 < length hashes) × (root ≡ tree_root height hashes)
