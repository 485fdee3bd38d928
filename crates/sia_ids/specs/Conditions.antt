-- Addresses, and the leaf that a storage proof has to prove (siad's types/unlockhash.go and types/filecontracts.go).
use Rattle.std.specs.Prelude.{ℕ, ◌%◌, List, [], ◌∷◌, ◌++◌, map, take}
use Rattle.std.specs.Int.{from_be_bytes, w64}
use Rattle.sia_blake.specs.Blake2b.{blake2b_256}
use Rattle.sia_encoding.specs.Spelling.{spelled_u64}
use Rattle.sia_merkle.specs.Roots.{root_of}
use Rattle.sia_types.specs.declared.conditions.UnlockConditions.{UnlockConditions}
use Rattle.sia_types.specs.Conditions.{public_key}

-- the address of conditions: the root over the leaves timelock, keys and number of required keys
unfoldable pub unlock_hash : UnlockConditions → List ℕ
unlock_hash c = root_of (spelled_u64 c.timelock ∷ (map public_key.spelled c.keys ++ spelled_u64 c.required ∷ []))

-- the place of a storage proof among so many leaves: the first 8 bytes of the digest over the trigger block's identifier and
-- the contract's, the highest first, modulo the count
unfoldable pub segment_index : List ℕ → List ℕ → ℕ → ℕ
segment_index trigger contract count = from_be_bytes w64 (take 8 (blake2b_256 (trigger ++ contract))) % count
