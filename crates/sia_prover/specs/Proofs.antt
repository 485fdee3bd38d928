-- The proof that a host stores a sector of a contract's bytes (Sia whitepaper, "Storage proofs"; siad's types/filecontracts.go):
-- the leaf that is asked for, and the hashes that join it to the root of the contract.
use Rattle.std.specs.Prelude.{ℕ, ◌+◌, ◌-◌, ◌*◌, ◌/◌, ◌^◌, ◌<◌, ◌≡◌, List, ◌++◌, length, map}
use Rattle.sia_ids.specs.Conditions.{segment_index}
use Rattle.sia_merkle.specs.Paths.{IsCorrect, leaf_proof}
use Rattle.sia_merkle.specs.Roots.{leaf_at, leaf_count, leaf_digest, leaves_of, node_root_of}
use Rattle.sia_types.specs.declared.file_contracts.StorageProof.{StorageProof}

-- the place of the leaf that the identifiers of the trigger block and of the contract choose, among the leaves of so many
-- sectors, each of which has so many bytes
unfoldable pub chosen_leaf : List ℕ → List ℕ → ℕ → ℕ → ℕ
chosen_leaf trigger contract sectors size = segment_index trigger contract (sectors * leaf_count size)

-- The proof of that leaf, which stands in the sector at a place of a list of roots: the leaf, and the hashes beside its path,
-- upwards, first through the sector and then through the list.
unfoldable pub sector_proof : List ℕ → ℕ → List (List ℕ) → List ℕ → List ℕ → StorageProof
sector_proof sector place roots trigger contract =
    let within = chosen_leaf trigger contract (length roots) (length sector) - place * leaf_count (length sector) in
    record { parent = contract; leaf = leaf_at sector within; hashes = leaf_proof (map leaf_digest (leaves_of sector)) within ++ leaf_proof roots place }

-- A proof is right for the leaf that is chosen among all leaves of the sectors with these roots, each of which has so many
-- bytes: it joins to the root over their leaves, which is the root over their roots.
abbrev pub IsRightProof : List (List ℕ) → ℕ → List ℕ → List ℕ → StorageProof → Type 0
IsRightProof roots size trigger contract proof = IsCorrect (node_root_of roots) (length roots * size) (chosen_leaf trigger contract (length roots) size) proof.leaf proof.hashes
