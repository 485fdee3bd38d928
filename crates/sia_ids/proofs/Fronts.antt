-- A text, cut between what stands before its index and the index.
use Rattle.std.proofs.Common.{◌≡◌, ◌++◌, List, ℕ, refl}
use Rattle.std.proofs.lemmas.List.{append_assoc}
use Rattle.sia_blake.specs.Blake2b.{blake2b_256}
use Rattle.sia_encoding.specs.Spelling.{spelled_u64}
use Rattle.sia_ids.specs.Transactions.{id_behind}

-- behind a label and a body stands the digest of both and the index
pub behind_both : (text body : List ℕ) (index : ℕ) → id_behind (text ++ body) index ≡ blake2b_256 (text ++ (body ++ spelled_u64 index))
unfolding id_behind
behind_both text body index = rw (append_assoc text body (spelled_u64 index)) refl
