-- The byte strings whose BLAKE2b-256 digests name transactions and what they make: all fields but the signatures, behind a
-- label and before an index (siad's types/transactions.go and types/filecontracts.go; the labels are there called specifiers).
use Rattle.std.specs.Prelude.{ℕ, Bool, List, ◌++◌, codes}
use Rattle.sia_blake.specs.Blake2b.{blake2b_256}
use Rattle.sia_encoding.specs.Spelling.{label, spelled_u64, spelled_bool}
use Rattle.sia_types.specs.declared.transaction.Transaction.{Transaction}
use Rattle.sia_types.specs.Transaction.{unsigned}

-- a transaction is named by the digest of its fields without the signatures
unfoldable pub transaction_id : Transaction → List ℕ
transaction_id tx = blake2b_256 (unsigned tx)

-- the text of what a transaction makes at an index from 0, by a label
unfoldable pub made_text : List ℕ → Transaction → ℕ → List ℕ
made_text text tx index = label text ++ (unsigned tx ++ spelled_u64 index)

-- the siacoin output at an index from 0 of a transaction
unfoldable pub coin_id : Transaction → ℕ → List ℕ
coin_id tx index = blake2b_256 (made_text (codes "siacoin output") tx index)

-- the siafund output at an index from 0 of a transaction
unfoldable pub fund_id : Transaction → ℕ → List ℕ
fund_id tx index = blake2b_256 (made_text (codes "siafund output") tx index)

-- the file contract at an index from 0 of a transaction
unfoldable pub contract_id : Transaction → ℕ → List ℕ
contract_id tx index = blake2b_256 (made_text (codes "file contract") tx index)

-- what is named by an index behind a text
unfoldable pub id_behind : List ℕ → ℕ → List ℕ
id_behind text index = blake2b_256 (text ++ spelled_u64 index)

-- the text of the claim of the siafund output with this identifier
unfoldable pub claim_text : List ℕ → List ℕ
claim_text fund = label (codes "claim output") ++ fund

-- the claim of the siafund output with this identifier
unfoldable pub claim_id : List ℕ → List ℕ
claim_id fund = blake2b_256 (claim_text fund)

-- the text of an output of a settled contract; the index from 0 counts all outputs, those of value 0 too
unfoldable pub settlement_text : List ℕ → Bool → ℕ → List ℕ
settlement_text contract valid index = label (codes "storage proof") ++ (contract ++ (spelled_bool valid ++ spelled_u64 index))

-- an output of a settled contract
unfoldable pub settlement_id : List ℕ → Bool → ℕ → List ℕ
settlement_id contract valid index = blake2b_256 (settlement_text contract valid index)
