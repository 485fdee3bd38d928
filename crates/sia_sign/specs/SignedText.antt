-- What a signature of a transaction signs: what it covers, then its own parent, key index and timelock, then the signatures
-- that it covers (siad's types/signatures.go; the bytes are this project's own).
use Rattle.std.specs.Prelude.{ℕ, Bool, List, [], ◌++◌, Option, slice_get, if◌then◌else◌}
use Rattle.std.specs.List.{flat_map}
use Rattle.std.specs.Option.{option_map_or}
use Rattle.sia_blake.specs.Blake2b.{blake2b_256}
use Rattle.sia_encoding.specs.Codec.{Codec}
use Rattle.sia_encoding.specs.Items.{byte_string, currency}
use Rattle.sia_encoding.specs.Spelling.{spelled_u64}
use Rattle.sia_types.specs.declared.signature.Covered.{Covered}
use Rattle.sia_types.specs.declared.signature.Signature.{Signature}
use Rattle.sia_types.specs.declared.transaction.Transaction.{Transaction}
use Rattle.sia_types.specs.Coins.{coin_input, coin_output}
use Rattle.sia_types.specs.FileContracts.{file_contract, revision, storage_proof}
use Rattle.sia_types.specs.Funds.{fund_input, fund_output}
use Rattle.sia_types.specs.Signatures.{signature}
use Rattle.sia_types.specs.Transaction.{unsigned}

-- the spelling of the element at an index, and nothing past the end
abbrev pub spelled_at : {X : Type 0} → Codec X → List X → ℕ → List ℕ
spelled_at codec all i = option_map_or codec.spelled (slice_get all i) []

-- the spellings of the elements at these indices, one behind the other
abbrev pub spelled_each : {X : Type 0} → Codec X → List X → List ℕ → List ℕ
spelled_each codec all indices = flat_map (spelled_at codec all) indices

-- the elements that are covered one by one, list by list
unfoldable pub covered_elements : Transaction → Covered → List ℕ
covered_elements tx c =
    spelled_each coin_input tx.coin_inputs c.coin_inputs
    ++ (spelled_each coin_output tx.coin_outputs c.coin_outputs
    ++ (spelled_each file_contract tx.contracts c.contracts
    ++ (spelled_each revision tx.revisions c.revisions
    ++ (spelled_each storage_proof tx.proofs c.proofs
    ++ (spelled_each fund_input tx.fund_inputs c.fund_inputs
    ++ (spelled_each fund_output tx.fund_outputs c.fund_outputs
    ++ (spelled_each currency tx.fees c.fees
    ++ spelled_each byte_string tx.notes c.notes)))))))

-- what is covered of all but the signatures: everything, or the elements that are named
unfoldable pub covered_text : Transaction → Covered → List ℕ
covered_text tx c = if c.whole then unsigned tx else covered_elements tx c

-- what a signature says of itself, and the signatures that it covers
unfoldable pub own_text : Transaction → Signature → List ℕ
own_text tx s = s.parent ++ (spelled_u64 s.key_index ++ (spelled_u64 s.timelock ++ spelled_each signature tx.signatures s.covered.signatures))

-- the hash that a signature signs
unfoldable pub signed_hash : Transaction → Signature → List ℕ
signed_hash tx s = blake2b_256 (covered_text tx s.covered ++ own_text tx s)
