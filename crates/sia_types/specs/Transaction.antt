-- Transactions: each record is its fields in order (siad's types/transactions.go; siad's doc/Encoding.md).
use Rattle.std.specs.Prelude.{ℕ, List, refl}
use Rattle.sia_encoding.specs.Codec.{Codec, Lawful}
use Rattle.sia_encoding.specs.Items.{byte_string, currency, list_of}
use Rattle.sia_encoding.specs.Records.{◌&◌, Record, record_of, recorded}
use Rattle.sia_encoding.specs.ItemLaws.{byte_string_law, currency_law, list_law}
use Rattle.sia_encoding.specs.RecordLaws.{◌&&&◌, record_law}
use Rattle.sia_types.specs.declared.transaction.Transaction.{Transaction}
use Rattle.sia_types.specs.Coins.{coin_input, coin_input_law, coin_output, coin_output_law}
use Rattle.sia_types.specs.FileContracts.{file_contract, file_contract_law, revision, revision_law, storage_proof, storage_proof_law}
use Rattle.sia_types.specs.Funds.{fund_input, fund_input_law, fund_output, fund_output_law}
use Rattle.sia_types.specs.Signatures.{signature, signature_law}

-- the fields of a transaction
abbrev pub transaction_record : Record Transaction
transaction_record = record_of
    (list_of coin_input & list_of coin_output & list_of file_contract & list_of revision & list_of storage_proof & list_of fund_input & list_of fund_output & list_of currency & list_of byte_string & list_of signature)
    (λ p. record { coin_inputs = p.0; coin_outputs = p.1.0; contracts = p.1.1.0; revisions = p.1.1.1.0; proofs = p.1.1.1.1.0; fund_inputs = p.1.1.1.1.1.0; fund_outputs = p.1.1.1.1.1.1.0; fees = p.1.1.1.1.1.1.1.0; notes = p.1.1.1.1.1.1.1.1.0; signatures = p.1.1.1.1.1.1.1.1.1 })
    (λ r. (r.coin_inputs, (r.coin_outputs, (r.contracts, (r.revisions, (r.proofs, (r.fund_inputs, (r.fund_outputs, (r.fees, (r.notes, r.signatures))))))))))

-- a transaction
abbrev pub transaction : Codec Transaction
transaction = recorded transaction_record

-- its reading gives back what its spelling writes
pub transaction_law : Lawful transaction
transaction_law = record_law transaction_record (λ p. refl) (λ r. refl) (list_law coin_input_law &&& list_law coin_output_law &&& list_law file_contract_law &&& list_law revision_law &&& list_law storage_proof_law &&& list_law fund_input_law &&& list_law fund_output_law &&& list_law currency_law &&& list_law byte_string_law &&& list_law signature_law)

-- all fields of a transaction but the signatures, in order
abbrev pub unsigned : Transaction → List ℕ
unsigned tx = (list_of coin_input & list_of coin_output & list_of file_contract & list_of revision & list_of storage_proof & list_of fund_input & list_of fund_output & list_of currency & list_of byte_string).spelled (tx.coin_inputs, (tx.coin_outputs, (tx.contracts, (tx.revisions, (tx.proofs, (tx.fund_inputs, (tx.fund_outputs, (tx.fees, tx.notes))))))))
