-- Signatures of transactions, and what they cover: each record is its fields in order (siad's types/signatures.go;
-- siad's doc/Encoding.md).
use Rattle.std.specs.Prelude.{refl}
use Rattle.sia_encoding.specs.Codec.{Codec, Lawful}
use Rattle.sia_encoding.specs.Items.{byte_string, hash, list_of, number, truth}
use Rattle.sia_encoding.specs.Records.{◌&◌, Record, record_of, recorded}
use Rattle.sia_encoding.specs.ItemLaws.{byte_string_law, hash_law, list_law, number_law, truth_law}
use Rattle.sia_encoding.specs.RecordLaws.{◌&&&◌, record_law}
use Rattle.sia_types.specs.declared.signature.Covered.{Covered}
use Rattle.sia_types.specs.declared.signature.Signature.{Signature}

-- the fields of what a signature covers
abbrev pub covered_record : Record Covered
covered_record = record_of
    (truth & list_of number & list_of number & list_of number & list_of number & list_of number & list_of number & list_of number & list_of number & list_of number & list_of number)
    (λ p. record { whole = p.0; coin_inputs = p.1.0; coin_outputs = p.1.1.0; contracts = p.1.1.1.0; revisions = p.1.1.1.1.0; proofs = p.1.1.1.1.1.0; fund_inputs = p.1.1.1.1.1.1.0; fund_outputs = p.1.1.1.1.1.1.1.0; fees = p.1.1.1.1.1.1.1.1.0; notes = p.1.1.1.1.1.1.1.1.1.0; signatures = p.1.1.1.1.1.1.1.1.1.1 })
    (λ r. (r.whole, (r.coin_inputs, (r.coin_outputs, (r.contracts, (r.revisions, (r.proofs, (r.fund_inputs, (r.fund_outputs, (r.fees, (r.notes, r.signatures)))))))))))

-- what a signature covers
abbrev pub covered : Codec Covered
covered = recorded covered_record

-- its reading gives back what its spelling writes
pub covered_law : Lawful covered
covered_law = record_law covered_record (λ p. refl) (λ r. refl) (truth_law &&& list_law number_law &&& list_law number_law &&& list_law number_law &&& list_law number_law &&& list_law number_law &&& list_law number_law &&& list_law number_law &&& list_law number_law &&& list_law number_law &&& list_law number_law)

-- the fields of a signature of a transaction
abbrev pub signature_record : Record Signature
signature_record = record_of
    (hash & number & number & covered & byte_string)
    (λ p. record { parent = p.0; key_index = p.1.0; timelock = p.1.1.0; covered = p.1.1.1.0; signature = p.1.1.1.1 })
    (λ r. (r.parent, (r.key_index, (r.timelock, (r.covered, r.signature)))))

-- a signature of a transaction
abbrev pub signature : Codec Signature
signature = recorded signature_record

-- its reading gives back what its spelling writes
pub signature_law : Lawful signature
signature_law = record_law signature_record (λ p. refl) (λ r. refl) (hash_law &&& number_law &&& number_law &&& covered_law &&& byte_string_law)
