-- File contracts, their revisions and storage proofs: each record is its fields in order (siad's
-- types/filecontracts.go; siad's doc/Encoding.md).
use Rattle.std.specs.Prelude.{refl}
use Rattle.sia_encoding.specs.Codec.{Codec, Lawful}
use Rattle.sia_encoding.specs.Items.{currency, fixed, hash, list_of, number}
use Rattle.sia_encoding.specs.Records.{◌&◌, Record, record_of, recorded}
use Rattle.sia_encoding.specs.CodecLaws.{fixed_law}
use Rattle.sia_encoding.specs.ItemLaws.{currency_law, hash_law, list_law, number_law}
use Rattle.sia_encoding.specs.RecordLaws.{◌&&&◌, record_law}
use Rattle.sia_types.specs.declared.file_contracts.FileContract.{FileContract}
use Rattle.sia_types.specs.declared.file_contracts.Revision.{Revision}
use Rattle.sia_types.specs.declared.file_contracts.StorageProof.{StorageProof}
use Rattle.sia_types.specs.Coins.{coin_output, coin_output_law}
use Rattle.sia_types.specs.Conditions.{unlock_conditions, unlock_conditions_law}

-- the fields of a file contract
abbrev pub file_contract_record : Record FileContract
file_contract_record = record_of
    (number & hash & number & number & currency & list_of coin_output & list_of coin_output & hash & number)
    (λ p. record { size = p.0; root = p.1.0; start = p.1.1.0; end = p.1.1.1.0; payout = p.1.1.1.1.0; valid = p.1.1.1.1.1.0; missed = p.1.1.1.1.1.1.0; address = p.1.1.1.1.1.1.1.0; number = p.1.1.1.1.1.1.1.1 })
    (λ r. (r.size, (r.root, (r.start, (r.end, (r.payout, (r.valid, (r.missed, (r.address, r.number)))))))))

-- a file contract
abbrev pub file_contract : Codec FileContract
file_contract = recorded file_contract_record

-- its reading gives back what its spelling writes
pub file_contract_law : Lawful file_contract
file_contract_law = record_law file_contract_record (λ p. refl) (λ r. refl) (number_law &&& hash_law &&& number_law &&& number_law &&& currency_law &&& list_law coin_output_law &&& list_law coin_output_law &&& hash_law &&& number_law)

-- the fields of new terms of a file contract
abbrev pub revision_record : Record Revision
revision_record = record_of
    (hash & unlock_conditions & number & number & hash & number & number & list_of coin_output & list_of coin_output & hash)
    (λ p. record { parent = p.0; conditions = p.1.0; number = p.1.1.0; size = p.1.1.1.0; root = p.1.1.1.1.0; start = p.1.1.1.1.1.0; end = p.1.1.1.1.1.1.0; valid = p.1.1.1.1.1.1.1.0; missed = p.1.1.1.1.1.1.1.1.0; address = p.1.1.1.1.1.1.1.1.1 })
    (λ r. (r.parent, (r.conditions, (r.number, (r.size, (r.root, (r.start, (r.end, (r.valid, (r.missed, r.address))))))))))

-- new terms of a file contract
abbrev pub revision : Codec Revision
revision = recorded revision_record

-- its reading gives back what its spelling writes
pub revision_law : Lawful revision
revision_law = record_law revision_record (λ p. refl) (λ r. refl) (hash_law &&& unlock_conditions_law &&& number_law &&& number_law &&& hash_law &&& number_law &&& number_law &&& list_law coin_output_law &&& list_law coin_output_law &&& hash_law)

-- the fields of a proof that a host stores a leaf of a contract's bytes
abbrev pub storage_proof_record : Record StorageProof
storage_proof_record = record_of
    (hash & (fixed 64) & list_of hash)
    (λ p. record { parent = p.0; leaf = p.1.0; hashes = p.1.1 })
    (λ r. (r.parent, (r.leaf, r.hashes)))

-- a proof that a host stores a leaf of a contract's bytes
abbrev pub storage_proof : Codec StorageProof
storage_proof = recorded storage_proof_record

-- its reading gives back what its spelling writes
pub storage_proof_law : Lawful storage_proof
storage_proof_law = record_law storage_proof_record (λ p. refl) (λ r. refl) (hash_law &&& fixed_law 64 &&& list_law hash_law)
