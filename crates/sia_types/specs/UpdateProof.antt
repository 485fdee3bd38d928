-- The proof of an update of part of a sector: each record is its fields in order (RHP2; siad's doc/Encoding.md).
use Rattle.std.specs.Prelude.{refl}
use Rattle.sia_encoding.specs.Codec.{Codec, Lawful}
use Rattle.sia_encoding.specs.Items.{hash, list_of}
use Rattle.sia_encoding.specs.Records.{◌&◌, Record, record_of, recorded}
use Rattle.sia_encoding.specs.ItemLaws.{hash_law, list_law}
use Rattle.sia_encoding.specs.RecordLaws.{◌&&&◌, record_law}
use Rattle.sia_types.specs.declared.update_proof.UpdateProof.{UpdateProof}

-- the fields of a proof of an update: the two covers of the old sector
abbrev pub update_proof_record : Record UpdateProof
update_proof_record = record_of
    (list_of hash & list_of hash)
    (λ p. record { inner = p.0; outer = p.1 })
    (λ r. (r.inner, r.outer))

-- a proof of an update: the two covers of the old sector
abbrev pub update_proof : Codec UpdateProof
update_proof = recorded update_proof_record

-- its reading gives back what its spelling writes
pub update_proof_law : Lawful update_proof
update_proof_law = record_law update_proof_record (λ p. refl) (λ r. refl) (list_law hash_law &&& list_law hash_law)
