-- The proof of a change of a list of hashes: each record is its fields in order (RHP2; siad's doc/Encoding.md).
use Rattle.std.specs.Prelude.{refl}
use Rattle.sia_encoding.specs.Codec.{Codec, Lawful}
use Rattle.sia_encoding.specs.Items.{hash, list_of}
use Rattle.sia_encoding.specs.Records.{◌&◌, Record, record_of, recorded}
use Rattle.sia_encoding.specs.ItemLaws.{hash_law, list_law}
use Rattle.sia_encoding.specs.RecordLaws.{◌&&&◌, record_law}
use Rattle.sia_types.specs.declared.diff_proof.DiffProof.{DiffProof}

-- the fields of a proof of a diff: the touched hashes, and the roots of all other places
abbrev pub diff_proof_record : Record DiffProof
diff_proof_record = record_of
    (list_of hash & list_of hash)
    (λ p. record { leaves = p.0; nodes = p.1 })
    (λ r. (r.leaves, r.nodes))

-- a proof of a diff: the touched hashes, and the roots of all other places
abbrev pub diff_proof : Codec DiffProof
diff_proof = recorded diff_proof_record

-- its reading gives back what its spelling writes
pub diff_proof_law : Lawful diff_proof
diff_proof_law = record_law diff_proof_record (λ p. refl) (λ r. refl) (list_law hash_law &&& list_law hash_law)
