-- What answers hold: each record is its fields in order (RHP2; siad's doc/Encoding.md).
use Rattle.std.specs.Prelude.{refl}
use Rattle.sia_encoding.specs.Codec.{Codec, Lawful}
use Rattle.sia_encoding.specs.Items.{byte_string, fixed, hash, list_of, number, option_of, truth}
use Rattle.sia_encoding.specs.Records.{◌&◌, Record, record_of, recorded}
use Rattle.sia_encoding.specs.CodecLaws.{fixed_law}
use Rattle.sia_encoding.specs.ItemLaws.{byte_string_law, hash_law, list_law, number_law, truth_law}
use Rattle.sia_encoding.specs.RecordLaws.{◌&&&◌, record_law, option_law}
use Rattle.sia_types.specs.FileContracts.{revision, revision_law}
use Rattle.sia_types.specs.UpdateProof.{update_proof, update_proof_law}
use Rattle.sia_rhp.specs.declared.answer_bodies.Part.{Part}
use Rattle.sia_rhp.specs.declared.answer_bodies.LockAnswer.{LockAnswer}
use Rattle.sia_rhp.specs.declared.answer_bodies.WriteAnswer.{WriteAnswer}
use Rattle.sia_rhp.specs.declared.answer_bodies.ReadAnswer.{ReadAnswer}
use Rattle.sia_rhp.specs.declared.answer_bodies.RootsAnswer.{RootsAnswer}

-- the fields of a part of a sector, with its proof
abbrev pub part_record : Record Part
part_record = record_of
    (byte_string & list_of hash)
    (λ p. record { bytes = p.0; hashes = p.1 })
    (λ r. (r.bytes, r.hashes))

-- a part of a sector, with its proof
abbrev pub part : Codec Part
part = recorded part_record

-- its reading gives back what its spelling writes
pub part_law : Lawful part
part_law = record_law part_record (λ p. refl) (λ r. refl) (byte_string_law &&& list_law hash_law)

-- the fields of what answers a request for a lock
abbrev pub lock_answer_record : Record LockAnswer
lock_answer_record = record_of
    (truth & number & fixed 16 & option_of revision & list_of byte_string)
    (λ p. record { acquired = p.0; holder = p.1.0; challenge = p.1.1.0; newest = p.1.1.1.0; signatures = p.1.1.1.1 })
    (λ r. (r.acquired, (r.holder, (r.challenge, (r.newest, r.signatures)))))

-- what answers a request for a lock
abbrev pub lock_answer : Codec LockAnswer
lock_answer = recorded lock_answer_record

-- its reading gives back what its spelling writes
pub lock_answer_law : Lawful lock_answer
lock_answer_law = record_law lock_answer_record (λ p. refl) (λ r. refl) (truth_law &&& number_law &&& fixed_law 16 &&& option_law revision_law &&& list_law byte_string_law)

-- the fields of what answers a request for a change: the proof of its diff
abbrev pub write_answer_record : Record WriteAnswer
write_answer_record = record_of
    (hash & list_of hash & list_of hash & list_of update_proof)
    (λ p. record { root = p.0; leaves = p.1.0; nodes = p.1.1.0; updates = p.1.1.1 })
    (λ r. (r.root, (r.leaves, (r.nodes, r.updates))))

-- what answers a request for a change: the proof of its diff
abbrev pub write_answer : Codec WriteAnswer
write_answer = recorded write_answer_record

-- its reading gives back what its spelling writes
pub write_answer_law : Lawful write_answer
write_answer_law = record_law write_answer_record (λ p. refl) (λ r. refl) (hash_law &&& list_law hash_law &&& list_law hash_law &&& list_law update_proof_law)

-- the fields of what answers a request for parts of sectors
abbrev pub read_answer_record : Record ReadAnswer
read_answer_record = record_of
    (byte_string & list_of part)
    (λ p. record { signature = p.0; parts = p.1 })
    (λ r. (r.signature, r.parts))

-- what answers a request for parts of sectors
abbrev pub read_answer : Codec ReadAnswer
read_answer = recorded read_answer_record

-- its reading gives back what its spelling writes
pub read_answer_law : Lawful read_answer
read_answer_law = record_law read_answer_record (λ p. refl) (λ r. refl) (byte_string_law &&& list_law part_law)

-- the fields of what answers a request for roots
abbrev pub roots_answer_record : Record RootsAnswer
roots_answer_record = record_of
    (byte_string & list_of hash & list_of hash)
    (λ p. record { signature = p.0; roots = p.1.0; hashes = p.1.1 })
    (λ r. (r.signature, (r.roots, r.hashes)))

-- what answers a request for roots
abbrev pub roots_answer : Codec RootsAnswer
roots_answer = recorded roots_answer_record

-- its reading gives back what its spelling writes
pub roots_answer_law : Lawful roots_answer
roots_answer_law = record_law roots_answer_record (λ p. refl) (λ r. refl) (byte_string_law &&& list_law hash_law &&& list_law hash_law)
