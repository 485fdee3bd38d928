-- What requests hold behind their labels: each record is its fields in order (RHP2; siad's doc/Encoding.md).
use Rattle.std.specs.Prelude.{refl}
use Rattle.sia_encoding.specs.Codec.{Codec, Lawful}
use Rattle.sia_encoding.specs.Items.{byte_string, currency, hash, list_of, number}
use Rattle.sia_encoding.specs.Records.{◌&◌, Record, record_of, recorded}
use Rattle.sia_encoding.specs.ItemLaws.{byte_string_law, currency_law, hash_law, list_law, number_law}
use Rattle.sia_encoding.specs.RecordLaws.{◌&&&◌, record_law}
use Rattle.sia_types.specs.Transaction.{transaction, transaction_law}
use Rattle.sia_rhp.specs.Actions.{action}
use Rattle.sia_rhp.specs.ActionLaws.{action_law}
use Rattle.sia_rhp.specs.declared.request_bodies.Section.{Section}
use Rattle.sia_rhp.specs.declared.request_bodies.FormRequest.{FormRequest}
use Rattle.sia_rhp.specs.declared.request_bodies.LockRequest.{LockRequest}
use Rattle.sia_rhp.specs.declared.request_bodies.WriteRequest.{WriteRequest}
use Rattle.sia_rhp.specs.declared.request_bodies.ReadRequest.{ReadRequest}
use Rattle.sia_rhp.specs.declared.request_bodies.PaidRoots.{PaidRoots}

-- the fields of a part of a sector that is asked for
abbrev pub section_record : Record Section
section_record = record_of
    (hash & number & number)
    (λ p. record { root = p.0; offset = p.1.0; length = p.1.1 })
    (λ r. (r.root, (r.offset, r.length)))

-- a part of a sector that is asked for
abbrev pub section : Codec Section
section = recorded section_record

-- its reading gives back what its spelling writes
pub section_law : Lawful section
section_law = record_law section_record (λ p. refl) (λ r. refl) (hash_law &&& number_law &&& number_law)

-- the fields of what asks for a new contract
abbrev pub form_request_record : Record FormRequest
form_request_record = record_of
    (hash & transaction)
    (λ p. record { renter_key = p.0; transaction = p.1 })
    (λ r. (r.renter_key, r.transaction))

-- what asks for a new contract
abbrev pub form_request : Codec FormRequest
form_request = recorded form_request_record

-- its reading gives back what its spelling writes
pub form_request_law : Lawful form_request
form_request_law = record_law form_request_record (λ p. refl) (λ r. refl) (hash_law &&& transaction_law)

-- the fields of what asks for the lock of a contract
abbrev pub lock_request_record : Record LockRequest
lock_request_record = record_of
    (hash & byte_string & number)
    (λ p. record { contract = p.0; signature = p.1.0; timeout = p.1.1 })
    (λ r. (r.contract, (r.signature, r.timeout)))

-- what asks for the lock of a contract
abbrev pub lock_request : Codec LockRequest
lock_request = recorded lock_request_record

-- its reading gives back what its spelling writes
pub lock_request_law : Lawful lock_request
lock_request_law = record_law lock_request_record (λ p. refl) (λ r. refl) (hash_law &&& byte_string_law &&& number_law)

-- the fields of what asks for a change of a contract's sectors
abbrev pub write_request_record : Record WriteRequest
write_request_record = record_of
    (number & list_of currency & list_of currency & list_of action)
    (λ p. record { number = p.0; valid = p.1.0; missed = p.1.1.0; actions = p.1.1.1 })
    (λ r. (r.number, (r.valid, (r.missed, r.actions))))

-- what asks for a change of a contract's sectors
abbrev pub write_request : Codec WriteRequest
write_request = recorded write_request_record

-- its reading gives back what its spelling writes
pub write_request_law : Lawful write_request
write_request_law = record_law write_request_record (λ p. refl) (λ r. refl) (number_law &&& list_law currency_law &&& list_law currency_law &&& list_law action_law)

-- the fields of what asks for parts of sectors
abbrev pub read_request_record : Record ReadRequest
read_request_record = record_of
    (list_of section & number & list_of currency & list_of currency & byte_string)
    (λ p. record { sections = p.0; number = p.1.0; valid = p.1.1.0; missed = p.1.1.1.0; signature = p.1.1.1.1 })
    (λ r. (r.sections, (r.number, (r.valid, (r.missed, r.signature)))))

-- what asks for parts of sectors
abbrev pub read_request : Codec ReadRequest
read_request = recorded read_request_record

-- its reading gives back what its spelling writes
pub read_request_law : Lawful read_request
read_request_law = record_law read_request_record (λ p. refl) (λ r. refl) (list_law section_law &&& number_law &&& list_law currency_law &&& list_law currency_law &&& byte_string_law)

-- the fields of what asks for roots of a contract's sectors
abbrev pub paid_roots_record : Record PaidRoots
paid_roots_record = record_of
    (number & number & number & list_of currency & list_of currency & byte_string)
    (λ p. record { first = p.0; count = p.1.0; number = p.1.1.0; valid = p.1.1.1.0; missed = p.1.1.1.1.0; signature = p.1.1.1.1.1 })
    (λ r. (r.first, (r.count, (r.number, (r.valid, (r.missed, r.signature))))))

-- what asks for roots of a contract's sectors
abbrev pub paid_roots : Codec PaidRoots
paid_roots = recorded paid_roots_record

-- its reading gives back what its spelling writes
pub paid_roots_law : Lawful paid_roots
paid_roots_law = record_law paid_roots_record (λ p. refl) (λ r. refl) (number_law &&& number_law &&& number_law &&& list_law currency_law &&& list_law currency_law &&& byte_string_law)
