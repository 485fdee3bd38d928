-- Public keys, and the conditions under which an output is unlocked: each record is its fields in order (siad's
-- types/unlockhash.go; siad's doc/Encoding.md).
use Rattle.std.specs.Prelude.{refl}
use Rattle.sia_encoding.specs.Codec.{Codec, Lawful}
use Rattle.sia_encoding.specs.Items.{byte_string, fixed, list_of, number}
use Rattle.sia_encoding.specs.Records.{◌&◌, Record, record_of, recorded}
use Rattle.sia_encoding.specs.CodecLaws.{fixed_law}
use Rattle.sia_encoding.specs.ItemLaws.{byte_string_law, list_law, number_law}
use Rattle.sia_encoding.specs.RecordLaws.{◌&&&◌, record_law}
use Rattle.sia_types.specs.declared.conditions.PublicKey.{PublicKey}
use Rattle.sia_types.specs.declared.conditions.UnlockConditions.{UnlockConditions}

-- the fields of a public key
abbrev pub public_key_record : Record PublicKey
public_key_record = record_of
    ((fixed 16) & byte_string)
    (λ p. record { algorithm = p.0; key = p.1 })
    (λ r. (r.algorithm, r.key))

-- a public key
abbrev pub public_key : Codec PublicKey
public_key = recorded public_key_record

-- its reading gives back what its spelling writes
pub public_key_law : Lawful public_key
public_key_law = record_law public_key_record (λ p. refl) (λ r. refl) (fixed_law 16 &&& byte_string_law)

-- the fields of what unlocks an output
abbrev pub unlock_conditions_record : Record UnlockConditions
unlock_conditions_record = record_of
    (number & list_of public_key & number)
    (λ p. record { timelock = p.0; keys = p.1.0; required = p.1.1 })
    (λ r. (r.timelock, (r.keys, r.required)))

-- what unlocks an output
abbrev pub unlock_conditions : Codec UnlockConditions
unlock_conditions = recorded unlock_conditions_record

-- its reading gives back what its spelling writes
pub unlock_conditions_law : Lawful unlock_conditions
unlock_conditions_law = record_law unlock_conditions_record (λ p. refl) (λ r. refl) (number_law &&& list_law public_key_law &&& number_law)
