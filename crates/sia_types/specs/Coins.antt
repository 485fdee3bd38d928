-- Siacoin inputs and outputs: each record is its fields in order (siad's types/transactions.go; siad's
-- doc/Encoding.md).
use Rattle.std.specs.Prelude.{refl}
use Rattle.sia_encoding.specs.Codec.{Codec, Lawful}
use Rattle.sia_encoding.specs.Items.{currency, hash}
use Rattle.sia_encoding.specs.Records.{◌&◌, Record, record_of, recorded}
use Rattle.sia_encoding.specs.ItemLaws.{currency_law, hash_law}
use Rattle.sia_encoding.specs.RecordLaws.{◌&&&◌, record_law}
use Rattle.sia_types.specs.declared.coins.CoinInput.{CoinInput}
use Rattle.sia_types.specs.declared.coins.CoinOutput.{CoinOutput}
use Rattle.sia_types.specs.Conditions.{unlock_conditions, unlock_conditions_law}

-- the fields of a siacoin output that is spent
abbrev pub coin_input_record : Record CoinInput
coin_input_record = record_of
    (hash & unlock_conditions)
    (λ p. record { parent = p.0; conditions = p.1 })
    (λ r. (r.parent, r.conditions))

-- a siacoin output that is spent
abbrev pub coin_input : Codec CoinInput
coin_input = recorded coin_input_record

-- its reading gives back what its spelling writes
pub coin_input_law : Lawful coin_input
coin_input_law = record_law coin_input_record (λ p. refl) (λ r. refl) (hash_law &&& unlock_conditions_law)

-- the fields of a siacoin output
abbrev pub coin_output_record : Record CoinOutput
coin_output_record = record_of
    (currency & hash)
    (λ p. record { value = p.0; address = p.1 })
    (λ r. (r.value, r.address))

-- a siacoin output
abbrev pub coin_output : Codec CoinOutput
coin_output = recorded coin_output_record

-- its reading gives back what its spelling writes
pub coin_output_law : Lawful coin_output
coin_output_law = record_law coin_output_record (λ p. refl) (λ r. refl) (currency_law &&& hash_law)
