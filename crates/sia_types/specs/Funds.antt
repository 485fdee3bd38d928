-- Siafund inputs and outputs: each record is its fields in order (siad's types/transactions.go; siad's
-- doc/Encoding.md).
use Rattle.std.specs.Prelude.{refl}
use Rattle.sia_encoding.specs.Codec.{Codec, Lawful}
use Rattle.sia_encoding.specs.Items.{currency, hash}
use Rattle.sia_encoding.specs.Records.{◌&◌, Record, record_of, recorded}
use Rattle.sia_encoding.specs.ItemLaws.{currency_law, hash_law}
use Rattle.sia_encoding.specs.RecordLaws.{◌&&&◌, record_law}
use Rattle.sia_types.specs.declared.funds.FundInput.{FundInput}
use Rattle.sia_types.specs.declared.funds.FundOutput.{FundOutput}
use Rattle.sia_types.specs.Conditions.{unlock_conditions, unlock_conditions_law}

-- the fields of a siafund output that is spent
abbrev pub fund_input_record : Record FundInput
fund_input_record = record_of
    (hash & unlock_conditions & hash)
    (λ p. record { parent = p.0; conditions = p.1.0; claim_address = p.1.1 })
    (λ r. (r.parent, (r.conditions, r.claim_address)))

-- a siafund output that is spent
abbrev pub fund_input : Codec FundInput
fund_input = recorded fund_input_record

-- its reading gives back what its spelling writes
pub fund_input_law : Lawful fund_input
fund_input_law = record_law fund_input_record (λ p. refl) (λ r. refl) (hash_law &&& unlock_conditions_law &&& hash_law)

-- the fields of a siafund output
abbrev pub fund_output_record : Record FundOutput
fund_output_record = record_of
    (currency & hash & currency)
    (λ p. record { value = p.0; address = p.1.0; claim_start = p.1.1 })
    (λ r. (r.value, (r.address, r.claim_start)))

-- a siafund output
abbrev pub fund_output : Codec FundOutput
fund_output = recorded fund_output_record

-- its reading gives back what its spelling writes
pub fund_output_law : Lawful fund_output
fund_output_law = record_law fund_output_record (λ p. refl) (λ r. refl) (currency_law &&& hash_law &&& currency_law)
