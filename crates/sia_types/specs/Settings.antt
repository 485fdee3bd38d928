-- What a host asks for its services: each record is its fields in order (RHP2's host settings; siad's modules/host.go;
-- siad's doc/Encoding.md).
use Rattle.std.specs.Prelude.{refl}
use Rattle.sia_encoding.specs.Codec.{Codec, Lawful}
use Rattle.sia_encoding.specs.Items.{currency, hash, number}
use Rattle.sia_encoding.specs.Records.{◌&◌, Record, record_of, recorded}
use Rattle.sia_encoding.specs.ItemLaws.{currency_law, hash_law, number_law}
use Rattle.sia_encoding.specs.RecordLaws.{◌&&&◌, record_law}
use Rattle.sia_types.specs.declared.settings.Prices.{Prices}
use Rattle.sia_types.specs.declared.settings.Settings.{Settings}

-- the fields of a host's prices
abbrev pub prices_record : Record Prices
prices_record = record_of
    (currency & currency & currency & currency & currency & currency & currency)
    (λ p. record { contract_price = p.0; base = p.1.0; access = p.1.1.0; storage = p.1.1.1.0; collateral = p.1.1.1.1.0; upload = p.1.1.1.1.1.0; download = p.1.1.1.1.1.1 })
    (λ r. (r.contract_price, (r.base, (r.access, (r.storage, (r.collateral, (r.upload, r.download)))))))

-- a host's prices
abbrev pub prices : Codec Prices
prices = recorded prices_record

-- its reading gives back what its spelling writes
pub prices_law : Lawful prices
prices_law = record_law prices_record (λ p. refl) (λ r. refl) (currency_law &&& currency_law &&& currency_law &&& currency_law &&& currency_law &&& currency_law &&& currency_law)

-- the fields of a host's settings
abbrev pub settings_record : Record Settings
settings_record = record_of
    (number & number & hash & hash & number & number & currency & prices)
    (λ p. record { sector = p.0; height = p.1.0; host_key = p.1.1.0; address = p.1.1.1.0; window = p.1.1.1.1.0; max_duration = p.1.1.1.1.1.0; max_collateral = p.1.1.1.1.1.1.0; prices = p.1.1.1.1.1.1.1 })
    (λ r. (r.sector, (r.height, (r.host_key, (r.address, (r.window, (r.max_duration, (r.max_collateral, r.prices))))))))

-- a host's settings
abbrev pub settings : Codec Settings
settings = recorded settings_record

-- its reading gives back what its spelling writes
pub settings_law : Lawful settings
settings_law = record_law settings_record (λ p. refl) (λ r. refl) (number_law &&& number_law &&& hash_law &&& hash_law &&& number_law &&& number_law &&& currency_law &&& prices_law)
