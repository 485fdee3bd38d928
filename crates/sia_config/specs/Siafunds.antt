-- `chain.siafund`: the siafund outputs of the genesis, which hold all 10,000 siafunds (Sia whitepaper).
use Rattle.std.specs.Prelude.{Bool, ℕ, List, [], ◌∷◌, codes, length, nat_le, ◌==◌, ◌&&◌, if◌then◌else◌, Option, Some, None, option_map, option_and_then, Result}
use Rattle.std.specs.Option.{ok_or}
use Rattle.std.specs.Result.{result_ok}
use Rattle.hex.specs.Hex.{decode_sized}
use Rattle.toml.specs.Data.{Data, Items, no_items, item, get, as_str, as_array}
use Rattle.sia_types.specs.declared.funds.FundOutput.{FundOutput}
use Rattle.sia_rules.specs.Sums.{fund_sum}
use Rattle.sia_config.specs.declared.key.ConfigKey.TheVariants as key
use Rattle.sia_config.specs.declared.fault.ConfigFault.{ConfigFault}
use Rattle.sia_config.specs.declared.fault.ConfigFault.TheVariants as fault
use Rattle.sia_config.specs.Document.{value_at}
use Rattle.sia_config.specs.Values.{integer_in}

-- an address: 32 bytes written as 64 hexadecimal digits of either case
abbrev pub address_of : List ℕ → Option (List ℕ)
address_of text = result_ok (decode_sized text 32)

-- an output of value siafunds to an address; a new output's claims start at 0
abbrev pub fund_to : List ℕ → ℕ → FundOutput
fund_to address value = record { value = value; address = address; claim_start = 0 }

-- one table: an address `to`, and a `value` from 1 to 10,000
abbrev pub siafund_of : Data → Option FundOutput
siafund_of d =
    option_and_then
    (λ address. option_map (fund_to address) (option_and_then (integer_in 1 10000) (get (codes "value") d)))
    (option_and_then address_of (option_and_then as_str (get (codes "to") d)))

-- each of some tables, in order, if none of them is refused
abbrev pub siafunds_of_items : Items → Option (List FundOutput)
siafunds_of_items no_items = Some []
siafunds_of_items (item d ds) = option_and_then (λ fund. option_map (λ funds. fund ∷ funds) (siafunds_of_items ds)) (siafund_of d)

-- they are 1 to 100 outputs and hold all 10,000 siafunds
abbrev pub is_whole_issue : List FundOutput → Bool
is_whole_issue funds = nat_le 1 (length funds) && nat_le (length funds) 100 && (fund_sum funds == 10000)

-- the outputs, if they are
abbrev pub whole_issue : List FundOutput → Option (List FundOutput)
whole_issue funds = if is_whole_issue funds then Some funds else None

-- the outputs that an array of tables names
abbrev pub siafunds_in : Data → Option (List FundOutput)
siafunds_in d = option_and_then whole_issue (option_and_then siafunds_of_items (as_array d))

-- the outputs at the key, which must be there
unfoldable pub siafunds : Data → Result (List FundOutput) ConfigFault
siafunds doc = ok_or (option_and_then siafunds_in (value_at key.Siafund doc)) (fault.Key key.Siafund)
