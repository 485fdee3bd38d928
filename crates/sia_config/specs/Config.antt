-- The table of the configuration: each key in the order in which it is tried, with its form, its range and its default. Unknown
-- keys are ignored. Amounts are hastings, durations blocks. The table is this project's own; what the host's keys mean is RHP2's
-- (siad's modules/host.go).
use Rattle.std.specs.Prelude.{ℕ, List, replicate, ◌*◌, ◌^◌, Result, Ok}
use Rattle.std.specs.Option.{ok_or}
use Rattle.toml.specs.Data.{Data}
use Rattle.sia_encoding.specs.Answer.{◌>>=◌}
use Rattle.sia_types.specs.declared.settings.Prices.{Prices}
use Rattle.sia_types.specs.declared.settings.Settings.{Settings}
use Rattle.sia_config.specs.declared.chain.ChainKeys.{ChainKeys}
use Rattle.sia_config.specs.declared.config.Config.{Config}
use Rattle.sia_config.specs.declared.fault.ConfigFault.{ConfigFault}
use Rattle.sia_config.specs.declared.fault.ConfigFault.TheVariants as fault
use Rattle.sia_config.specs.declared.host.Limits.{Limits}
use Rattle.sia_config.specs.declared.host.Room.{Room}
use Rattle.sia_config.specs.declared.key.ConfigKey.TheVariants as key
use Rattle.sia_config.specs.declared.renter.Renter.{Renter}
use Rattle.sia_config.specs.Document.{document}
use Rattle.sia_config.specs.Siafunds.{siafunds}
use Rattle.sia_config.specs.Values.{integer, amount}

-- the size of a sector: so many times doubled, 64 bytes
abbrev pub sector_size : ℕ → ℕ
sector_size power = 64 * 2 ^ power

-- the keys of the chain
unfoldable pub chain_of : Data → Result ChainKeys ConfigFault
chain_of doc = do
  maturity ← integer doc key.Maturity 1 10000 144
  power ← integer doc key.SectorExponent 0 16 16
  funds ← siafunds doc
  Ok (record { params = record { maturity = maturity; funds = funds }; sector = sector_size power })

-- the limits of the contracts that a host forms
unfoldable pub limits_of : Data → Result Limits ConfigFault
limits_of doc = do
  window ← integer doc key.Window 1 1000000 144
  max_duration ← integer doc key.MaxDuration 1 2000000 25920
  margin ← integer doc key.Margin 1 1000 12
  max_collateral ← amount doc key.MaxCollateral 1000000000000000000000000000
  Ok (record { window = window; max_duration = max_duration; margin = margin; max_collateral = max_collateral })

-- a host's prices
unfoldable pub prices_of : Data → Result Prices ConfigFault
prices_of doc = do
  contract_price ← amount doc key.ContractPrice 150000000000000000000000
  base ← amount doc key.BasePrice 100000000000000000
  access ← amount doc key.AccessPrice 100000000000000000
  storage ← amount doc key.StoragePrice 25000000000
  collateral ← amount doc key.HostCollateral 50000000000
  upload ← amount doc key.UploadPrice 1000000000000
  download ← amount doc key.DownloadPrice 25000000000000
  Ok (record { contract_price = contract_price; base = base; access = access; storage = storage; collateral = collateral; upload = upload; download = download })

-- how much a host keeps
unfoldable pub room_of : Data → Result Room ConfigFault
room_of doc = do
  journal_limit ← integer doc key.JournalLimit 1024 68719476736 1073741824
  slots ← integer doc key.Slots 1 1048576 4096
  events ← integer doc key.Events 16 16777216 16777216
  Ok (record { journal_limit = journal_limit; slots = slots; events = events })

-- the keys of a renter
unfoldable pub renter_of : Data → Result Renter ConfigFault
renter_of doc = do
  fee ← amount doc key.Fee 10000000000000000000000
  collateral ← amount doc key.RenterCollateral 0
  file_limit ← integer doc key.FileLimit 1024 4294967296 67108864
  Ok (record { fee = fee; collateral = collateral; file_limit = file_limit })

-- what a host tells of itself, before the height of its chain, its key and its address are known
abbrev pub settings_with : ℕ → Limits → Prices → Settings
settings_with sector limits prices = record {
  sector = sector;
  height = 0;
  host_key = replicate 32 0;
  address = replicate 32 0;
  window = limits.window;
  max_duration = limits.max_duration;
  max_collateral = limits.max_collateral;
  prices = prices;
}

-- the configuration of some parts
abbrev pub config_with : ChainKeys → Limits → Prices → Room → Renter → Config
config_with chain limits prices room renter = record {
  host = record {
    params = chain.params;
    settings = settings_with chain.sector limits prices;
    margin = limits.margin;
    journal_limit = room.journal_limit;
    slots = room.slots;
    events = room.events;
  };
  fee = renter.fee;
  collateral = renter.collateral;
  file_limit = renter.file_limit;
}

-- the configuration that bytes spell, or the first refusal: the text, then the keys in order
unfoldable pub config_of : List ℕ → Result Config ConfigFault
config_of bytes = do
  doc ← ok_or (document bytes) fault.Text
  chain ← chain_of doc
  limits ← limits_of doc
  prices ← prices_of doc
  room ← room_of doc
  renter ← renter_of doc
  Ok (config_with chain limits prices room renter)
