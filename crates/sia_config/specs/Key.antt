-- The keys of the configuration, in the order in which they are tried: the table that each stands in, and its name there. The
-- keys and their order are this project's own.
use Rattle.std.specs.Prelude.{ℕ, List, ◌++◌, codes}
use Rattle.sia_config.specs.declared.key.ConfigKey.{ConfigKey}
use Rattle.sia_config.specs.declared.key.ConfigKey.TheVariants as key

-- the table that a key stands in
abbrev pub table_of : ConfigKey → List ℕ
table_of key.Maturity = codes "chain"
table_of key.SectorExponent = codes "chain"
table_of key.Siafund = codes "chain"
table_of key.Fee = codes "renter"
table_of key.RenterCollateral = codes "renter"
table_of key.FileLimit = codes "renter"
table_of _ = codes "host"

-- its name there
abbrev pub name_of : ConfigKey → List ℕ
name_of key.Maturity = codes "maturity"
name_of key.SectorExponent = codes "sector_exp"
name_of key.Siafund = codes "siafund"
name_of key.Window = codes "window"
name_of key.MaxDuration = codes "max_duration"
name_of key.Margin = codes "margin"
name_of key.MaxCollateral = codes "max_collateral"
name_of key.ContractPrice = codes "contract_price"
name_of key.BasePrice = codes "base"
name_of key.AccessPrice = codes "access"
name_of key.StoragePrice = codes "storage"
name_of key.HostCollateral = codes "collateral"
name_of key.UploadPrice = codes "upload"
name_of key.DownloadPrice = codes "download"
name_of key.JournalLimit = codes "journal_limit"
name_of key.Slots = codes "slots"
name_of key.Events = codes "events"
name_of key.Fee = codes "fee"
name_of key.RenterCollateral = codes "collateral"
name_of key.FileLimit = codes "file_limit"

-- a key as it is printed: its table, a dot and its name
unfoldable pub key_text : ConfigKey → List ℕ
key_text k = table_of k ++ (codes "." ++ name_of k)

-- its place among the keys, from 0
abbrev pub row_of : ConfigKey → ℕ
row_of key.Maturity = 0
row_of key.SectorExponent = 1
row_of key.Siafund = 2
row_of key.Window = 3
row_of key.MaxDuration = 4
row_of key.Margin = 5
row_of key.MaxCollateral = 6
row_of key.ContractPrice = 7
row_of key.BasePrice = 8
row_of key.AccessPrice = 9
row_of key.StoragePrice = 10
row_of key.HostCollateral = 11
row_of key.UploadPrice = 12
row_of key.DownloadPrice = 13
row_of key.JournalLimit = 14
row_of key.Slots = 15
row_of key.Events = 16
row_of key.Fee = 17
row_of key.RenterCollateral = 18
row_of key.FileLimit = 19
