-- The records of a host's journal: a byte for the kind, and the fields of that kind in order (siad's doc/Encoding.md; what the
-- kinds are is this project's own).
use Rattle.std.specs.Prelude.{ℕ, List, Option, Some, None}
use Rattle.sia_encoding.specs.Codec.{Codec}
use Rattle.sia_encoding.specs.Items.{byte_string, hash, list_of}
use Rattle.sia_encoding.specs.Records.{◌&◌, choice, variant, nothing}
use Rattle.sia_types.specs.declared.block.Block.{Block}
use Rattle.sia_types.specs.declared.file_contracts.Revision.{Revision}
use Rattle.sia_types.specs.declared.transaction.Transaction.{Transaction}
use Rattle.sia_types.specs.Block.{block}
use Rattle.sia_types.specs.FileContracts.{revision}
use Rattle.sia_types.specs.Transaction.{transaction}
use Rattle.sia_records.specs.declared.change.Change.{Change}
use Rattle.sia_records.specs.declared.host_record.HostRecord.{HostRecord}
use Rattle.sia_records.specs.declared.host_record.HostRecord.TheVariants as records
use Rattle.sia_records.specs.declared.kind.RecordKind.{RecordKind}
use Rattle.sia_records.specs.declared.kind.RecordKind.TheVariants as kind
use Rattle.sia_records.specs.Changes.{change}
use Rattle.sia_records.specs.Kinds.{record_kinds}

-- the kind of a record
abbrev pub kind_of_record : HostRecord → RecordKind
kind_of_record (records.Block mined) = kind.Block
kind_of_record records.Revert = kind.Revert
kind_of_record (records.Formed renter_key tx) = kind.Formed
kind_of_record (records.Revised newest renter host changes) = kind.Revised
kind_of_record (records.Renewed tx) = kind.Renewed

-- the block that the chain has more
abbrev pub block_kept : HostRecord → Option Block
block_kept (records.Block mined) = Some mined
block_kept _ = None

-- that a record is one of `Revert`
abbrev pub revert_kept : HostRecord → Option (Unit {0})
revert_kept records.Revert = Some tt
revert_kept _ = None

-- the renter's key of a contract, and the transaction that formed it
abbrev pub formed_kept : HostRecord → Option (List ℕ × Transaction)
formed_kept (records.Formed renter_key tx) = Some (renter_key, tx)
formed_kept _ = None

-- the newest revision of a contract, its two signatures, and what it does to the sectors
abbrev pub revised_kept : HostRecord → Option (Revision × (List ℕ × (List ℕ × List Change)))
revised_kept (records.Revised newest renter host changes) = Some (newest, (renter, (host, changes)))
revised_kept _ = None

-- the transaction that renewed a contract
abbrev pub renewed_kept : HostRecord → Option Transaction
renewed_kept (records.Renewed tx) = Some tx
renewed_kept _ = None

-- what a record of a kind has
abbrev pub record_behind : RecordKind → Codec HostRecord
record_behind kind.Block = variant block (λ p. records.Block p) block_kept
record_behind kind.Revert = variant nothing (λ p. records.Revert) revert_kept
record_behind kind.Formed = variant (hash & transaction) (λ p. records.Formed p.0 p.1) formed_kept
record_behind kind.Revised = variant (revision & byte_string & byte_string & list_of change) (λ p. records.Revised p.0 p.1.0 p.1.1.0 p.1.1.1) revised_kept
record_behind kind.Renewed = variant transaction (λ p. records.Renewed p) renewed_kept

-- a record of a host's journal
abbrev pub host_record : Codec HostRecord
host_record = choice record_kinds kind_of_record record_behind
