-- What a host knows by the records of its journal: its chain, and of each contract the renter's key, the transaction that formed
-- it, its newest revision with both signatures, and its sectors (RHP2; siad's modules/host).
use Rattle.std.specs.Prelude.{◌≡◌, ℕ, ◌+◌, ◌-◌, ◌*◌, ◌^◌, ◌≤◌, min, Bool, false, List, [], ◌∷◌, ◌++◌, map, find, length, All, ◌==◌, ◌&&◌, not, if◌then◌else◌, Option, Some, None}
use Rattle.std.specs.List.{fold, flat_map, list_any}
use Rattle.std.specs.Option.{option_map_or, is_some}
use Rattle.std.specs.Str.{bytes_eq}
use Rattle.sia_encoding.specs.declared.limits.TheConstants.{CONTRACT_SECTORS}
use Rattle.sia_merkle.specs.Roots.{node_root_of}
use Rattle.sia_types.specs.declared.file_contracts.FileContract.{FileContract}
use Rattle.sia_types.specs.declared.file_contracts.Revision.{Revision}
use Rattle.sia_types.specs.declared.signature.Signature.{Signature}
use Rattle.sia_types.specs.declared.transaction.Transaction.{Transaction}
use Rattle.sia_ids.specs.Transactions.{contract_id}
use Rattle.sia_forms.specs.Parties.{both_address, both_conditions}
use Rattle.sia_ledger.specs.declared.params.Params.{Params}
use Rattle.sia_ledger.specs.Chain.{Chain, begun, extended, shortened}
use Rattle.sia_records.specs.declared.change.Change.{Change}
use Rattle.sia_records.specs.declared.host_record.HostRecord.{HostRecord}
use Rattle.sia_records.specs.declared.host_record.HostRecord.TheVariants as records
use Rattle.sia_records.specs.Stored.{Stored, stored_after}

-- a contract that a host knows; at number 0 its newest revision is the terms of the formation, and no signature is kept
pub record Kept : Type 0 where
  pub id : List ℕ
  pub renter_key : List ℕ
  pub formation : Transaction
  pub newest : Revision
  pub signatures : List (List ℕ)
  pub sectors : List Stored

-- what a host knows, and of how many records
pub record HostState : Type 0 where
  pub chain : Chain
  pub contracts : List Kept
  pub count : ℕ

-- before the first record
abbrev pub first_state : Params → HostState
first_state params = record { chain = begun params; contracts = []; count = 0 }

-- the contract with this identifier
abbrev pub contract_among : List ℕ → List Kept → Option Kept
contract_among id contracts = find (λ (c : Kept). bytes_eq c.id id) contracts

-- whether a contract has this identifier
abbrev pub is_among : List ℕ → List Kept → Bool
is_among id contracts = is_some (contract_among id contracts)

-- the contracts, where the one with this identifier is changed
abbrev pub changed_at : List ℕ → (Kept → Kept) → List Kept → List Kept
changed_at id change contracts = map (λ (c : Kept). if bytes_eq c.id id then change c else c) contracts

-- no two contracts have one identifier
abbrev pub AreApart : List Kept → Type 0
AreApart [] = Unit {0}
AreApart (c ∷ others) = (is_among c.id others ≡ false) × AreApart others

-- a contract that begins

-- the newest revision of a contract that isn't revised yet: its terms, and the conditions of its two parties
unfoldable pub first_revision : List ℕ → List ℕ → List ℕ → FileContract → Revision
first_revision host_key renter_key id terms = record {
  parent = id;
  conditions = both_conditions renter_key host_key;
  number = terms.number;
  size = terms.size;
  root = terms.root;
  start = terms.start;
  end = terms.end;
  valid = terms.valid;
  missed = terms.missed;
  address = terms.address;
}

-- the contract of these terms that a transaction forms, with these sectors
unfoldable pub new_contract : List ℕ → List ℕ → Transaction → List Stored → FileContract → Kept
new_contract host_key renter_key tx sectors terms = record {
  id = contract_id tx 0;
  renter_key = renter_key;
  formation = tx;
  newest = first_revision host_key renter_key (contract_id tx 0) terms;
  signatures = [];
  sectors = sectors;
}

-- the contract that a transaction forms, its first one; none where it forms none
abbrev pub formed_by : List ℕ → List ℕ → Transaction → List Stored → List FileContract → List Kept
formed_by host_key renter_key tx sectors [] = []
formed_by host_key renter_key tx sectors (terms ∷ others) = new_contract host_key renter_key tx sectors terms ∷ []

-- a contract that is revised

-- a contract with a new newest revision
abbrev pub revised_contract : Revision → List ℕ → List ℕ → List Change → Kept → Kept
revised_contract revision renter host changes c = record c { newest = revision; signatures = renter ∷ host ∷ []; sectors = stored_after c.sectors changes }

-- a contract that is renewed

-- the signature for a contract by the key at an index; no byte where there is none
abbrev pub signature_for : List ℕ → ℕ → List Signature → List ℕ
signature_for contract index signatures =
    option_map_or (λ (s : Signature). s.signature) (find (λ (s : Signature). bytes_eq s.parent contract && (s.key_index == index)) signatures) []

-- the old contract: the renewal's revision is its newest, and its sectors have passed on
abbrev pub cleared_by : Transaction → Revision → Kept → Kept
cleared_by tx revision c = record c {
  newest = revision;
  signatures = signature_for c.id 0 tx.signatures ∷ signature_for c.id 1 tx.signatures ∷ [];
  sectors = [];
}

-- the contract that renews an old one, where there is one
abbrev pub renewed_by : List ℕ → Transaction → Option Kept → List Kept
renewed_by host_key tx None = []
renewed_by host_key tx (Some old) = formed_by host_key old.renter_key tx old.sectors tx.contracts

-- the contracts after a renewal by this revision
abbrev pub after_renewal : List ℕ → Transaction → List Kept → List Revision → List Kept
after_renewal host_key tx contracts [] = contracts
after_renewal host_key tx contracts (revision ∷ others) =
    changed_at revision.parent (cleared_by tx revision) contracts ++ renewed_by host_key tx (contract_among revision.parent contracts)

-- the records

-- the chain after a record
abbrev pub chain_after : Chain → HostRecord → Chain
chain_after chain (records.Block block) = extended chain block
chain_after chain records.Revert = shortened chain
chain_after chain other = chain

-- the contracts after a record, under the host's key
abbrev pub contracts_after : List ℕ → List Kept → HostRecord → List Kept
contracts_after host_key contracts (records.Formed renter_key tx) = contracts ++ formed_by host_key renter_key tx [] tx.contracts
contracts_after host_key contracts (records.Revised revision renter host changes) = changed_at revision.parent (revised_contract revision renter host changes) contracts
contracts_after host_key contracts (records.Renewed tx) = after_renewal host_key tx contracts tx.revisions
contracts_after host_key contracts other = contracts

-- one more, as far as a number of 64 bits goes
abbrev pub counted_more : ℕ → ℕ
counted_more count = min (count + 1) (2 ^ 64 - 1)

-- what a host knows after a record more
unfoldable pub with_record : List ℕ → HostState → HostRecord → HostState
with_record host_key state made = record {
  chain = chain_after state.chain made;
  contracts = contracts_after host_key state.contracts made;
  count = counted_more state.count;
}

-- what a host knows by its records
unfoldable pub host_state : List ℕ → Params → List HostRecord → HostState
host_state host_key params records = fold (with_record host_key) (first_state params) records

-- the root of a sector
abbrev pub root_in : Stored → List ℕ
root_in sector = sector.root

-- the roots of a contract's sectors, in order
abbrev pub roots_of : Kept → List (List ℕ)
roots_of c = map root_in c.sectors

-- A contract's identifier is a hash. Its newest revision is of this contract, and has the unlock hash of its two parties' conditions,
-- the renter's key and the host's, both required. It stores its sectors, of which there are at most 65,536: it has so many bytes, and
-- the root over their roots.
pub record IsStored (sector : ℕ) (host_key : List ℕ) (c : Kept) : Type 0 where
  pub id : length c.id ≡ 32
  pub parent : c.newest.parent ≡ c.id
  pub address : c.newest.address ≡ both_address c.renter_key host_key
  pub few : length c.sectors ≤ CONTRACT_SECTORS
  pub size : c.newest.size ≡ sector * length c.sectors
  pub root : c.newest.root ≡ node_root_of (roots_of c)

-- what holds of every host, by its sectors' size, its key and its contracts: a sector has 64 bytes times a power of 2, up to 4 MiB; no
-- two contracts have one identifier; and the newest revision of each is its two parties', and stores its sectors
pub record IsSound (sector : ℕ) (host_key : List ℕ) (contracts : List Kept) : Type 0 where
  pub size : (power : ℕ) × (power ≤ 16) × (sector ≡ 64 * 2 ^ power)
  pub apart : AreApart contracts
  pub stored : All (IsStored sector host_key) contracts

-- the slots that have sectors
abbrev pub live_slots : HostState → List ℕ
live_slots state = flat_map (λ (c : Kept). map (λ (s : Stored). s.slot) c.sectors) state.contracts

-- a slot has no sector, by those that have
abbrev pub is_free_slot : List ℕ → ℕ → Bool
is_free_slot live slot = not (list_any (λ (other : ℕ). other == slot) live)
