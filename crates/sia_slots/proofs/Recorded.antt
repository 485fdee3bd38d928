-- The slots and the sectors that a host has after a record.
use Rattle.std.proofs.Common.{◌≡◌, ◌∙◌, ℕ, true, List, ◌∷◌, All, length, map, Some, sym, subst, refl}
use Rattle.std.specs.Prelude.{filter_map}
use Rattle.sia_types.specs.declared.block.Block.{Block}
use Rattle.sia_types.specs.declared.file_contracts.FileContract.{FileContract}
use Rattle.sia_types.specs.declared.file_contracts.Revision.{Revision}
use Rattle.sia_types.specs.declared.transaction.Transaction.{Transaction}
use Rattle.sia_records.specs.declared.change.Change.{Change}
use Rattle.sia_records.specs.declared.host_record.HostRecord.TheVariants as records
use Rattle.sia_records.specs.Stored.{Stored, step_of, stored_after}
use Rattle.sia_kept.specs.State.{AreApart, HostState, Kept, contract_among, live_slots, revised_contract, with_record}
use Rattle.sia_kept.proofs.Changed.{fit_for}
use Rattle.sia_host.specs.Replaying.{slot_taken}
use Rattle.sia_host.specs.Writing.{dropped}
use Rattle.sia_slots.specs.Slots.{SlotsPass, sectors_in, times}
use Rattle.sia_slots.proofs.Contracts.{changed_pass, changed_sectors, formed_live, formed_sectors, found_sectors, renewed_live, renewed_sectors}
use Rattle.sia_slots.proofs.Passing.{Brings, all_bring, all_pass}

-- a block leaves them
pub block_keeps : (key : List ℕ) (state : HostState) (block : Block) → (live_slots (with_record key state (records.Block block)) ≡ live_slots state) × (sectors_in (with_record key state (records.Block block)) ≡ sectors_in state)
unfolding with_record
block_keeps key state block = (refl, refl)

-- as does a block that is dropped
pub revert_keeps : (key : List ℕ) (state : HostState) → (live_slots (with_record key state records.Revert) ≡ live_slots state) × (sectors_in (with_record key state records.Revert) ≡ sectors_in state)
unfolding with_record
revert_keeps key state = (refl, refl)

-- and a formation
pub formed_keeps : (key : List ℕ) (state : HostState) (renter_key : List ℕ) (tx : Transaction)
    → (live_slots (with_record key state (records.Formed renter_key tx)) ≡ live_slots state) × (sectors_in (with_record key state (records.Formed renter_key tx)) ≡ sectors_in state)
unfolding with_record
formed_keeps key state renter_key tx = (formed_live key renter_key tx state.contracts, formed_sectors key renter_key tx state.contracts)

-- by a renewal each slot stays live as often
pub renewed_pass : (key : List ℕ) (state : HostState) (tx : Transaction) (terms : FileContract) (others : List FileContract) → AreApart state.contracts → tx.contracts ≡ terms ∷ others
    → (slot : ℕ) → times slot (live_slots state) ≡ times slot (live_slots (with_record key state (records.Renewed tx)))
unfolding with_record
renewed_pass key state tx terms others apart forms slot = renewed_live slot key tx state.contracts tx.revisions terms others apart forms

-- and no sector is new
pub renewed_comes : (P : Stored → Type 0) (key : List ℕ) (state : HostState) (tx : Transaction) → AreApart state.contracts → All P (sectors_in state) → All P (sectors_in (with_record key state (records.Renewed tx)))
unfolding with_record
renewed_comes P key state tx apart all = renewed_sectors P key tx state.contracts tx.revisions apart all

-- by a revision the slots of its changes pass
pub revised_pass : (key : List ℕ) (state : HostState) (revision : Revision) (renter host : List ℕ) (changes : List Change) (c : Kept) → AreApart state.contracts → contract_among revision.parent state.contracts ≡ Some c
    → fit_for (length c.sectors) (map step_of changes) ≡ true
    → SlotsPass (live_slots state) (filter_map slot_taken changes) (live_slots (with_record key state (records.Revised revision renter host changes))) (dropped c.sectors changes)
unfolding with_record
revised_pass key state revision renter host changes c apart there fits slot =
    changed_pass slot (times slot (filter_map slot_taken changes)) (times slot (dropped c.sectors changes)) revision.parent (revised_contract revision renter host changes) state.contracts c apart there
    (all_pass slot c.sectors changes fits)

-- and each sector was there, or a change brings it
pub revised_comes : (P : Stored → Type 0) (key : List ℕ) (state : HostState) (revision : Revision) (renter host : List ℕ) (changes : List Change) (c : Kept) → AreApart state.contracts
    → contract_among revision.parent state.contracts ≡ Some c → fit_for (length c.sectors) (map step_of changes) ≡ true → All P (sectors_in state) → All (Brings P) changes
    → All P (sectors_in (with_record key state (records.Revised revision renter host changes)))
unfolding with_record
revised_comes P key state revision renter host changes c apart there fits all new =
    changed_sectors P revision.parent (revised_contract revision renter host changes) state.contracts apart all
    (λ k found. let one : c ≡ k = same k found in
    subst (λ (x : Kept). All P (stored_after x.sectors changes)) one (all_bring P c.sectors changes fits (found_sectors P revision.parent state.contracts c there all) new))
  where
    same : (k : Kept) → contract_among revision.parent state.contracts ≡ Some k → c ≡ k
    same k found = let both : Some c ≡ Some k = sym there ∙ found in (cc)
