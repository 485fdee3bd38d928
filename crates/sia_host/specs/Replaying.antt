-- Which records follow on what a host knows: those that some command makes, whatever the settings and the room of their day, the
-- host's additions and its own signature of a revision.
use Rattle.std.specs.Prelude.{◌≡◌, ℕ, ◌+◌, ◌*◌, ◌≤◌, Bool, true, false, List, [], ◌∷◌, length, map, take, nat_lt, nat_le, not, ◌==◌, ◌&&◌, Option, Some, None, if◌then◌else◌}
use Rattle.std.specs.List.{filter, filter_map, range_with_len}
use Rattle.std.specs.Option.{is_none, option_map_or}
use Rattle.std.specs.Str.{bytes_eq}
use Rattle.sia_encoding.specs.declared.limits.TheConstants.{ACTIONS}
use Rattle.sia_merkle.specs.Roots.{node_root_of}
use Rattle.sia_diff.specs.DiffSteps.{after, is_fit}
use Rattle.sia_types.specs.FileContracts.{revision as revision_codec}
use Rattle.sia_types.specs.Transaction.{transaction}
use Rattle.sia_types.specs.declared.coins.CoinOutput.{CoinOutput}
use Rattle.sia_types.specs.declared.file_contracts.FileContract.{FileContract}
use Rattle.sia_types.specs.declared.file_contracts.Revision.{Revision}
use Rattle.sia_types.specs.declared.settings.Settings.{Settings}
use Rattle.sia_types.specs.declared.transaction.Transaction.{Transaction}
use Rattle.sia_ids.specs.Transactions.{contract_id}
use Rattle.sia_ledger.specs.Chain.{height}
use Rattle.sia_ledger.specs.Refusal.{refusal, set_refusal}
use Rattle.sia_price.specs.Payments.{has_same_counts, has_same_sums, values_of}
use Rattle.sia_forms.specs.Checks.{begins_with, is_cleared as clears, is_spelled_as, pays_parties}
use Rattle.sia_forms.specs.Parties.{both_address, zero_hash}
use Rattle.sia_records.specs.declared.change.Change.{Change}
use Rattle.sia_records.specs.declared.change.Change.TheVariants as changes
use Rattle.sia_records.specs.declared.host_record.HostRecord.{HostRecord}
use Rattle.sia_records.specs.declared.host_record.HostRecord.TheVariants as records
use Rattle.sia_records.specs.HostRecords.{host_record}
use Rattle.sia_records.specs.Stored.{step_of}
use Rattle.sia_commands.specs.declared.command.Command.{Command}
use Rattle.sia_commands.specs.declared.command.Command.TheVariants as command
use Rattle.sia_commands.specs.declared.step.Room.{Room}
use Rattle.sia_kept.specs.State.{Kept, contract_among, is_among, is_free_slot, live_slots, roots_of, with_record}
use Rattle.sia_host.specs.declared.phase.Phase.TheVariants as phase
use Rattle.sia_host.specs.Paying.{Payment, is_late, is_low, paid_revision, signs_revision, was_cleared}
use Rattle.sia_host.specs.Answered.{Host, record_payload}

-- contracts that begin

-- a whole transaction has nothing but siacoins, fees, contracts and revisions; it may be signed
abbrev pub has_coins_alone : Transaction → Bool
has_coins_alone tx = (length tx.proofs == 0) && (length tx.fund_inputs == 0) && (length tx.fund_outputs == 0) && (length tx.notes == 0)

-- the whole transaction forms no contract that the host knows, and breaks no rule of the chain as the first of a next block
abbrev pub is_new : (List ℕ → List ℕ → List ℕ → Bool) → Host → Transaction → Bool
is_new accepts h tx = not (is_among (contract_id tx 0) h.state.contracts) && is_none (set_refusal accepts h.state.chain tx)

-- its one contract begins with nothing, under both keys, and pays both parties alike whether it is proved or not
abbrev pub begins_so : Host → List ℕ → List FileContract → Bool
begins_so h renter_key (c ∷ []) = begins_with 0 zero_hash (both_address renter_key h.settings.host_key) c && pays_parties h.settings 0 c.valid c.missed
begins_so h renter_key contracts = false

-- a formation follows
abbrev pub formed_replays : (List ℕ → List ℕ → List ℕ → Bool) → Host → List ℕ → Transaction → Bool
formed_replays accepts h renter_key tx =
    (length tx.revisions == 0) && has_coins_alone tx && begins_so h renter_key tx.contracts && is_new accepts h tx

-- outputs of a renewal: the renter is paid alike whether it is proved or not, and the host and the void have theirs
abbrev pub renewal_pays : Settings → List CoinOutput → List CoinOutput → Bool
renewal_pays s (renter ∷ host ∷ []) (missed_renter ∷ missed_host ∷ void ∷ []) =
    bytes_eq missed_renter.address renter.address
    && bytes_eq host.address s.address
    && bytes_eq missed_host.address s.address
    && bytes_eq void.address zero_hash
    && (missed_renter.value == renter.value)
renewal_pays s valid missed = false

-- its one contract begins with what the old one stores
abbrev pub renews_so : Host → Kept → List FileContract → Bool
renews_so h old (c ∷ []) = begins_with old.newest.size old.newest.root (both_address old.renter_key h.settings.host_key) c && renewal_pays h.settings c.valid c.missed
renews_so h old contracts = false

-- a renewal of this contract follows
abbrev pub renews_contract : (List ℕ → List ℕ → List ℕ → Bool) → Host → Transaction → Kept → Bool
renews_contract accepts h tx old =
    not (was_cleared old) && not (is_late h old) && clears old.newest tx.revisions && has_coins_alone tx && renews_so h old tx.contracts && is_new accepts h tx

-- a renewal by this revision follows
abbrev pub renewed_replays : (List ℕ → List ℕ → List ℕ → Bool) → Host → Transaction → List Revision → Bool
renewed_replays accepts h tx (revision ∷ []) = option_map_or (renews_contract accepts h tx) (contract_among revision.parent h.state.contracts) false
renewed_replays accepts h tx revisions = false

-- contracts that are revised

-- the slot that a change takes, if it takes one
abbrev pub slot_taken : Change → Option ℕ
slot_taken (changes.Append root slot) = Some slot
slot_taken (changes.Set place root slot) = Some slot
slot_taken other = None

-- the least slots without a sector, so many
abbrev pub least_free : List ℕ → ℕ → List ℕ
least_free live count = take count (filter (is_free_slot live) (range_with_len 0 (length live + count)))

-- two lists of numbers are one
abbrev pub same_numbers : List ℕ → List ℕ → Bool
same_numbers some others = bytes_eq some others

-- The slots that a command finds free are the least free ones: so many of them, from the first on, are the least ones of so many.
abbrev pub HasLeast : Host → Room → Type 0
HasLeast h room = (n : ℕ) → n ≤ length room.free → take n room.free ≡ least_free (live_slots h.state) n

-- the slots that changes take are the least free ones, in order
abbrev pub takes_least : Host → List Change → Bool
takes_least h done = let taken = filter_map slot_taken done in same_numbers taken (least_free (live_slots h.state) (length taken))

-- the changes are fit: at most 16, fit for the contract's sectors, and the slots are the least free ones
abbrev pub changes_fit : Host → Kept → List Change → Bool
changes_fit h c done = nat_le (length done) ACTIONS && is_fit (length c.sectors) (map step_of done) && takes_least h done

-- the roots after changes
abbrev pub changed_roots : Kept → List Change → List (List ℕ)
changed_roots c done = after (roots_of c) (map step_of done)

-- what a revision pays, as far as it can be seen
abbrev pub payment_in : Revision → Payment
payment_in revision = record { number = revision.number; valid = values_of revision.valid; missed = values_of revision.missed }

-- the revision that these changes make of the newest one; with none it stores the same
abbrev pub expected : Host → Kept → Payment → List Change → Revision
expected h c p [] = paid_revision c p c.newest.size c.newest.root
expected h c p (one ∷ others) =
    let roots = changed_roots c (one ∷ others) in paid_revision c p (h.settings.sector * length roots) (node_root_of roots)

-- a revision of this contract follows: the contract can still be revised, the number is above the newest one, the values are as many
-- and have the same sums, the changes are fit, all else is as they make it, and the renter has signed it
abbrev pub revises_contract : (List ℕ → List ℕ → List ℕ → Bool) → Host → Revision → List ℕ → List Change → Kept → Bool
revises_contract accepts h revision renter done c =
    let p = payment_in revision in
    not (was_cleared c) && not (is_late h c) && not (is_low c revision.number)
    && has_same_counts c.newest p.valid p.missed && has_same_sums c.newest p.valid p.missed
    && changes_fit h c done
    && is_spelled_as revision_codec revision (expected h c p done)
    && signs_revision accepts c.renter_key revision renter

-- A record follows on what the host knows.
unfoldable pub replays : (List ℕ → List ℕ → List ℕ → Bool) → Host → HostRecord → Bool
replays accepts h (records.Block block) = is_none (refusal accepts h.state.chain block)
replays accepts h records.Revert = nat_lt 0 (height h.state.chain)
replays accepts h (records.Formed renter_key tx) = formed_replays accepts h renter_key tx
replays accepts h (records.Revised revision renter host done) = option_map_or (revises_contract accepts h revision renter done) (contract_among revision.parent h.state.contracts) false
replays accepts h (records.Renewed tx) = renewed_replays accepts h tx tx.revisions

-- The transaction of a command that signs a renewal is of its type, as each is that was read: a hash has 32 bytes, and no number is
-- above its bound. Nothing is asked of another command.
abbrev pub IsTyped : Command → Type 0
IsTyped (command.RenewSign tx renter) = (limit : ℕ) × transaction.fits limit tx
IsTyped other = Unit {0}

-- payloads

-- A payload is a record: it spells it whole and without a rest. No length and no count of it is above the payload's own length.
pub record IsPayload (payload : List ℕ) (made : HostRecord) : Type 0 where
  pub fits : host_record.fits (length payload) made
  pub whole : payload ≡ record_payload made

-- a host that has a record more by its journal: its events stay, and no step is to be taken back any more
abbrev pub with_made : Host → HostRecord → Host
with_made h made = record h { state = with_record h.settings.host_key h.state made; phase = phase.Settled }

-- A record is replayed so: the answer is whether it follows; then the host knows it, and else all is as before.
pub record IsReplayed (accepts : List ℕ → List ℕ → List ℕ → Bool) (h : Host) (made : HostRecord) (follows : Bool) (after : Host) : Type 0 where
  pub judged : follows ≡ replays accepts h made
  pub host : after ≡ (if follows then with_made h made else h)

-- A payload is replayed so: where it is a record that follows, the host knows that one; where it is no record that follows, all is as
-- before.
abbrev pub ReplaysPayload : (List ℕ → List ℕ → List ℕ → Bool) → Host → List ℕ → Bool → Host → Type 0
ReplaysPayload accepts h payload true after = (made : HostRecord) × IsPayload payload made × (replays accepts h made ≡ true) × (after ≡ with_made h made)
ReplaysPayload accepts h payload false after = ((made : HostRecord) → IsPayload payload made → replays accepts h made ≡ false) × (after ≡ h)
