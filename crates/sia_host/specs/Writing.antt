-- What a host answers to one that asks for a sector, proposes a change of its contract's sectors, or signs it (RHP2's write
-- actions; siad's Merkle diff proofs).
use Rattle.std.specs.Prelude.{◌≡◌, ℕ, ◌*◌, ◌-◌, Bool, true, false, List, [], ◌∷◌, ◌++◌, length, map, drop, find, nat_lt, not, ◌&&◌, Option, Some, None, slice_get, slice_index_or}
use Rattle.std.specs.List.{count_by, sum_by}
use Rattle.std.specs.Option.{option_map}
use Rattle.std.specs.Str.{bytes_eq}
use Rattle.sia_encoding.specs.Firsts.{broken, ◌or_else◌}
use Rattle.sia_merkle.specs.Roots.{node_root_of}
use Rattle.sia_diff.specs.DiffSteps.{after, is_fit}
use Rattle.sia_diff.specs.Diffs.{own_leaves, own_nodes}
use Rattle.sia_types.specs.declared.file_contracts.Revision.{Revision}
use Rattle.sia_price.specs.declared.priced.Priced.{Priced}
use Rattle.sia_price.specs.declared.priced.Priced.TheVariants as priced
use Rattle.sia_rhp.specs.declared.action.Action.{Action}
use Rattle.sia_rhp.specs.declared.action.Action.TheVariants as actions
use Rattle.sia_rhp.specs.declared.answer.Answer.TheVariants as answer
use Rattle.sia_rhp.specs.declared.answer_bodies.WriteAnswer.{WriteAnswer}
use Rattle.sia_rhp.specs.declared.request_bodies.WriteRequest.{WriteRequest}
use Rattle.sia_records.specs.declared.change.Change.{Change}
use Rattle.sia_records.specs.declared.change.Change.TheVariants as changes
use Rattle.sia_records.specs.Stored.{Stored, changes_of, no_sector, stored_after_one}
use Rattle.sia_records.specs.Writes.{Prepared, is_prepared, is_update, sectors_of, steps_of, updates_of}
use Rattle.sia_commands.specs.declared.call.Call.{Call}
use Rattle.sia_commands.specs.declared.codes.TheConstants.{BAD_ACTION, STORE_FULL}
use Rattle.sia_commands.specs.declared.event.Kind.TheVariants as kind
use Rattle.sia_commands.specs.declared.event.Outcome.TheVariants as outcome
use Rattle.sia_commands.specs.declared.reply.Reply.{Reply}
use Rattle.sia_commands.specs.declared.reply.Reply.TheVariants as reply
use Rattle.sia_commands.specs.declared.step.PutJob.{PutJob}
use Rattle.sia_commands.specs.declared.step.Room.{Room}
use Rattle.sia_kept.specs.State.{Kept, roots_of}
use Rattle.sia_host.specs.Paying.{IsHeld, IsRevised, Payment, open_now, paid_revision, unpaid}
use Rattle.sia_host.specs.Answered.{Reaction, Host, Work, answered}

-- a contract's sectors

-- the slot of a sector
abbrev pub sector_slot : Stored → ℕ
sector_slot sector = sector.slot

-- the slot of the first sector with this root
abbrev pub slot_with : Kept → List ℕ → Option ℕ
slot_with c root = option_map sector_slot (find (λ (s : Stored). bytes_eq s.root root) c.sectors)

-- the slot of the sector at a place
abbrev pub slot_at : Kept → ℕ → Option ℕ
slot_at c place = option_map sector_slot (slice_get c.sectors place)

-- the change

-- whether an action appends a sector
abbrev pub is_append : Action → Bool
is_append (actions.Append bytes) = true
is_append other = false

-- whether it swaps two
abbrev pub is_swap : Action → Bool
is_swap (actions.Swap one other) = true
is_swap other = false

-- how many bytes an action changes in a sector
abbrev pub update_bytes : Action → ℕ
update_bytes (actions.Update place offset bytes) = length bytes
update_bytes other = 0

-- what is paid for actions
abbrev pub write_price : List Action → Priced
write_price steps = priced.Write (count_by is_append steps) (count_by is_swap steps) (count_by is_update steps) (sum_by update_bytes steps)

-- what is paid, by a request
abbrev pub write_payment : WriteRequest → Payment
write_payment request = record { number = request.number; valid = request.valid; missed = request.missed }

-- the steps of a write are fit, by their numbers and on what the contract has
abbrev pub can_write : Host → Kept → Prepared → Bool
can_write h c write = is_prepared h.settings.sector write && is_fit (length c.sectors) (steps_of write)

-- why a write is refused, the first of these: its actions aren't fit; it isn't paid; the shelf has too few free slots
abbrev pub write_fault : Host → Room → Prepared → Kept → Option ℕ
write_fault h room write c =
    broken (not (can_write h c write)) BAD_ACTION
    or_else unpaid h c (write_price write.request.actions) (write_payment write.request)
    or_else broken (nat_lt (length room.free) (length (sectors_of write))) STORE_FULL

-- the roots after a write
abbrev pub written_roots : Kept → Prepared → List (List ℕ)
written_roots c write = after (roots_of c) (steps_of write)

-- the revision that a write proposes
abbrev pub written_revision : Host → Prepared → Kept → Revision
written_revision h write c =
    paid_revision c (write_payment write.request) (h.settings.sector * length (written_roots c write)) (node_root_of (written_roots c write))

-- the proof of a write: the new root, the old roots that it touches, the cover of the others, and the proofs of its updates
abbrev pub write_proof : Kept → Prepared → WriteAnswer
write_proof c write = record {
  root = node_root_of (written_roots c write);
  leaves = own_leaves (roots_of c) (steps_of write);
  nodes = own_nodes (roots_of c) (steps_of write);
  updates = updates_of write;
}

-- a proposal of a write is answered so
abbrev pub IsWritten : Host → Room → ℕ → ℕ → Prepared → Reaction → Type 0
IsWritten h room worker session write a =
    let call : Call = record { worker = worker; session = session; kind = kind.Write } in
    IsHeld h call (open_now h session) (write_fault h room write)
    (λ c a. a ≡ answered h call (Some c.id) outcome.Fine (reply.Said (answer.Write (write_proof c write))) None) a

-- the changes of a write: each new sector lies in the next of the least free slots
abbrev pub written_changes : Room → Prepared → List Change
written_changes room write = changes_of (steps_of write) room.free

-- the sectors, each in the next of these slots
abbrev pub put_jobs : List ℕ → List (List ℕ) → List PutJob
put_jobs (slot ∷ slots) (sector ∷ sectors) = record { slot = slot; bytes = sector } ∷ put_jobs slots sectors
put_jobs slots sectors = []

-- the slots whose sectors one change drops
abbrev pub dropped_by : List Stored → Change → List ℕ
dropped_by sectors (changes.Trim fewer) = map sector_slot (drop (length sectors - fewer) sectors)
dropped_by sectors (changes.Set place root slot) = (slice_index_or sectors place no_sector).slot ∷ []
dropped_by sectors other = []

-- the slots whose sectors changes drop, in the order in which they are dropped
abbrev pub dropped : List Stored → List Change → List ℕ
dropped sectors [] = []
dropped sectors (one ∷ others) = dropped_by sectors one ++ dropped (stored_after_one sectors one) others

-- what is left to be done by the record of a write: each new sector is put into the next of the least free slots; the slots whose
-- sectors are dropped, and those whose sectors it puts and drops again, are free
abbrev pub write_work : Room → Prepared → Kept → Work
write_work room write c = record { puts = put_jobs room.free (sectors_of write); fetch = None; freed = dropped c.sectors (written_changes room write) }

-- the reply to a signed write: the host's signature
abbrev pub write_signed : List ℕ → Reply
write_signed host = reply.Said (answer.WriteSign host)

-- A write is signed and answered so: it is judged again on what the host finds now.
abbrev pub IsWriteSigned : (List ℕ → List ℕ → List ℕ → Bool) → (List ℕ → List ℕ → Type 0) → Host → Room → ℕ → ℕ → Prepared → List ℕ → Reaction → Type 0
IsWriteSigned accepts Signs h room worker session write renter a =
    let call : Call = record { worker = worker; session = session; kind = kind.WriteSign } in
    IsHeld h call (open_now h session) (write_fault h room write)
    (λ c a. IsRevised accepts Signs h room call c.id c.renter_key (written_revision h write c) renter (written_changes room write) write_signed (write_work room write c) a) a
