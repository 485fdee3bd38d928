-- An answer, taken apart by what it follows from.
use Rattle.std.proofs.Common.{◌≡◌, ℕ, ◌≤◌, Bool, true, false, not, List, Option, Some, None, MatchOption, Result, Ok, Err, refl}
use Rattle.std.proofs.lemmas.Bool.{ltb-false}
use Rattle.sia_encoding.specs.Firsts.{broken, ◌or_else◌}
use Rattle.sia_types.specs.declared.file_contracts.Revision.{Revision}
use Rattle.sia_types.specs.declared.transaction.Transaction.{Transaction}
use Rattle.sia_rules.specs.declared.fault.BlockFault.{BlockFault}
use Rattle.sia_rules.specs.declared.fault.BlockFault.TheVariants as block_fault
use Rattle.sia_forms.specs.declared.funding.Additions.{Additions}
use Rattle.sia_records.specs.declared.change.Change.{Change}
use Rattle.sia_records.specs.declared.host_record.HostRecord.{HostRecord}
use Rattle.sia_records.specs.declared.host_record.HostRecord.TheVariants as records
use Rattle.sia_commands.specs.declared.call.Call.{Call}
use Rattle.sia_commands.specs.declared.codes.TheConstants.{BAD_CONTRACT, BAD_SIGNATURE, STORE_FULL}
use Rattle.sia_commands.specs.declared.event.Outcome.TheVariants as outcome
use Rattle.sia_commands.specs.declared.reply.Reply.{Reply}
use Rattle.sia_commands.specs.declared.step.Room.{Room}
use Rattle.sia_kept.specs.State.{Kept}
use Rattle.sia_host.specs.Answered.{Host, Reaction, Work, framed_length, held_now, lacks_room, refused, worked}
use Rattle.sia_host.specs.Forming.{IsProposed, is_formed, keeping_fault}
use Rattle.sia_host.specs.Paying.{IsHeld, IsRevised, revised_unless, signs_revision}

-- a proposal is refused, or answered by what the host adds
pub proposed : {Goal : Type 0} (h : Host) (call : Call) (held : Option (List ℕ)) (tx : Transaction) (judged : Result ℕ ℕ) (Follows : Additions → Reaction → Type 0) (a : Reaction)
    → ((code : ℕ) → a ≡ refused h call held code → Goal) → ((collateral : ℕ) (added : Additions) → judged ≡ Ok collateral → Follows added a → Goal) → IsProposed h call held tx judged Follows a → Goal
proposed {Goal} h call held tx (Err code) Follows a refuses follows is = refuses code is
proposed {Goal} h call held tx (Ok collateral) Follows a refuses follows is = by (is_formed h tx is.0) is.2
  where
    by : (known : Bool) → MatchOption (broken known BAD_CONTRACT) (Follows is.0 a) (λ code. a ≡ refused h call held code) → Goal
    by true at = refuses BAD_CONTRACT at
    by false at = follows collateral is.0 refl at

-- a request about the held contract is refused, or answered by what follows
pub held : {Goal : Type 0} (h : Host) (call : Call) (opened : Result Kept ℕ) (fault : Kept → Option ℕ) (Follows : Kept → Reaction → Type 0) (a : Reaction)
    → ((code : ℕ) → a ≡ refused h call (held_now h call.session) code → Goal) → ((c : Kept) → opened ≡ Ok c → fault c ≡ None → Follows c a → Goal) → IsHeld h call opened fault Follows a → Goal
held {Goal} h call (Err code) fault Follows a refuses follows is = refuses code is
held {Goal} h call (Ok c) fault Follows a refuses follows is = by (fault c) refl is
  where
    by : (f : Option ℕ) → fault c ≡ f → MatchOption f (Follows c a) (λ code. a ≡ refused h call (held_now h call.session) code) → Goal
    by (Some code) at found = refuses code found
    by None at found = follows c refl at found

-- a record for which there is room has so many bytes
pub has_room : (room : Room) (made : HostRecord) → lacks_room room made ≡ false → framed_length made ≤ room.bytes
has_room room made is = ltb-false room.bytes (framed_length made) is

-- a revision is refused, or its record is made
pub revised : {Goal : Type 0} (accepts : List ℕ → List ℕ → List ℕ → Bool) (Signs : List ℕ → List ℕ → Type 0) (h : Host) (room : Room) (call : Call) (id key : List ℕ) (revision : Revision) (renter : List ℕ) (changes : List Change)
    (said : List ℕ → Reply) (work : Work) (a : Reaction)
    → ((code : ℕ) → a ≡ refused h call (Some id) code → Goal)
    → ((host : List ℕ) → framed_length (records.Revised revision renter host changes) ≤ room.bytes → a ≡ worked h call (Some id) outcome.Fine (said host) (Some (records.Revised revision renter host changes)) work → Goal)
    → IsRevised accepts Signs h room call id key revision renter changes said work a → Goal
revised {Goal} accepts Signs h room call id key revision renter changes said work a refuses follows is =
    by (lacks_room room (records.Revised revision renter is.0 changes)) (signs_revision accepts key revision renter) refl is.2
  where
    by : (full signed : Bool) → lacks_room room (records.Revised revision renter is.0 changes) ≡ full
        → a ≡ revised_unless h call id (said is.0) (records.Revised revision renter is.0 changes) work (broken full STORE_FULL or_else broken (not signed) BAD_SIGNATURE) → Goal
    by true signed at found = refuses STORE_FULL found
    by false false at found = refuses BAD_SIGNATURE found
    by false true at found = follows is.0 (has_room room (records.Revised revision renter is.0 changes) at) found

-- what is kept has room
pub not_full : (full : Bool) (fault : Option BlockFault) → keeping_fault full fault ≡ None → full ≡ false
not_full false fault is = refl
not_full true None is = (cc)
not_full true (Some (block_fault.Signature t fault)) is = (cc)
not_full true (Some _) is = (cc)
