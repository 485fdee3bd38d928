-- What any command records follows on what the host knew.
use Rattle.std.proofs.Common.{◌≡◌, ◌∙◌, ℕ, Bool, true, false, List, Option, Some, None, MatchOption, Result, Ok, Err, refl, sym, ap, subst}
use Rattle.std.specs.Option.{option_and_then, option_map}
use Rattle.sia_encoding.specs.Firsts.{broken}
use Rattle.sia_types.specs.declared.block.Block.{Block}
use Rattle.sia_types.specs.declared.signature.Signature.{Signature}
use Rattle.sia_types.specs.declared.transaction.Transaction.{Transaction}
use Rattle.sia_forms.specs.declared.funding.Additions.{Additions}
use Rattle.sia_records.specs.declared.host_record.HostRecord.{HostRecord}
use Rattle.sia_records.specs.Reads.{Read}
use Rattle.sia_records.specs.Writes.{Prepared}
use Rattle.sia_commands.specs.declared.call.Call.{Call}
use Rattle.sia_commands.specs.declared.codes.TheConstants.{BAD_CONTRACT}
use Rattle.sia_commands.specs.declared.command.Command.{Command}
use Rattle.sia_commands.specs.declared.command.Command.TheVariants as command
use Rattle.sia_commands.specs.declared.event.Kind.TheVariants as kind
use Rattle.sia_commands.specs.declared.event.Outcome.TheVariants as outcome
use Rattle.sia_commands.specs.declared.reply.Reply.TheVariants as reply
use Rattle.sia_commands.specs.declared.step.Room.{Room}
use Rattle.sia_rhp.specs.declared.answer.Answer.TheVariants as answer
use Rattle.sia_rhp.specs.declared.request_bodies.FormRequest.{FormRequest}
use Rattle.sia_rhp.specs.declared.request_bodies.PaidRoots.{PaidRoots}
use Rattle.sia_kept.specs.declared.session.Session.{Session}
use Rattle.sia_kept.specs.State.{Kept, IsSound}
use Rattle.sia_host.specs.declared.outbox.Due.{Due}
use Rattle.sia_host.specs.declared.outbox.Stale.{Stale}
use Rattle.sia_host.specs.Answered.{Host, Reaction, answered, held_now, holder_now, refused, session_now}
use Rattle.sia_host.specs.Answers.{IsAnswer}
use Rattle.sia_host.specs.Entering.{enter_reaction, leave_given, settings_reaction}
use Rattle.sia_host.specs.Fetching.{fetch_given, slot_wanted}
use Rattle.sia_host.specs.Feeding.{apply_reaction, revert_reaction}
use Rattle.sia_host.specs.Forming.{IsFormSigned, IsProposed, form_added, form_judged, is_formed}
use Rattle.sia_host.specs.Jobs.{due_contracts, next_after, stale_contracts}
use Rattle.sia_host.specs.Locking.{lock_given, lock_judged, unlock_given}
use Rattle.sia_host.specs.Outbox.{asking, due_handed, due_now, stale_handed, stale_of}
use Rattle.sia_host.specs.Paying.{IsHeld, open_now}
use Rattle.sia_host.specs.Reading.{AreRoots, IsRead}
use Rattle.sia_host.specs.Renewing.{IsRenewSigned, renew_added, renew_judged}
use Rattle.sia_host.specs.Replaying.{HasLeast, IsTyped, replays}
use Rattle.sia_host.specs.Writing.{IsWriteSigned, write_fault, write_proof}
use Rattle.sia_host.proofs.FormedOut.{formed_out}
use Rattle.sia_host.proofs.CommandsOut.{applied_out, read_out, reverted_out, roots_out}
use Rattle.sia_host.proofs.RenewalsOut.{renewed_out}
use Rattle.sia_host.proofs.WrittenOut.{written_out}

-- an answer without a record has none
no_record : (r a : Reaction) (made : HostRecord) → r.made ≡ None → a ≡ r → a.made ≡ Some made → ⊥
no_record r a made none is some = absurd (let same : None ≡ Some made = sym none ∙ ap (λ (x : Reaction). x.made) (sym is) ∙ some in cc)

leave_none : (h : Host) (call : Call) (found : Option Session) → (leave_given h call found).made ≡ None
leave_none h call None = refl
leave_none h call (Some session) = refl

lock_none : (h : Host) (call : Call) (id : List ℕ) (judged : Result Kept ℕ) (holder : Option ℕ) → (lock_given h call id judged holder).made ≡ None
lock_none h call id (Err code) holder = refl
lock_none h call id (Ok contract) (Some holder) = refl
lock_none h call id (Ok contract) None = refl

unlock_none : (h : Host) (call : Call) (held : Option (List ℕ)) → (unlock_given h call held).made ≡ None
unlock_none h call None = refl
unlock_none h call (Some held) = refl

fetch_none : (h : Host) (call : Call) (slot : Result ℕ ℕ) → (fetch_given h call slot).made ≡ None
fetch_none h call (Err code) = refl
fetch_none h call (Ok slot) = refl

stale_none : (h : Host) (call : Call) (stale : Option Stale) → (stale_handed h call stale).made ≡ None
stale_none h call None = refl
stale_none h call (Some stale) = refl

due_none : (h : Host) (call : Call) (due : Option Due) → (due_handed h call due).made ≡ None
due_none h call None = refl
due_none h call (Some due) = refl

-- a proposal makes no record
proposed_none : (h : Host) (call : Call) (held : Option (List ℕ)) (tx : Transaction) (judged : Result ℕ ℕ) (said : Additions → Reaction) (a : Reaction) (made : HostRecord) → ((added : Additions) → (said added).made ≡ None)
    → IsProposed h call held tx judged (λ added b. b ≡ said added) a → a.made ≡ Some made → ⊥
proposed_none h call held tx (Err code) said a made none is some = no_record (refused h call held code) a made refl is some
proposed_none h call held tx (Ok collateral) said a made none is some = by (is_formed h tx is.0) is.2
  where
    by : (known : Bool) → MatchOption (broken known BAD_CONTRACT) (a ≡ said is.0) (λ code. a ≡ refused h call held code) → ⊥
    by true is = no_record (refused h call held BAD_CONTRACT) a made refl is some
    by false at = no_record (said is.0) a made (none is.0) at some

-- neither does one that is about the held contract
held_none : (h : Host) (call : Call) (opened : Result Kept ℕ) (fault : Kept → Option ℕ) (said : Kept → Reaction) (a : Reaction) (made : HostRecord) → ((c : Kept) → (said c).made ≡ None)
    → IsHeld h call opened fault (λ c b. b ≡ said c) a → a.made ≡ Some made → ⊥
held_none h call (Err code) fault said a made none is some = no_record (refused h call (held_now h call.session) code) a made refl is some
held_none h call (Ok c) fault said a made none is some = by (fault c) is
  where
    by : (f : Option ℕ) → MatchOption f (a ≡ said c) (λ code. a ≡ refused h call (held_now h call.session) code) → ⊥
    by (Some code) at = no_record (refused h call (held_now h call.session) code) a made refl at some
    by None at = no_record (said c) a made (none c) at some

-- what is shown of each command that makes a record
pub record Shown (Q : Type 0) (accepts : List ℕ → List ℕ → List ℕ → Bool) (Signs : List ℕ → List ℕ → Type 0) (h : Host) (room : Room) (worker session : ℕ) (asked : Command) (a : Reaction) : Type 0 where
  pub formed : (request : FormRequest) (renter : List Signature) → asked ≡ command.FormSign request renter → IsFormSigned accepts Signs h room worker session request renter a → Q
  pub written : (write : Prepared) (renter : List ℕ) → asked ≡ command.WriteSign write renter → IsWriteSigned accepts Signs h room worker session write renter a → Q
  pub read : (read : Read) → asked ≡ command.Read read → IsRead accepts Signs h room worker session read a → Q
  pub roots : (request : PaidRoots) → asked ≡ command.Roots request → AreRoots accepts Signs h room worker session request a → Q
  pub renewed : (tx : Transaction) (renter : List Signature) → asked ≡ command.RenewSign tx renter → IsRenewSigned accepts Signs h room worker session tx renter a → Q
  pub applied : (block : Block) → asked ≡ command.Apply block → a ≡ apply_reaction accepts h room worker block → Q
  pub reverted : asked ≡ command.Revert → a ≡ revert_reaction h room worker → Q

-- holds where a record is made
pub made_by : (Q : Type 0) (accepts : List ℕ → List ℕ → List ℕ → Bool) (Signs : List ℕ → List ℕ → Type 0) (h : Host) (room : Room) (worker session : ℕ) (asked : Command) (a : Reaction) (made : HostRecord)
    → Shown Q accepts Signs h room worker session asked a → IsAnswer accepts Signs h room worker session asked a → a.made ≡ Some made → Q
made_by Q accepts Signs h room worker session command.Enter a made by is some = absurd (no_record (enter_reaction h worker) a made refl is some)
made_by Q accepts Signs h room worker session command.Settings a made by is some = absurd (no_record (settings_reaction h worker session) a made refl is some)
made_by Q accepts Signs h room worker session (command.Form request) a made by is some =
    let call : Call = record { worker = worker; session = session; kind = kind.Form } in
    absurd (proposed_none h call None request.transaction (form_judged h session request) (form_added h call) a made (λ added. refl) is some)
made_by Q accepts Signs h room worker session (command.FormSign request renter) a made by is some = by.formed request renter refl is
made_by Q accepts Signs h room worker session (command.Lock request) a made by is some =
    let call : Call = record { worker = worker; session = session; kind = kind.Lock } in
    absurd (no_record (lock_given h call request.contract (lock_judged accepts h session request) (holder_now h request.contract)) a made (lock_none h call request.contract (lock_judged accepts h session request) (holder_now h request.contract)) is some)
made_by Q accepts Signs h room worker session command.Unlock a made by is some =
    let call : Call = record { worker = worker; session = session; kind = kind.Unlock } in
    absurd (no_record (unlock_given h call (held_now h session)) a made (unlock_none h call (held_now h session)) is some)
made_by Q accepts Signs h room worker session (command.Fetch want) a made by is some =
    let call : Call = record { worker = worker; session = session; kind = kind.Fetch } in
    absurd (no_record (fetch_given h call (slot_wanted h session want)) a made (fetch_none h call (slot_wanted h session want)) is some)
made_by Q accepts Signs h room worker session (command.Write write) a made by is some =
    let call : Call = record { worker = worker; session = session; kind = kind.Write } in
    absurd (held_none h call (open_now h session) (write_fault h room write) (λ c. answered h call (Some c.id) outcome.Fine (reply.Said (answer.Write (write_proof c write))) None) a made (λ c. refl) is some)
made_by Q accepts Signs h room worker session (command.WriteSign write renter) a made by is some = by.written write renter refl is
made_by Q accepts Signs h room worker session (command.Read read) a made by is some = by.read read refl is
made_by Q accepts Signs h room worker session (command.Roots request) a made by is some = by.roots request refl is
made_by Q accepts Signs h room worker session (command.Renew tx) a made by is some =
    let call : Call = record { worker = worker; session = session; kind = kind.Renew } in
    absurd (proposed_none h call (held_now h session) tx (renew_judged h session tx) (renew_added h call) a made (λ added. refl) is some)
made_by Q accepts Signs h room worker session (command.RenewSign tx renter) a made by is some = by.renewed tx renter refl is
made_by Q accepts Signs h room worker session command.Leave a made by is some =
    let call : Call = record { worker = worker; session = session; kind = kind.Leave } in
    absurd (no_record (leave_given h call (session_now h session)) a made (leave_none h call (session_now h session)) is some)
made_by Q accepts Signs h room worker session (command.Apply block) a made by is some = by.applied block refl is
made_by Q accepts Signs h room worker session command.Revert a made by is some = by.reverted refl is
made_by Q accepts Signs h room worker session (command.Stale id first) a made by is some =
    let stale = option_map (stale_of h) (next_after id first (stale_contracts h)) in
    absurd (no_record (stale_handed h (asking worker kind.Stale) stale) a made (stale_none h (asking worker kind.Stale) stale) is some)
made_by Q accepts Signs h room worker session (command.Due id first) a made by is some =
    let due = option_and_then (due_now h) (next_after id first (due_contracts h)) in
    absurd (no_record (due_handed h (asking worker kind.Due) due) a made (due_none h (asking worker kind.Due) due) is some)

-- what a command records follows on what a sound host knew, where its room has the least free slots
pub answer_out : (accepts : List ℕ → List ℕ → List ℕ → Bool) (Signs : List ℕ → List ℕ → Type 0) (h : Host) (room : Room) (worker session : ℕ) (asked : Command) (a : Reaction) (made : HostRecord)
    → IsSound h.settings.sector h.settings.host_key h.state.contracts → HasLeast h room → IsTyped asked → IsAnswer accepts Signs h room worker session asked a → a.made ≡ Some made → replays accepts h made ≡ true
answer_out accepts Signs h room worker session asked a made sound least typed is some =
    made_by (replays accepts h made ≡ true) accepts Signs h room worker session asked a made (record {
      formed = (λ request renter at signed. formed_out accepts Signs h room worker session request renter a made signed some);
      written = (λ write renter at signed. written_out accepts Signs h room worker session write renter a made sound least signed some);
      read = (λ read at served. read_out accepts Signs h room worker session read a made sound served some);
      roots = (λ request at told. roots_out accepts Signs h room worker session request a made sound told some);
      renewed = (λ tx renter at signed. let fits = subst IsTyped at typed in renewed_out accepts Signs h room worker session fits.0 tx renter a made sound fits.1 signed some);
      applied = (λ block at applied. applied_out accepts h room worker block a made applied some);
      reverted = (λ at reverted. reverted_out accepts h room worker a made reverted some);
    }) is some
