-- What each command's answer leaves to be done.
use Rattle.std.proofs.Common.{◌≡◌, ℕ, Bool, List, Option, Some, None, Result, Ok, Err, refl}
use Rattle.std.specs.Option.{option_map}
use Rattle.sia_types.specs.declared.transaction.Transaction.{Transaction}
use Rattle.sia_forms.specs.declared.funding.Additions.{Additions}
use Rattle.sia_rhp.specs.declared.answer.Answer.TheVariants as answer
use Rattle.sia_commands.specs.declared.call.Call.{Call}
use Rattle.sia_commands.specs.declared.command.Command.{Command}
use Rattle.sia_commands.specs.declared.command.Command.TheVariants as command
use Rattle.sia_commands.specs.declared.event.Kind.TheVariants as kind
use Rattle.sia_commands.specs.declared.event.Outcome.TheVariants as outcome
use Rattle.sia_commands.specs.declared.reply.Reply.TheVariants as reply
use Rattle.sia_commands.specs.declared.step.Room.{Room}
use Rattle.sia_kept.specs.declared.session.Session.{Session}
use Rattle.sia_kept.specs.State.{IsSound, Kept}
use Rattle.sia_host.specs.Answered.{Host, Reaction, answered, held_now, holder_now, refused, session_now}
use Rattle.sia_host.specs.Answers.{IsAnswer}
use Rattle.sia_host.specs.Entering.{enter_reaction, leave_given, settings_reaction}
use Rattle.sia_host.specs.Forming.{IsProposed, form_added, form_judged}
use Rattle.sia_host.specs.Jobs.{next_after, stale_contracts}
use Rattle.sia_host.specs.Locking.{lock_given, lock_judged, unlock_given}
use Rattle.sia_host.specs.Outbox.{asking, stale_handed, stale_of}
use Rattle.sia_host.specs.Paying.{open_now}
use Rattle.sia_host.specs.Renewing.{renew_added, renew_judged}
use Rattle.sia_host.specs.Writing.{write_fault, write_proof}
use Rattle.sia_slots.specs.Work.{IsWork}
use Rattle.sia_slots.proofs.Fetching.{due_works, fetch_works}
use Rattle.sia_slots.proofs.FormedWorks.{apply_works, form_works, renew_works, revert_works}
use Rattle.sia_slots.proofs.Parted.{held, proposed}
use Rattle.sia_slots.proofs.RevisedWorks.{read_works, roots_work, write_works}
use Rattle.sia_slots.proofs.Working.{idle}

leave_works : (h : Host) (room : Room) (call : Call) (found : Option Session) (a : Reaction) → a ≡ leave_given h call found → IsWork h room a
leave_works h room call None a is = idle h room a (leave_given h call None) refl refl is
leave_works h room call (Some session) a is = idle h room a (leave_given h call (Some session)) refl refl is

lock_works : (h : Host) (room : Room) (call : Call) (id : List ℕ) (judged : Result Kept ℕ) (holder : Option ℕ) (a : Reaction) → a ≡ lock_given h call id judged holder → IsWork h room a
lock_works h room call id (Err code) holder a is = idle h room a (lock_given h call id (Err code) holder) refl refl is
lock_works h room call id (Ok contract) (Some holder) a is = idle h room a (lock_given h call id (Ok contract) (Some holder)) refl refl is
lock_works h room call id (Ok contract) None a is = idle h room a (lock_given h call id (Ok contract) None) refl refl is

unlock_works : (h : Host) (room : Room) (call : Call) (held : Option (List ℕ)) (a : Reaction) → a ≡ unlock_given h call held → IsWork h room a
unlock_works h room call None a is = idle h room a (unlock_given h call None) refl refl is
unlock_works h room call (Some held) a is = idle h room a (unlock_given h call (Some held)) refl refl is

stale_works : (h : Host) (room : Room) (call : Call) (found : Option Kept) (a : Reaction) → a ≡ stale_handed h call (option_map (stale_of h) found) → IsWork h room a
stale_works h room call None a is = idle h room a (stale_handed h call None) refl refl is
stale_works h room call (Some c) a is = idle h room a (stale_handed h call (Some (stale_of h c))) refl refl is

-- a proposal leaves nothing
proposal_works : (h : Host) (room : Room) (call : Call) (held : Option (List ℕ)) (tx : Transaction) (judged : Result ℕ ℕ) (said : Additions → Reaction) (a : Reaction)
    → ((added : Additions) → a ≡ said added → IsWork h room a) → IsProposed h call held tx judged (λ added b. b ≡ said added) a → IsWork h room a
proposal_works h room call held tx judged said a works is =
    proposed h call held tx judged (λ added b. b ≡ said added) a (λ code found. idle h room a (refused h call held code) refl refl found) (λ collateral added judges found. works added found) is

-- what any command leaves to be done
pub answer_works : (accepts : List ℕ → List ℕ → List ℕ → Bool) (Signs : List ℕ → List ℕ → Type 0) (h : Host) (room : Room) (worker session : ℕ) (asked : Command) (a : Reaction)
    → IsSound h.settings.sector h.settings.host_key h.state.contracts → IsAnswer accepts Signs h room worker session asked a → IsWork h room a
answer_works accepts Signs h room worker session command.Enter a sound is = idle h room a (enter_reaction h worker) refl refl is
answer_works accepts Signs h room worker session command.Settings a sound is = idle h room a (settings_reaction h worker session) refl refl is
answer_works accepts Signs h room worker session (command.Form request) a sound is =
    let call : Call = record { worker = worker; session = session; kind = kind.Form } in
    proposal_works h room call None request.transaction (form_judged h session request) (form_added h call) a (λ added found. idle h room a (form_added h call added) refl refl found) is
answer_works accepts Signs h room worker session (command.FormSign request renter) a sound is = form_works accepts Signs h room worker session request renter a is
answer_works accepts Signs h room worker session (command.Lock request) a sound is =
    lock_works h room (record { worker = worker; session = session; kind = kind.Lock }) request.contract (lock_judged accepts h session request) (holder_now h request.contract) a is
answer_works accepts Signs h room worker session command.Unlock a sound is = unlock_works h room (record { worker = worker; session = session; kind = kind.Unlock }) (held_now h session) a is
answer_works accepts Signs h room worker session (command.Fetch want) a sound is = fetch_works h room worker session want a is
answer_works accepts Signs h room worker session (command.Write write) a sound is =
    let call : Call = record { worker = worker; session = session; kind = kind.Write } in
    let said = λ (c : Kept). answered h call (Some c.id) outcome.Fine (reply.Said (answer.Write (write_proof c write))) None in
    held h call (open_now h session) (write_fault h room write) (λ c b. b ≡ said c) a (λ code found. idle h room a (refused h call (held_now h session) code) refl refl found)
    (λ c opened fine found. idle h room a (said c) refl refl found) is
answer_works accepts Signs h room worker session (command.WriteSign write renter) a sound is = write_works accepts Signs h room worker session write renter a sound is
answer_works accepts Signs h room worker session (command.Read read) a sound is = read_works accepts Signs h room worker session read a sound is
answer_works accepts Signs h room worker session (command.Roots request) a sound is = roots_work accepts Signs h room worker session request a sound is
answer_works accepts Signs h room worker session (command.Renew tx) a sound is =
    let call : Call = record { worker = worker; session = session; kind = kind.Renew } in
    proposal_works h room call (held_now h session) tx (renew_judged h session tx) (renew_added h call) a (λ added found. idle h room a (renew_added h call added) refl refl found) is
answer_works accepts Signs h room worker session (command.RenewSign tx renter) a sound is = renew_works accepts Signs h room worker session tx renter a sound is
answer_works accepts Signs h room worker session command.Leave a sound is = leave_works h room (record { worker = worker; session = session; kind = kind.Leave }) (session_now h session) a is
answer_works accepts Signs h room worker session (command.Apply block) a sound is = apply_works accepts h room worker block a is
answer_works accepts Signs h room worker session command.Revert a sound is = revert_works h room worker a is
answer_works accepts Signs h room worker session (command.Stale id first) a sound is = stale_works h room (asking worker kind.Stale) (next_after id first (stale_contracts h)) a is
answer_works accepts Signs h room worker session (command.Due id first) a sound is = due_works h room worker id first a sound is
