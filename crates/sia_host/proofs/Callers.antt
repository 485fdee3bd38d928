-- The event of an answer is of the command's kind and session, and does to the session what a host may do.
use Rattle.std.proofs.Common.{◌≡◌, ◌∙◌, ℕ, zero, suc, Bool, true, false, not, List, [], Option, Some, None, IsSome, MatchOption, Result, Ok, Err, refl, sym, ap, subst}
use Rattle.std.specs.Option.{is_some, option_and_then, option_map}
use Rattle.sia_encoding.specs.Answer.{◌>>=◌, unless}
use Rattle.sia_encoding.specs.Firsts.{broken}
use Rattle.sia_types.specs.declared.block.Block.{Block}
use Rattle.sia_types.specs.declared.file_contracts.Revision.{Revision}
use Rattle.sia_types.specs.declared.signature.Signature.{Signature}
use Rattle.sia_types.specs.declared.transaction.Transaction.{Transaction}
use Rattle.sia_rules.specs.declared.fault.BlockFault.{BlockFault}
use Rattle.sia_rhp.specs.declared.answer.Answer.TheVariants as answer
use Rattle.sia_rhp.specs.declared.request_bodies.LockRequest.{LockRequest}
use Rattle.sia_ledger.specs.Chain.{height}
use Rattle.sia_ledger.specs.Refusal.{refusal, set_refusal}
use Rattle.sia_forms.specs.declared.funding.Additions.{Additions}
use Rattle.sia_forms.specs.Building.{finished}
use Rattle.sia_records.specs.declared.change.Change.{Change}
use Rattle.sia_records.specs.declared.host_record.HostRecord.{HostRecord}
use Rattle.sia_records.specs.declared.host_record.HostRecord.TheVariants as records
use Rattle.sia_records.specs.Writes.{Prepared}
use Rattle.sia_commands.specs.declared.call.Call.{Call}
use Rattle.sia_commands.specs.declared.codes.TheConstants.{BAD_CONTRACT, BAD_SIGNATURE, NO_CONTRACT}
use Rattle.sia_commands.specs.declared.command.Command.{Command}
use Rattle.sia_commands.specs.declared.command.Command.TheVariants as command
use Rattle.sia_commands.specs.declared.event.Event.{Event}
use Rattle.sia_commands.specs.declared.event.Kind.{Kind}
use Rattle.sia_commands.specs.declared.event.Kind.TheVariants as kind
use Rattle.sia_commands.specs.declared.event.Outcome.{Outcome}
use Rattle.sia_commands.specs.declared.event.Outcome.TheVariants as outcome
use Rattle.sia_commands.specs.declared.reply.Reply.{Reply}
use Rattle.sia_commands.specs.declared.reply.Reply.TheVariants as reply
use Rattle.sia_commands.specs.declared.step.Room.{Room}
use Rattle.sia_kept.specs.declared.session.Session.{Session}
use Rattle.sia_kept.specs.Sessions.{effect_of, is_held, live_sessions}
use Rattle.sia_kept.specs.State.{Kept, contract_among, is_among}
use Rattle.sia_kept.proofs.Apart.{same_bytes}
use Rattle.sia_host.specs.declared.outbox.Due.{Due}
use Rattle.sia_host.specs.declared.outbox.Stale.{Stale}
use Rattle.sia_host.specs.Answered.{Host, Reaction, Work, answered, event_of, held_now, held_of, holder_now, idle_of, idle_one, lacks_room, next_session, no_work, or_code, refused, session_now}
use Rattle.sia_host.specs.Answers.{IsAnswer}
use Rattle.sia_host.specs.Entering.{leave_given}
use Rattle.sia_host.specs.Feeding.{apply_given, no_session, recorded_unless, revert_given}
use Rattle.sia_host.specs.Fetching.{fetch_given, slot_wanted}
use Rattle.sia_host.specs.Forming.{FormsSigned, IsProposed, form_added, form_judged, form_unless, is_formed, keeping_fault}
use Rattle.sia_host.specs.Holding.{is_refusal}
use Rattle.sia_host.specs.Jobs.{due_contracts, next_after, stale_contracts}
use Rattle.sia_host.specs.Locking.{lock_given, lock_judged, lock_reaction, signs_lock, unlock_given}
use Rattle.sia_host.specs.Outbox.{due_handed, due_now, stale_handed, stale_of}
use Rattle.sia_host.specs.Paying.{IsHeld, IsRevised, open_now, paid_revision, revised_unless, revising_fault}
use Rattle.sia_host.specs.Reading.{read_fault, read_payment, read_said, roots_fault, roots_payment, roots_said}
use Rattle.sia_host.specs.Renewing.{RenewsSigned, renew_added, renew_judged, renew_unless}
use Rattle.sia_host.specs.Writing.{write_fault, write_proof, write_signed, write_work, written_changes, written_revision}
use Rattle.sia_host.proofs.SessionsHeld.{Allowed}

-- who gives a command, and of which kind it is: one that begins a session has the number of that session, and what the feed gives or a
-- worker asks for of itself has none
abbrev pub call_of : Host → ℕ → ℕ → Command → Call
call_of h worker session command.Enter = record { worker = worker; session = next_session h; kind = kind.Enter }
call_of h worker session command.Settings = record { worker = worker; session = session; kind = kind.Settings }
call_of h worker session (command.Form request) = record { worker = worker; session = session; kind = kind.Form }
call_of h worker session (command.FormSign request renter) = record { worker = worker; session = session; kind = kind.FormSign }
call_of h worker session (command.Lock request) = record { worker = worker; session = session; kind = kind.Lock }
call_of h worker session command.Unlock = record { worker = worker; session = session; kind = kind.Unlock }
call_of h worker session (command.Fetch want) = record { worker = worker; session = session; kind = kind.Fetch }
call_of h worker session (command.Write write) = record { worker = worker; session = session; kind = kind.Write }
call_of h worker session (command.WriteSign write renter) = record { worker = worker; session = session; kind = kind.WriteSign }
call_of h worker session (command.Read read) = record { worker = worker; session = session; kind = kind.Read }
call_of h worker session (command.Roots request) = record { worker = worker; session = session; kind = kind.Roots }
call_of h worker session (command.Renew tx) = record { worker = worker; session = session; kind = kind.Renew }
call_of h worker session (command.RenewSign tx renter) = record { worker = worker; session = session; kind = kind.RenewSign }
call_of h worker session command.Leave = record { worker = worker; session = session; kind = kind.Leave }
call_of h worker session (command.Apply block) = record { worker = worker; session = no_session; kind = kind.Apply }
call_of h worker session command.Revert = record { worker = worker; session = no_session; kind = kind.Revert }
call_of h worker session (command.Stale id first) = record { worker = worker; session = no_session; kind = kind.Stale }
call_of h worker session (command.Due id first) = record { worker = worker; session = no_session; kind = kind.Due }

-- the event of an answer is of a call; where there is none, there is no record
abbrev pub IsOf : Call → Reaction → Type 0
IsOf call a = MatchOption a.event (a.made ≡ None) (λ event. (event.kind ≡ call.kind) × (event.session ≡ call.session))

of_same : (call : Call) (r a : Reaction) → a ≡ r → IsOf call r → IsOf call a
of_same call r a is of = subst (IsOf call) (sym is) of

of_refused : (h : Host) (call : Call) (contract : Option (List ℕ)) (code : ℕ) (a : Reaction) → a ≡ refused h call contract code → IsOf call a
of_refused h call contract code a is = of_same call (refused h call contract code) a is (refl, refl)

of_proposed : (h : Host) (call : Call) (held : Option (List ℕ)) (tx : Transaction) (judged : Result ℕ ℕ) (Follows : Additions → Reaction → Type 0) (a : Reaction) → ((added : Additions) → Follows added a → IsOf call a)
    → IsProposed h call held tx judged Follows a → IsOf call a
of_proposed h call held tx (Err code) Follows a of is = of_refused h call held code a is
of_proposed h call held tx (Ok collateral) Follows a of is = by (is_formed h tx is.0) is.2
  where
    by : (known : Bool) → MatchOption (broken known BAD_CONTRACT) (Follows is.0 a) (λ code. a ≡ refused h call held code) → IsOf call a
    by true at = of_refused h call held BAD_CONTRACT a at
    by false at = of is.0 at

of_held : (h : Host) (call : Call) (opened : Result Kept ℕ) (fault : Kept → Option ℕ) (Follows : Kept → Reaction → Type 0) (a : Reaction) → IsHeld h call opened fault Follows a → ((c : Kept) → Follows c a → IsOf call a) → IsOf call a
of_held h call (Err code) fault Follows a is of = of_refused h call (held_now h call.session) code a is
of_held h call (Ok c) fault Follows a is of = by (fault c) is
  where
    by : (f : Option ℕ) → MatchOption f (Follows c a) (λ code. a ≡ refused h call (held_now h call.session) code) → IsOf call a
    by (Some code) at = of_refused h call (held_now h call.session) code a at
    by None at = of c at

of_revised : (accepts : List ℕ → List ℕ → List ℕ → Bool) (Signs : List ℕ → List ℕ → Type 0) (h : Host) (room : Room) (call : Call) (id key : List ℕ) (revision : Revision) (renter : List ℕ) (changes : List Change)
    (said : List ℕ → Reply) (work : Work) (a : Reaction) → IsRevised accepts Signs h room call id key revision renter changes said work a → IsOf call a
of_revised accepts Signs h room call id key revision renter changes said work a revised = by (revising_fault accepts room key revision renter made) revised.2
  where
    made : HostRecord
    made = records.Revised revision renter revised.0 changes

    by : (fault : Option ℕ) → a ≡ revised_unless h call id (said revised.0) made work fault → IsOf call a
    by (Some code) is = of_refused h call (Some id) code a is
    by None is = of_same call (revised_unless h call id (said revised.0) made work None) a is (refl, refl)

of_formed : (h : Host) (call : Call) (key : List ℕ) (tx : Transaction) (signatures : List Signature) (fault : Option ℕ) (a : Reaction) → a ≡ form_unless h call key tx signatures fault → IsOf call a
of_formed h call key tx signatures (Some code) a is = of_refused h call None code a is
of_formed h call key tx signatures None a is = of_same call (form_unless h call key tx signatures None) a is (refl, refl)

of_renewed : (h : Host) (call : Call) (tx : Transaction) (signatures : List Signature) (fault : Option ℕ) (a : Reaction) → a ≡ renew_unless h call tx signatures fault → IsOf call a
of_renewed h call tx signatures (Some code) a is = of_refused h call (held_now h call.session) code a is
of_renewed h call tx signatures None a is = of_same call (renew_unless h call tx signatures None) a is (refl, refl)

of_lock : (h : Host) (call : Call) (id : List ℕ) (judged : Result Kept ℕ) (holder : Option ℕ) → IsOf call (lock_given h call id judged holder)
of_lock h call id (Err code) holder = (refl, refl)
of_lock h call id (Ok contract) (Some holder) = (refl, refl)
of_lock h call id (Ok contract) None = (refl, refl)

of_unlock : (h : Host) (call : Call) (held : Option (List ℕ)) → IsOf call (unlock_given h call held)
of_unlock h call None = (refl, refl)
of_unlock h call (Some held) = (refl, refl)

of_fetch : (h : Host) (call : Call) (slot : Result ℕ ℕ) → IsOf call (fetch_given h call slot)
of_fetch h call (Err code) = (refl, refl)
of_fetch h call (Ok slot) = (refl, refl)

of_leave : (h : Host) (call : Call) (found : Option Session) → IsOf call (leave_given h call found)
of_leave h call None = refl
of_leave h call (Some session) = (refl, refl)

of_recorded : (h : Host) (full : Bool) (call : Call) (made : HostRecord) → IsOf call (recorded_unless h full call made)
of_recorded h true call made = (refl, refl)
of_recorded h false call made = (refl, refl)

of_apply : (h : Host) (full : Bool) (call : Call) (block : Block) (fault : Option BlockFault) → IsOf call (apply_given h full call block fault)
of_apply h full call block (Some fault) = (refl, refl)
of_apply h full call block None = of_recorded h full call (records.Block block)

of_revert : (h : Host) (room : Room) (call : Call) (n : ℕ) → IsOf call (revert_given h room call n)
of_revert h room call zero = (refl, refl)
of_revert h room call (suc below) = of_recorded h (lacks_room room records.Revert) call records.Revert

of_stale : (h : Host) (call : Call) (stale : Option Stale) → IsOf call (stale_handed h call stale)
of_stale h call None = (refl, refl)
of_stale h call (Some stale) = (refl, refl)

of_due : (h : Host) (call : Call) (due : Option Due) → IsOf call (due_handed h call due)
of_due h call None = (refl, refl)
of_due h call (Some due) = (refl, refl)

-- what a write is answered
abbrev written : Host → Call → Kept → Prepared → Reaction
written h call c write = answered h call (Some c.id) outcome.Fine (reply.Said (answer.Write (write_proof c write))) None

-- so it is of the command's call
pub of_answer : (accepts : List ℕ → List ℕ → List ℕ → Bool) (Signs : List ℕ → List ℕ → Type 0) (h : Host) (room : Room) (worker session : ℕ) (asked : Command) (a : Reaction)
    → IsAnswer accepts Signs h room worker session asked a → IsOf (call_of h worker session asked) a
of_answer accepts Signs h room worker session command.Enter a is = of_same (call_of h worker session command.Enter) _ a is (refl, refl)
of_answer accepts Signs h room worker session command.Settings a is = of_same (call_of h worker session command.Settings) _ a is (refl, refl)
of_answer accepts Signs h room worker session (command.Form request) a is =
    let call = call_of h worker session (command.Form request) in
    of_proposed h call None request.transaction (form_judged h session request) (λ added b. b ≡ form_added h call added) a (λ added at. of_same call (form_added h call added) a at (refl, refl)) is
of_answer accepts Signs h room worker session (command.FormSign request renter) a is =
    let call = call_of h worker session (command.FormSign request renter) in
    of_proposed h call None request.transaction (form_judged h session request) (FormsSigned accepts Signs h room call request renter) a
    (λ added at.
    let whole = finished request.transaction added renter at.0 in
    of_formed h call request.renter_key whole at.0 (keeping_fault (lacks_room room (records.Formed request.renter_key whole)) (set_refusal accepts h.state.chain whole)) a at.2) is
of_answer accepts Signs h room worker session (command.Lock request) a is =
    let call = call_of h worker session (command.Lock request) in
    of_same call _ a is (of_lock h call request.contract (lock_judged accepts h session request) (holder_now h request.contract))
of_answer accepts Signs h room worker session command.Unlock a is =
    let call = call_of h worker session command.Unlock in
    of_same call _ a is (of_unlock h call (held_now h session))
of_answer accepts Signs h room worker session (command.Fetch want) a is =
    let call = call_of h worker session (command.Fetch want) in
    of_same call _ a is (of_fetch h call (slot_wanted h session want))
of_answer accepts Signs h room worker session (command.Write write) a is =
    let call = call_of h worker session (command.Write write) in
    of_held h call (open_now h session) (write_fault h room write) (λ c b. b ≡ written h call c write) a is (λ c at. of_same call (written h call c write) a at (refl, refl))
of_answer accepts Signs h room worker session (command.WriteSign write renter) a is =
    let call = call_of h worker session (command.WriteSign write renter) in
    let Signed = λ (c : Kept) (b : Reaction). IsRevised accepts Signs h room call c.id c.renter_key (written_revision h write c) renter (written_changes room write) write_signed (write_work room write c) b in
    of_held h call (open_now h session) (write_fault h room write) Signed a is
    (λ c at. of_revised accepts Signs h room call c.id c.renter_key (written_revision h write c) renter (written_changes room write) write_signed (write_work room write c) a at)
of_answer accepts Signs h room worker session (command.Read read) a is =
    let call = call_of h worker session (command.Read read) in
    let paid = λ (c : Kept). paid_revision c (read_payment read.request) c.newest.size c.newest.root in
    let Paid = λ (c : Kept) (b : Reaction). IsRevised accepts Signs h room call c.id c.renter_key (paid c) read.request.signature [] (read_said read) no_work b in
    of_held h call (open_now h session) (read_fault h read) Paid a is
    (λ c at. of_revised accepts Signs h room call c.id c.renter_key (paid c) read.request.signature [] (read_said read) no_work a at)
of_answer accepts Signs h room worker session (command.Roots request) a is =
    let call = call_of h worker session (command.Roots request) in
    let paid = λ (c : Kept). paid_revision c (roots_payment request) c.newest.size c.newest.root in
    let Paid = λ (c : Kept) (b : Reaction). IsRevised accepts Signs h room call c.id c.renter_key (paid c) request.signature [] (roots_said c request) no_work b in
    of_held h call (open_now h session) (roots_fault h request) Paid a is
    (λ c at. of_revised accepts Signs h room call c.id c.renter_key (paid c) request.signature [] (roots_said c request) no_work a at)
of_answer accepts Signs h room worker session (command.Renew tx) a is =
    let call = call_of h worker session (command.Renew tx) in
    of_proposed h call (held_now h session) tx (renew_judged h session tx) (λ added b. b ≡ renew_added h call added) a (λ added at. of_same call (renew_added h call added) a at (refl, refl)) is
of_answer accepts Signs h room worker session (command.RenewSign tx renter) a is =
    let call = call_of h worker session (command.RenewSign tx renter) in
    of_proposed h call (held_now h session) tx (renew_judged h session tx) (RenewsSigned accepts Signs h room call tx renter) a
    (λ added at.
    let whole = finished tx added renter at.0 in
    of_renewed h call whole at.0 (keeping_fault (lacks_room room (records.Renewed whole)) (set_refusal accepts h.state.chain whole)) a at.2) is
of_answer accepts Signs h room worker session command.Leave a is =
    let call = call_of h worker session command.Leave in
    of_same call _ a is (of_leave h call (session_now h session))
of_answer accepts Signs h room worker session (command.Apply block) a is =
    let call = call_of h worker session (command.Apply block) in
    of_same call _ a is (of_apply h (lacks_room room (records.Block block)) call block (refusal accepts h.state.chain block))
of_answer accepts Signs h room worker session command.Revert a is =
    let call = call_of h worker session command.Revert in
    of_same call _ a is (of_revert h room call (height h.state.chain))
of_answer accepts Signs h room worker session (command.Stale id first) a is =
    let call = call_of h worker session (command.Stale id first) in
    of_same call _ a is (of_stale h call (option_map (stale_of h) (next_after id first (stale_contracts h))))
of_answer accepts Signs h room worker session (command.Due id first) a is =
    let call = call_of h worker session (command.Due id first) in
    of_same call _ a is (of_due h call (option_and_then (due_now h) (next_after id first (due_contracts h))))

-- what it does to the session

-- whether a kind is that of a lock
abbrev pub is_lock : Kind → Bool
is_lock kind.Lock = true
is_lock other = false

-- an event does what a host may do
abbrev pub AllowedIn : Host → Event → Type 0
AllowedIn h event = Allowed h.state.contracts (effect_of event.kind event.outcome) event.session event.contract (live_sessions h.seed h.events)

unlock_allowed : (contracts : List Kept) (o : Outcome) (y : ℕ) (contract : Option (List ℕ)) (ss : List Session) → Allowed contracts (effect_of kind.Unlock o) y contract ss
unlock_allowed contracts outcome.Fine y contract ss = tt
unlock_allowed contracts (outcome.Held holder) y contract ss = tt
unlock_allowed contracts (outcome.Code code) y contract ss = tt
unlock_allowed contracts (outcome.Block rule) y contract ss = tt
unlock_allowed contracts outcome.NoBlock y contract ss = tt
unlock_allowed contracts outcome.Nothing y contract ss = tt

-- each event may be but that of a lock
other_allowed : (contracts : List Kept) (k : Kind) (o : Outcome) (y : ℕ) (contract : Option (List ℕ)) (ss : List Session) → is_lock k ≡ false → Allowed contracts (effect_of k o) y contract ss
other_allowed contracts kind.Enter o y contract ss off = tt
other_allowed contracts kind.Settings o y contract ss off = tt
other_allowed contracts kind.Form o y contract ss off = tt
other_allowed contracts kind.FormSign o y contract ss off = tt
other_allowed contracts kind.Lock o y contract ss off = (cc)
other_allowed contracts kind.Unlock o y contract ss off = unlock_allowed contracts o y contract ss
other_allowed contracts kind.Fetch o y contract ss off = tt
other_allowed contracts kind.Write o y contract ss off = tt
other_allowed contracts kind.WriteSign o y contract ss off = tt
other_allowed contracts kind.Read o y contract ss off = tt
other_allowed contracts kind.Roots o y contract ss off = tt
other_allowed contracts kind.Renew o y contract ss off = tt
other_allowed contracts kind.RenewSign o y contract ss off = tt
other_allowed contracts kind.Leave o y contract ss off = tt
other_allowed contracts kind.Apply o y contract ss off = tt
other_allowed contracts kind.Revert o y contract ss off = tt
other_allowed contracts kind.Stale o y contract ss off = tt
other_allowed contracts kind.Due o y contract ss off = tt
other_allowed contracts kind.Fault o y contract ss off = tt

-- an event that is there is of the call
pub of_event : (call : Call) (a : Reaction) (event : Event) → IsOf call a → a.event ≡ Some event → (event.kind ≡ call.kind) × (event.session ≡ call.session)
of_event call a event of noted = by a.event noted of
  where
    by : (found : Option Event) → found ≡ Some event → MatchOption found (a.made ≡ None) (λ e. (e.kind ≡ call.kind) × (e.session ≡ call.session)) → (event.kind ≡ call.kind) × (event.session ≡ call.session)
    by None some of = (cc)
    by (Some e) some of = let same : e ≡ event = (cc) in subst (λ (x : Event). (x.kind ≡ call.kind) × (x.session ≡ call.session)) same of

event_allowed : (h : Host) (call : Call) (a : Reaction) (event : Event) → is_lock call.kind ≡ false → IsOf call a → a.event ≡ Some event → AllowedIn h event
event_allowed h call a event off of noted =
    let is = of_event call a event of noted in
    other_allowed h.state.contracts event.kind event.outcome event.session event.contract (live_sessions h.seed h.events) (ap is_lock is.0 ∙ off)

-- a lock that isn't refused is of a contract that the host knows, by a live session that holds none
record Lockable (h : Host) (session : ℕ) (contract : List ℕ) : Type 0 where
  known : is_among contract h.state.contracts ≡ true
  live : IsSome (session_now h session)
  idle : held_now h session ≡ None

judged_lockable : (accepts : List ℕ → List ℕ → List ℕ → Bool) (h : Host) (session : ℕ) (request : LockRequest) (kept : Kept) → lock_judged accepts h session request ≡ Ok kept → Lockable h session request.contract
judged_lockable accepts h session request kept = by (session_now h session) (contract_among request.contract h.state.contracts) refl refl
  where
    Judges : Result Session ℕ → Option Kept → Type 0
    Judges live found = (live >>= (λ (s : Session). or_code NO_CONTRACT found >>= (λ (c : Kept). unless (broken (not (signs_lock accepts request s c)) BAD_SIGNATURE) >>= (λ _. Ok c)))) ≡ Ok kept

    idle : (s : Session) (found : Option Kept) (held : Option (List ℕ)) → session_now h session ≡ Some s → contract_among request.contract h.state.contracts ≡ found → s.held ≡ held → Judges (idle_one s held) found → Lockable h session request.contract
    idle s None None at there none is = (cc)
    idle s (Some c) None at there none is = record { known = ap is_some there; live = rw at refl; idle = ap held_of at ∙ none }
    idle s found (Some id) at there none is = (cc)

    by : (s : Option Session) (found : Option Kept) → session_now h session ≡ s → contract_among request.contract h.state.contracts ≡ found → Judges (idle_of s) found → Lockable h session request.contract
    by None found at there is = (cc)
    by (Some s) found at there is = idle s found s.held at there refl is

lock_allowed : (accepts : List ℕ → List ℕ → List ℕ → Bool) (h : Host) (worker session : ℕ) (request : LockRequest) (a : Reaction) (event : Event) → a ≡ lock_reaction accepts h worker session request → a.event ≡ Some event → AllowedIn h event
lock_allowed accepts h worker session request a event is noted =
    by (lock_judged accepts h session request) (holder_now h request.contract) refl refl (sym (ap (λ (r : Reaction). r.event) is) ∙ noted)
  where
    call : Call
    call = record { worker = worker; session = session; kind = kind.Lock }

    so : (contract : Option (List ℕ)) (o : Outcome) → AllowedIn h (event_of h call contract o None) → Some (event_of h call contract o None) ≡ Some event → AllowedIn h event
    so contract o may some = let same : event_of h call contract o None ≡ event = (cc) in subst (AllowedIn h) same may

    by : (judged : Result Kept ℕ) (holder : Option ℕ) → lock_judged accepts h session request ≡ judged → holder_now h request.contract ≡ holder → (lock_given h call request.contract judged holder).event ≡ Some event → AllowedIn h event
    by (Err code) holder at free some = so (Some request.contract) (outcome.Code code) tt some
    by (Ok kept) (Some holder) at free some = so (Some request.contract) (outcome.Held holder) tt some
    by (Ok kept) None at free some =
        let can = judged_lockable accepts h session request kept at in
        so (Some request.contract) outcome.Fine (can.known, can.live, can.idle, free) some

-- a command of a lock's kind asks for one
lock_asked : (accepts : List ℕ → List ℕ → List ℕ → Bool) (Signs : List ℕ → List ℕ → Type 0) (h : Host) (room : Room) (worker session : ℕ) (asked : Command) (a : Reaction)
    → is_lock (call_of h worker session asked).kind ≡ true → IsAnswer accepts Signs h room worker session asked a → (request : LockRequest) × (a ≡ lock_reaction accepts h worker session request)
lock_asked accepts Signs h room worker session (command.Lock request) a on is = (request, is)
lock_asked accepts Signs h room worker session command.Enter a on is = (cc)
lock_asked accepts Signs h room worker session command.Settings a on is = (cc)
lock_asked accepts Signs h room worker session (command.Form request) a on is = (cc)
lock_asked accepts Signs h room worker session (command.FormSign request renter) a on is = (cc)
lock_asked accepts Signs h room worker session command.Unlock a on is = (cc)
lock_asked accepts Signs h room worker session (command.Fetch want) a on is = (cc)
lock_asked accepts Signs h room worker session (command.Write write) a on is = (cc)
lock_asked accepts Signs h room worker session (command.WriteSign write renter) a on is = (cc)
lock_asked accepts Signs h room worker session (command.Read read) a on is = (cc)
lock_asked accepts Signs h room worker session (command.Roots request) a on is = (cc)
lock_asked accepts Signs h room worker session (command.Renew tx) a on is = (cc)
lock_asked accepts Signs h room worker session (command.RenewSign tx renter) a on is = (cc)
lock_asked accepts Signs h room worker session command.Leave a on is = (cc)
lock_asked accepts Signs h room worker session (command.Apply block) a on is = (cc)
lock_asked accepts Signs h room worker session command.Revert a on is = (cc)
lock_asked accepts Signs h room worker session (command.Stale id first) a on is = (cc)
lock_asked accepts Signs h room worker session (command.Due id first) a on is = (cc)

-- what the event of an answer does to its session is what a host may do
pub allowed : (accepts : List ℕ → List ℕ → List ℕ → Bool) (Signs : List ℕ → List ℕ → Type 0) (h : Host) (room : Room) (worker session : ℕ) (asked : Command) (a : Reaction) (event : Event)
    → IsAnswer accepts Signs h room worker session asked a → a.event ≡ Some event → AllowedIn h event
allowed accepts Signs h room worker session asked a event is noted = by (is_lock (call_of h worker session asked).kind) refl
  where
    by : (b : Bool) → is_lock (call_of h worker session asked).kind ≡ b → AllowedIn h event
    by true on = let lock = lock_asked accepts Signs h room worker session asked a on is in lock_allowed accepts h worker session lock.0 a event lock.1 noted
    by false off = event_allowed h (call_of h worker session asked) a event off (of_answer accepts Signs h room worker session asked a is) noted

-- a request for the lock of a contract that a session holds is refused, or told that one
told_holder : (accepts : List ℕ → List ℕ → List ℕ → Bool) (h : Host) (worker session : ℕ) (request : LockRequest) (a : Reaction) (event : Event) (holder : ℕ) (contract : List ℕ)
    → holder_now h contract ≡ Some holder → a ≡ lock_reaction accepts h worker session request → a.event ≡ Some event → is_held contract event.contract ≡ true → is_refusal event.outcome ≡ false → event.outcome ≡ outcome.Held holder
told_holder accepts h worker session request a event holder contract holds is noted named fine =
    by (lock_judged accepts h session request) (holder_now h request.contract) refl (sym (ap (λ (r : Reaction). r.event) is) ∙ noted)
  where
    call : Call
    call = record { worker = worker; session = session; kind = kind.Lock }

    -- the event is this one
    made : (o : Outcome) → Some (event_of h call (Some request.contract) o None) ≡ Some event → (event.outcome ≡ o) × (request.contract ≡ contract)
    made o some =
        let same : event_of h call (Some request.contract) o None ≡ event = (cc) in
        let held : is_held contract (Some request.contract) ≡ true = ap (λ (e : Event). is_held contract e.contract) same ∙ named in
        (sym (ap (λ (e : Event). e.outcome) same), same_bytes request.contract contract held)

    by : (judged : Result Kept ℕ) (found : Option ℕ) → holder_now h request.contract ≡ found → (lock_given h call request.contract judged found).event ≡ Some event → event.outcome ≡ outcome.Held holder
    by (Err code) found at some =
        absurd (let so = made (outcome.Code code) some in let refused : true ≡ false = sym (ap is_refusal so.0) ∙ fine in cc)
    by (Ok kept) (Some found) at some =
        let so = made (outcome.Held found) some in
        let both : Some found ≡ Some holder = sym at ∙ ap (holder_now h) so.1 ∙ holds in
        let same : found ≡ holder = (cc) in
        so.0 ∙ ap outcome.Held same
    by (Ok kept) None at some =
        absurd (let so = made outcome.Fine some in let both : None ≡ Some holder = sym at ∙ ap (holder_now h) so.1 ∙ holds in cc)

-- so is each command of a lock's kind
pub lock_told : (accepts : List ℕ → List ℕ → List ℕ → Bool) (Signs : List ℕ → List ℕ → Type 0) (h : Host) (room : Room) (worker session : ℕ) (asked : Command) (a : Reaction) (event : Event) (holder : ℕ) (contract : List ℕ)
    → holder_now h contract ≡ Some holder → IsAnswer accepts Signs h room worker session asked a → a.event ≡ Some event → event.kind ≡ kind.Lock → is_held contract event.contract ≡ true → is_refusal event.outcome ≡ false
    → event.outcome ≡ outcome.Held holder
lock_told accepts Signs h room worker session asked a event holder contract holds is noted locks named fine =
    let call = call_of h worker session asked in
    let of = of_event call a event (of_answer accepts Signs h room worker session asked a is) noted in
    let on : is_lock call.kind ≡ true = ap is_lock (sym of.0 ∙ locks) in
    let lock = lock_asked accepts Signs h room worker session asked a on is in
    told_holder accepts h worker session lock.0 a event holder contract holds lock.1 noted named fine
