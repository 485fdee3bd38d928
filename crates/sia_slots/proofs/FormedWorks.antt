-- What the answers that form and renew a contract, and those to the feed, leave to be done.
use Rattle.std.proofs.Common.{◌≡◌, ◌∙◌, ℕ, zero, suc, ◌+◌, ◌&&◌, Bool, true, false, List, [], ◌∷◌, All, Option, Some, None, Result, Ok, Err, refl, sym, ap, subst}
use Rattle.sia_encoding.specs.Answer.{◌>>=◌, unless}
use Rattle.sia_encoding.specs.Firsts.{broken}
use Rattle.sia_types.specs.declared.block.Block.{Block}
use Rattle.sia_types.specs.declared.file_contracts.FileContract.{FileContract}
use Rattle.sia_types.specs.declared.file_contracts.Revision.{Revision}
use Rattle.sia_types.specs.declared.settings.Settings.{Settings}
use Rattle.sia_types.specs.declared.signature.Signature.{Signature}
use Rattle.sia_types.specs.declared.transaction.Transaction.{Transaction}
use Rattle.sia_rhp.specs.declared.request_bodies.FormRequest.{FormRequest}
use Rattle.sia_rules.specs.declared.fault.BlockFault.{BlockFault}
use Rattle.sia_ledger.specs.Chain.{height}
use Rattle.sia_ledger.specs.Refusal.{refusal, set_refusal}
use Rattle.sia_forms.specs.declared.fault.FormFault.{FormFault}
use Rattle.sia_forms.specs.Building.{finished}
use Rattle.sia_forms.specs.Checks.{asked_to_renew, contract_answer, has_no_other_part, is_cleared, one_contract, renew_answer}
use Rattle.sia_records.specs.declared.host_record.HostRecord.{HostRecord}
use Rattle.sia_records.specs.declared.host_record.HostRecord.TheVariants as records
use Rattle.sia_commands.specs.declared.call.Call.{Call}
use Rattle.sia_commands.specs.declared.codes.TheConstants.{STORE_FULL, TOO_LATE}
use Rattle.sia_commands.specs.declared.event.Kind.TheVariants as kind
use Rattle.sia_commands.specs.declared.event.Outcome.TheVariants as outcome
use Rattle.sia_commands.specs.declared.reply.Reply.{Reply}
use Rattle.sia_commands.specs.declared.reply.Reply.TheVariants as reply
use Rattle.sia_commands.specs.declared.step.Room.{Room}
use Rattle.sia_rhp.specs.declared.answer.Answer.TheVariants as answer
use Rattle.sia_kept.specs.State.{IsSound, Kept, live_slots, with_record}
use Rattle.sia_host.specs.Answered.{Host, Reaction, event_of, held_now, lacks_room, no_work, refused, settings_now, worked}
use Rattle.sia_host.specs.Feeding.{apply_given, apply_reaction, no_session, recorded_unless, revert_given, revert_reaction}
use Rattle.sia_host.specs.Forming.{FormsSigned, IsFormSigned, by_terms, form_judged, form_unless, funded, keeping_fault}
use Rattle.sia_host.specs.Paying.{is_late, open_now}
use Rattle.sia_host.specs.Renewing.{IsRenewSigned, RenewsSigned, renew_judged, renew_unless, renewal_terms}
use Rattle.sia_host.proofs.Sound.{whole_contracts}
use Rattle.sia_slots.specs.Slots.{ComesFrom, sectors_in, times}
use Rattle.sia_slots.specs.Work.{IsWork}
use Rattle.sia_slots.proofs.Parted.{has_room, not_full, proposed}
use Rattle.sia_slots.proofs.Recorded.{block_keeps, formed_keeps, renewed_comes, renewed_pass, revert_keeps}
use Rattle.sia_slots.proofs.Working.{comes_itself, idle, keeps}

-- a record that leaves all slots and sectors
same_works : (h : Host) (room : Room) (a : Reaction) (call : Call) (contract : Option (List ℕ)) (said : Reply) (made : HostRecord)
    → (live_slots (with_record h.settings.host_key h.state made) ≡ live_slots h.state) × (sectors_in (with_record h.settings.host_key h.state made) ≡ sectors_in h.state)
    → lacks_room room made ≡ false → a ≡ worked h call contract outcome.Fine said (Some made) no_work → IsWork h room a
same_works h room a call contract said made same room_for is =
    keeps h room a said (event_of h call contract outcome.Fine (Some made)) made
    (λ slot. ap (λ xs. times slot xs + 0) (sym same.0))
    (subst (λ xs. All (ComesFrom (sectors_in h.state) []) xs) (sym same.1) (comes_itself (sectors_in h.state) []))
    (has_room room made room_for) is

-- blocks

recorded_works : (h : Host) (room : Room) (call : Call) (made : HostRecord) (a : Reaction)
    → (live_slots (with_record h.settings.host_key h.state made) ≡ live_slots h.state) × (sectors_in (with_record h.settings.host_key h.state made) ≡ sectors_in h.state)
    → a ≡ recorded_unless h (lacks_room room made) call made → IsWork h room a
recorded_works h room call made a same = by (lacks_room room made) refl
  where
    by : (full : Bool) → lacks_room room made ≡ full → a ≡ recorded_unless h full call made → IsWork h room a
    by true at is = idle h room a (refused h call None STORE_FULL) refl refl is
    by false at is = same_works h room a call None reply.Applied made same at is

pub apply_works : (accepts : List ℕ → List ℕ → List ℕ → Bool) (h : Host) (room : Room) (worker : ℕ) (block : Block) (a : Reaction) → a ≡ apply_reaction accepts h room worker block → IsWork h room a
apply_works accepts h room worker block a = by (refusal accepts h.state.chain block)
  where
    call : Call
    call = record { worker = worker; session = no_session; kind = kind.Apply }

    by : (fault : Option BlockFault) → a ≡ apply_given h (lacks_room room (records.Block block)) call block fault → IsWork h room a
    by (Some fault) is = idle h room a (apply_given h (lacks_room room (records.Block block)) call block (Some fault)) refl refl is
    by None is = recorded_works h room call (records.Block block) a (block_keeps h.settings.host_key h.state block) is

pub revert_works : (h : Host) (room : Room) (worker : ℕ) (a : Reaction) → a ≡ revert_reaction h room worker → IsWork h room a
revert_works h room worker a = by (height h.state.chain)
  where
    call : Call
    call = record { worker = worker; session = no_session; kind = kind.Revert }

    by : (n : ℕ) → a ≡ revert_given h room call n → IsWork h room a
    by zero is = idle h room a (revert_given h room call zero) refl refl is
    by (suc below) is = recorded_works h room call records.Revert a (revert_keeps h.settings.host_key h.state) is

-- formations

pub form_works : (accepts : List ℕ → List ℕ → List ℕ → Bool) (Signs : List ℕ → List ℕ → Type 0) (h : Host) (room : Room) (worker session : ℕ) (request : FormRequest) (renter : List Signature) (a : Reaction)
    → IsFormSigned accepts Signs h room worker session request renter a → IsWork h room a
form_works accepts Signs h room worker session request renter a is =
    proposed h call None request.transaction (form_judged h session request) (FormsSigned accepts Signs h room call request renter) a
    (λ code found. idle h room a (refused h call None code) refl refl found)
    (λ collateral added judged signed. kept (finished request.transaction added renter signed.0) signed.0
    (keeping_fault (lacks_room room (records.Formed request.renter_key (finished request.transaction added renter signed.0))) (set_refusal accepts h.state.chain (finished request.transaction added renter signed.0)))
    (not_full (lacks_room room (records.Formed request.renter_key (finished request.transaction added renter signed.0))) (set_refusal accepts h.state.chain (finished request.transaction added renter signed.0))) signed.2) is
  where
    call : Call
    call = record { worker = worker; session = session; kind = kind.FormSign }

    kept : (tx : Transaction) (signatures : List Signature) (fault : Option ℕ) → (fault ≡ None → lacks_room room (records.Formed request.renter_key tx) ≡ false)
        → a ≡ form_unless h call request.renter_key tx signatures fault → IsWork h room a
    kept tx signatures (Some code) fits found = idle h room a (refused h call None code) refl refl found
    kept tx signatures None fits found =
        same_works h room a call _ (reply.Said (answer.FormSign signatures)) (records.Formed request.renter_key tx) (formed_keeps h.settings.host_key h.state request.renter_key tx) (fits refl) found

-- renewals

-- the one contract of a transaction
record FormsOne (tx : Transaction) : Type 0 where
  terms : FileContract
  one : tx.contracts ≡ terms ∷ []

answer_forms : (tx : Transaction) (newest : Revision) (s : Settings) (collateral : ℕ) → renew_answer tx newest s ≡ Ok collateral → FormsOne tx
unfolding renew_answer
answer_forms tx newest s collateral = by (is_cleared newest tx.revisions && has_no_other_part tx) tx.contracts refl
  where
    by : (fit : Bool) (cs : List FileContract) → tx.contracts ≡ cs → (one_contract fit cs >>= (λ c. contract_answer s (asked_to_renew s newest c) c)) ≡ Ok collateral → FormsOne tx
    by true [] one is = (cc)
    by true (c ∷ []) one is = record { terms = c; one = one }
    by true (c ∷ other ∷ more) one is = (cc)
    by false cs one is = (cc)

judged_forms : (h : Host) (session : ℕ) (tx : Transaction) (collateral : ℕ) → renew_judged h session tx ≡ Ok collateral → FormsOne tx
judged_forms h session tx collateral = by (open_now h session)
  where
    terms : (c : Kept) (late : Bool) (answer : Result ℕ FormFault) → renew_answer tx c.newest (settings_now h) ≡ answer
        → ((unless (broken late TOO_LATE) >>= (λ _. by_terms answer)) >>= funded h) ≡ Ok collateral → FormsOne tx
    terms c true answer at is = (cc)
    terms c false (Err fault) at is = (cc)
    terms c false (Ok found) at is = answer_forms tx c.newest (settings_now h) found at

    by : (opened : Result Kept ℕ) → ((opened >>= renewal_terms h tx) >>= funded h) ≡ Ok collateral → FormsOne tx
    by (Err code) is = (cc)
    by (Ok c) is = terms c (is_late h c) (renew_answer tx c.newest (settings_now h)) refl is

renewed_works : (h : Host) (room : Room) (a : Reaction) (call : Call) (contract : Option (List ℕ)) (said : Reply) (tx : Transaction) (terms : FileContract) → IsSound h.settings.sector h.settings.host_key h.state.contracts → tx.contracts ≡ terms ∷ []
    → lacks_room room (records.Renewed tx) ≡ false → a ≡ worked h call contract outcome.Fine said (Some (records.Renewed tx)) no_work → IsWork h room a
renewed_works h room a call contract said tx terms sound one fits is =
    keeps h room a said (event_of h call contract outcome.Fine (Some (records.Renewed tx))) (records.Renewed tx)
    (λ slot. ap (λ n. n + 0) (renewed_pass h.settings.host_key h.state tx terms [] sound.apart one slot))
    (renewed_comes (ComesFrom (sectors_in h.state) []) h.settings.host_key h.state tx sound.apart (comes_itself (sectors_in h.state) []))
    (has_room room (records.Renewed tx) fits) is

pub renew_works : (accepts : List ℕ → List ℕ → List ℕ → Bool) (Signs : List ℕ → List ℕ → Type 0) (h : Host) (room : Room) (worker session : ℕ) (tx : Transaction) (renter : List Signature) (a : Reaction) → IsSound h.settings.sector h.settings.host_key h.state.contracts
    → IsRenewSigned accepts Signs h room worker session tx renter a → IsWork h room a
renew_works accepts Signs h room worker session tx renter a sound is =
    proposed h call (held_now h session) tx (renew_judged h session tx) (RenewsSigned accepts Signs h room call tx renter) a
    (λ code found. idle h room a (refused h call (held_now h session) code) refl refl found)
    (λ collateral added judged signed. let forms = judged_forms h session tx collateral judged in
    kept (finished tx added renter signed.0) signed.0 forms.terms (whole_contracts tx added renter signed.0 (finished tx added renter signed.0) refl ∙ forms.one)
    (keeping_fault (lacks_room room (records.Renewed (finished tx added renter signed.0))) (set_refusal accepts h.state.chain (finished tx added renter signed.0)))
    (not_full (lacks_room room (records.Renewed (finished tx added renter signed.0))) (set_refusal accepts h.state.chain (finished tx added renter signed.0))) signed.2) is
  where
    call : Call
    call = record { worker = worker; session = session; kind = kind.RenewSign }

    kept : (whole : Transaction) (signatures : List Signature) (terms : FileContract) → whole.contracts ≡ terms ∷ [] → (fault : Option ℕ) → (fault ≡ None → lacks_room room (records.Renewed whole) ≡ false)
        → a ≡ renew_unless h call whole signatures fault → IsWork h room a
    kept whole signatures terms one (Some code) fits found = idle h room a (refused h call (held_now h session) code) refl refl found
    kept whole signatures terms one None fits found =
        renewed_works h room a call (held_now h session) (reply.Said (answer.RenewSign signatures)) whole terms sound one (fits refl) found
