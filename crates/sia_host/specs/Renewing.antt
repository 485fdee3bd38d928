-- What a host answers to one that proposes to renew its contract, and to one that signs it (RHP2; siad's modules/renter/proto/renew.go,
-- there called renew and clear).
use Rattle.std.specs.Prelude.{◌≡◌, ℕ, Bool, List, ◌∷◌, Option, Some, None, Result}
use Rattle.sia_encoding.specs.Answer.{◌>>=◌, unless}
use Rattle.sia_encoding.specs.Firsts.{broken}
use Rattle.sia_types.specs.declared.signature.Signature.{Signature}
use Rattle.sia_types.specs.declared.transaction.Transaction.{Transaction}
use Rattle.sia_rhp.specs.declared.answer.Answer.TheVariants as answer
use Rattle.sia_ledger.specs.Refusal.{set_refusal}
use Rattle.sia_forms.specs.declared.funding.Additions.{Additions}
use Rattle.sia_forms.specs.Building.{finished}
use Rattle.sia_forms.specs.Checks.{renew_answer}
use Rattle.sia_records.specs.declared.host_record.HostRecord.TheVariants as records
use Rattle.sia_commands.specs.declared.call.Call.{Call}
use Rattle.sia_commands.specs.declared.codes.TheConstants.{TOO_LATE}
use Rattle.sia_commands.specs.declared.event.Kind.TheVariants as kind
use Rattle.sia_commands.specs.declared.event.Outcome.TheVariants as outcome
use Rattle.sia_commands.specs.declared.reply.Reply.TheVariants as reply
use Rattle.sia_commands.specs.declared.step.Room.{Room}
use Rattle.sia_kept.specs.State.{Kept}
use Rattle.sia_kept.specs.Signing.{AreSignedInputs, IsSignedFor}
use Rattle.sia_host.specs.Forming.{IsProposed, by_terms, funded, with_additions, keeping_fault}
use Rattle.sia_host.specs.Paying.{is_late, open_now}
use Rattle.sia_host.specs.Answered.{Reaction, Host, answered, held_now, lacks_room, refused, settings_now}

-- the collateral by the terms of a renewal of this contract, whose window is not to be too near
abbrev pub renewal_terms : Host → Transaction → Kept → Result ℕ ℕ
renewal_terms h tx c = unless (broken (is_late h c) TOO_LATE) >>= (λ _. by_terms (renew_answer tx c.newest (settings_now h)))

-- the collateral by the terms of a renewal of the contract that a session holds, or the code
abbrev pub renew_terms : Host → ℕ → Transaction → Result ℕ ℕ
renew_terms h session tx = open_now h session >>= renewal_terms h tx

-- the collateral that the host is to give in a renewal; or the code of the first of these: the session holds no contract; it was
-- cleared; its window is too near; the terms aren't what the host asks for; its free coins are worth less than the collateral
abbrev pub renew_judged : Host → ℕ → Transaction → Result ℕ ℕ
renew_judged h session tx = renew_terms h session tx >>= funded h

-- the answer to a proposal of a renewal: what the host adds
abbrev pub renew_added : Host → Call → Additions → Reaction
renew_added h call added = answered h call (held_now h call.session) outcome.Fine (reply.Said (answer.Renew added.inputs added.outputs)) None

-- a proposal of a renewal is answered so
abbrev pub IsRenewed : Host → ℕ → ℕ → Transaction → Reaction → Type 0
IsRenewed h worker session tx a =
    let call : Call = record { worker = worker; session = session; kind = kind.Renew } in
    IsProposed h call (held_now h session) tx (renew_judged h session tx) (λ added a. a ≡ renew_added h call added) a

-- The host's signatures of a renewal: first that of the clearing revision, by its key among the contract's two, and then those of its
-- inputs.
abbrev pub AreRenewalSigned : (List ℕ → List ℕ → Type 0) → Transaction → Option (List ℕ) → Additions → List Signature → Type 0
AreRenewalSigned Signs tx (Some held) added (first ∷ others) = IsSignedFor Signs tx held 1 first × AreSignedInputs Signs tx added.inputs others
AreRenewalSigned Signs tx held added signatures = ⊥

-- a renewal that isn't kept for this, or is
abbrev pub renew_unless : Host → Call → Transaction → List Signature → Option ℕ → Reaction
renew_unless h call tx signatures (Some code) = refused h call (held_now h call.session) code
renew_unless h call tx signatures None =
    answered h call (held_now h call.session) outcome.Fine (reply.Said (answer.RenewSign signatures)) (Some (records.Renewed tx))

-- a signed renewal, by its whole transaction and the signatures in it that are the host's
abbrev pub renew_kept : (List ℕ → List ℕ → List ℕ → Bool) → Host → Room → Call → Transaction → List Signature → Reaction
renew_kept accepts h room call tx signatures =
    renew_unless h call tx signatures (keeping_fault (lacks_room room (records.Renewed tx)) (set_refusal accepts h.state.chain tx))

-- a renewal is signed and answered so, with what the host adds
abbrev pub RenewsSigned : (List ℕ → List ℕ → List ℕ → Bool) → (List ℕ → List ℕ → Type 0) → Host → Room → Call → Transaction → List Signature → Additions → Reaction → Type 0
RenewsSigned accepts Signs h room call tx renter added a =
    (host : List Signature) × AreRenewalSigned Signs (with_additions tx added) (held_now h call.session) added host
    × (a ≡ renew_kept accepts h room call (finished tx added renter host) host)

-- A renewal is signed and answered so, on what the host finds now. The session keeps holding the old contract.
abbrev pub IsRenewSigned : (List ℕ → List ℕ → List ℕ → Bool) → (List ℕ → List ℕ → Type 0) → Host → Room → ℕ → ℕ → Transaction → List Signature → Reaction → Type 0
IsRenewSigned accepts Signs h room worker session tx renter a =
    let call : Call = record { worker = worker; session = session; kind = kind.RenewSign } in
    IsProposed h call (held_now h session) tx (renew_judged h session tx) (RenewsSigned accepts Signs h room call tx renter) a
