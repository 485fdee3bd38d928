-- The answer to a formation that is signed.
use Rattle.std.proofs.Common.{◌≡◌, ◌∙◌, ℕ, Bool, List, None, Result, Ok, Err, IfOk, ap, subst}
use Rattle.sia_types.specs.declared.coins.CoinInput.{CoinInput}
use Rattle.sia_types.specs.declared.signature.Signature.{Signature}
use Rattle.sia_types.specs.declared.transaction.Transaction.{Transaction}
use Rattle.sia_rhp.specs.declared.request_bodies.FormRequest.{FormRequest}
use Rattle.sia_forms.specs.declared.funding.Additions.{Additions}
use Rattle.sia_forms.specs.Building.{finished}
use Rattle.sia_commands.specs.declared.call.Call.{Call}
use Rattle.sia_commands.specs.declared.event.Kind.TheVariants as kind
use Rattle.sia_commands.specs.declared.step.Room.{Room}
use Rattle.sia_commands.specs.declared.step.Step.{Step}
use Rattle.sia_host.specs.Answered.{Gives, Host, IsReaction}
use Rattle.sia_host.specs.Forming.{FormsSigned, IsFormSigned, form_judged, form_kept, with_additions}
use Rattle.sia_host.specs.Proposals.{IsAddition}
use Rattle.sia_kept.specs.Signing.{AreSignedInputs}
use Rattle.sia_host.proofs.Given.{given_so}
use Rattle.sia_host.proofs.Proposed.{follows}

-- by its whole transaction, in which a copy of the host's signatures stands
pub forms : {E : Type 0} (accepts : List ℕ → List ℕ → List ℕ → Bool) (Signs : List ℕ → List ℕ → Type 0) (h : Host) (room : Room) (call : Call) (request : FormRequest) (renter : List Signature) (added : Additions)
    (unsigned whole : Transaction) (inputs : List CoinInput) (host signatures : List Signature) (result : Result Step E) (after : Host)
    → unsigned ≡ with_additions request.transaction added → inputs ≡ added.inputs → host ≡ signatures → whole ≡ finished request.transaction added renter host
    → AreSignedInputs Signs unsigned inputs signatures
    → IfOk result (λ step. IsReaction h (form_kept accepts h room call request.renter_key whole signatures) step after)
    → IfOk result (λ step. Gives (FormsSigned accepts Signs h room call request renter added) h step after)
forms accepts Signs h room call request renter added unsigned whole inputs host signatures result after adds all copied is signed gives =
    let over : AreSignedInputs Signs (with_additions request.transaction added) inputs signatures = subst (λ tx. AreSignedInputs Signs tx inputs signatures) adds signed in
    let each : AreSignedInputs Signs (with_additions request.transaction added) added.inputs signatures = subst (λ xs. AreSignedInputs Signs (with_additions request.transaction added) xs signatures) all over in
    let same : whole ≡ finished request.transaction added renter signatures = is ∙ ap (λ ss. finished request.transaction added renter ss) copied in
    given_so (FormsSigned accepts Signs h room call request renter added) h (form_kept accepts h room call request.renter_key whole signatures) result after
    (signatures, each, ap (λ tx. form_kept accepts h room call request.renter_key tx signatures) same) gives

-- by what the host adds
pub form_follows : {E : Type 0} (accepts : List ℕ → List ℕ → List ℕ → Bool) (Signs : List ℕ → List ℕ → Type 0) (h : Host) (room : Room) (worker session : ℕ) (request : FormRequest) (renter : List Signature) (added : Additions)
    (result : Result Step E) (after : Host)
    → IsAddition h request.transaction (form_judged h session request) added
    → IfOk result (λ step. Gives (FormsSigned accepts Signs h room (record { worker = worker; session = session; kind = kind.FormSign }) request renter added) h step after)
    → IfOk result (λ step. Gives (IsFormSigned accepts Signs h room worker session request renter) h step after)
form_follows accepts Signs h room worker session request renter added (Ok step) after is gives =
    let call : Call = record { worker = worker; session = session; kind = kind.FormSign } in
    (gives.0, follows h call None request.transaction (form_judged h session request) (FormsSigned accepts Signs h room call request renter) added gives.0 is gives.1, gives.2)
form_follows accepts Signs h room worker session request renter added (Err e) after is gives = tt
