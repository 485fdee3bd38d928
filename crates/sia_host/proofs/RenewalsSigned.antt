-- The answer to a renewal that is signed.
use Rattle.std.proofs.Common.{◌≡◌, ◌∙◌, ℕ, Bool, List, [], ◌∷◌, ◌++◌, Option, Some, None, Result, Ok, Err, IfOk, refl, ap, sym, subst}
use Rattle.sia_types.specs.declared.coins.CoinInput.{CoinInput}
use Rattle.sia_types.specs.declared.signature.Signature.{Signature}
use Rattle.sia_types.specs.declared.transaction.Transaction.{Transaction}
use Rattle.sia_forms.specs.declared.funding.Additions.{Additions}
use Rattle.sia_forms.specs.Building.{finished}
use Rattle.sia_commands.specs.declared.call.Call.{Call}
use Rattle.sia_rhp.specs.declared.answer.Answer.TheVariants as answer
use Rattle.sia_commands.specs.declared.event.Kind.TheVariants as kind
use Rattle.sia_commands.specs.declared.event.Outcome.TheVariants as outcome
use Rattle.sia_commands.specs.declared.reply.Reply.TheVariants as reply
use Rattle.sia_commands.specs.declared.step.Room.{Room}
use Rattle.sia_commands.specs.declared.step.Step.{Step}
use Rattle.sia_host.specs.Answered.{Gives, Host, IsReaction, Reaction, answered, held_now, refused}
use Rattle.sia_host.specs.Forming.{IsProposed, with_additions}
use Rattle.sia_host.specs.Proposals.{IsAddition, IsRefusal}
use Rattle.sia_host.specs.Renewing.{AreRenewalSigned, IsRenewSigned, IsRenewed, RenewsSigned, renew_added, renew_judged, renew_kept}
use Rattle.sia_kept.specs.Signing.{AreSignedInputs, IsSignedFor}
use Rattle.sia_host.proofs.Given.{given_so}
use Rattle.sia_host.proofs.Proposed.{follows, refuses}

-- a proposal is refused, where the session holds this
pub proposal_refused : {E : Type 0} (h : Host) (call : Call) (holds held : Option (List ℕ)) (tx : Transaction) (judged : Result ℕ ℕ) (Follows : Additions → Reaction → Type 0) (code : ℕ) (result : Result Step E) (after : Host)
    → holds ≡ held → IsRefusal h tx judged code → IfOk result (λ step. IsReaction h (refused h call holds code) step after)
    → IfOk result (λ step. Gives (IsProposed h call held tx judged Follows) h step after)
proposal_refused h call holds held tx judged Follows code result after same is gives =
    let own : IfOk result (λ step. IsReaction h (refused h call held code) step after) = subst (λ x. IfOk result (λ step. IsReaction h (refused h call x code) step after)) same gives in
    given_so (IsProposed h call held tx judged Follows) h (refused h call held code) result after (refuses h call held tx judged Follows code is) own

-- a proposal of a renewal is answered by what the host adds
pub proposal_added : {E : Type 0} (h : Host) (worker session : ℕ) (holds : Option (List ℕ)) (tx : Transaction) (added : Additions) (result : Result Step E) (after : Host)
    → holds ≡ held_now h session → IsAddition h tx (renew_judged h session tx) added
    → IfOk result (λ step. IsReaction h (answered h (record { worker = worker; session = session; kind = kind.Renew }) holds outcome.Fine (reply.Said (answer.Renew added.inputs added.outputs)) None) step after)
    → IfOk result (λ step. Gives (IsRenewed h worker session tx) h step after)
proposal_added h worker session holds tx added result after same is gives =
    let call : Call = record { worker = worker; session = session; kind = kind.Renew } in
    let Said = λ (x : Option (List ℕ)). IfOk result (λ step. IsReaction h (answered h call x outcome.Fine (reply.Said (answer.Renew added.inputs added.outputs)) None) step after) in
    let own : Said (held_now h session) = subst Said same gives in
    given_so (IsRenewed h worker session tx) h (renew_added h call added) result after
    (follows h call (held_now h session) tx (renew_judged h session tx) (λ (one : Additions) (a : Reaction). a ≡ renew_added h call one) added (renew_added h call added) is refl) own

-- the signature of the clearing revision stands before those of the inputs
pub signed_first : (Signs : List ℕ → List ℕ → Type 0) (tx now : Transaction) (held : List ℕ) (added : Additions) (inputs : List CoinInput) (first : Signature) (others one all : List Signature)
    → now ≡ tx → inputs ≡ added.inputs → IsSignedFor Signs tx held 1 first → AreSignedInputs Signs now inputs others → one ≡ [] ++ first ∷ [] → all ≡ one ++ others → AreRenewalSigned Signs tx (Some held) added all
signed_first Signs tx now held added inputs first others one all same listed is are begins grown =
    let over : AreSignedInputs Signs tx inputs others = subst (λ t. AreSignedInputs Signs t inputs others) same are in
    let each : AreSignedInputs Signs tx added.inputs others = subst (λ xs. AreSignedInputs Signs tx xs others) listed over in
    let whole : all ≡ first ∷ others = grown ∙ ap (λ xs. xs ++ others) begins in
    subst (λ signatures. AreRenewalSigned Signs tx (Some held) added signatures) (sym whole) (is, each)

-- by its whole transaction, in which a copy of the host's signatures stands
pub renews : {E : Type 0} (accepts : List ℕ → List ℕ → List ℕ → Bool) (Signs : List ℕ → List ℕ → Type 0) (h : Host) (room : Room) (call : Call) (tx : Transaction) (renter : List Signature) (added : Additions) (held : List ℕ)
    (unsigned whole : Transaction) (host signatures : List Signature) (result : Result Step E) (after : Host)
    → held_now h call.session ≡ Some held → unsigned ≡ with_additions tx added → host ≡ signatures → whole ≡ finished tx added renter host
    → AreRenewalSigned Signs unsigned (Some held) added signatures
    → IfOk result (λ step. IsReaction h (renew_kept accepts h room call whole signatures) step after)
    → IfOk result (λ step. Gives (RenewsSigned accepts Signs h room call tx renter added) h step after)
renews accepts Signs h room call tx renter added held unsigned whole host signatures result after holds adds copied is signed gives =
    let over : AreRenewalSigned Signs (with_additions tx added) (Some held) added signatures = subst (λ t. AreRenewalSigned Signs t (Some held) added signatures) adds signed in
    let own : AreRenewalSigned Signs (with_additions tx added) (held_now h call.session) added signatures = subst (λ held. AreRenewalSigned Signs (with_additions tx added) held added signatures) (sym holds) over in
    let same : whole ≡ finished tx added renter signatures = is ∙ ap (λ ss. finished tx added renter ss) copied in
    given_so (RenewsSigned accepts Signs h room call tx renter added) h (renew_kept accepts h room call whole signatures) result after
    (signatures, own, ap (λ t. renew_kept accepts h room call t signatures) same) gives

-- by what the host adds
pub renew_follows : {E : Type 0} (accepts : List ℕ → List ℕ → List ℕ → Bool) (Signs : List ℕ → List ℕ → Type 0) (h : Host) (room : Room) (worker session : ℕ) (tx : Transaction) (renter : List Signature) (added : Additions)
    (result : Result Step E) (after : Host)
    → IsAddition h tx (renew_judged h session tx) added
    → IfOk result (λ step. Gives (RenewsSigned accepts Signs h room (record { worker = worker; session = session; kind = kind.RenewSign }) tx renter added) h step after)
    → IfOk result (λ step. Gives (IsRenewSigned accepts Signs h room worker session tx renter) h step after)
renew_follows accepts Signs h room worker session tx renter added (Ok step) after is gives =
    let call : Call = record { worker = worker; session = session; kind = kind.RenewSign } in
    (gives.0, follows h call (held_now h session) tx (renew_judged h session tx) (RenewsSigned accepts Signs h room call tx renter) added gives.0 is gives.1, gives.2)
renew_follows accepts Signs h room worker session tx renter added (Err e) after is gives = tt
