-- What a session does for a body, where it gives no command.
use Rattle.std.proofs.Common.{◌≡◌, ℕ, List, [], Option, None, Some, Result, Ok, Err, refl, sym, ap, subst, ◌∙◌}
use Rattle.std.specs.Prelude.{IsErr}
use Rattle.sia_encoding.specs.Answer.{Answers}
use Rattle.sia_types.specs.declared.signature.Signature.{Signature}
use Rattle.sia_rhp.specs.declared.message_fault.MessageFault.{MessageFault}
use Rattle.sia_rhp.specs.declared.message_fault.MessageFault.TheVariants as wrong
use Rattle.sia_rhp.specs.declared.request.Request.{Request}
use Rattle.sia_rhp.specs.declared.request.Request.TheVariants as requests
use Rattle.sia_rhp.specs.Messages.{message_in, message_told}
use Rattle.sia_rhp.specs.Requests.{request}
use Rattle.sia_commands.specs.declared.command.Command.{Command}
use Rattle.sia_commands.specs.declared.stop.Stop.{Stop}
use Rattle.sia_session.specs.declared.state.Done.{Done}
use Rattle.sia_session.specs.declared.state.Kept.{Kept}
use Rattle.sia_session.specs.declared.state.State.{State}
use Rattle.sia_session.specs.Acts.{Act}
use Rattle.sia_session.specs.Replies.{state_before}
use Rattle.sia_session.specs.Script.{Script, Follows}
use Rattle.sia_session.specs.Talk.{answered, asks_in, refused, request_in, says, signed_of, signs, taken_of, unsigned}
use Rattle.sia_session.specs.Told.{Grows}
use Rattle.sia_session.proofs.Following.{none_more}

-- a request that has no signatures for what waits

signed_other : (made : Kept) (session : ℕ) (asked : Request) → ((signatures : List Signature) → asked ≡ requests.FormSign signatures → ⊥) → ((signature : List ℕ) → asked ≡ requests.WriteSign signature → ⊥) → ((signatures : List Signature) → asked ≡ requests.RenewSign signatures → ⊥)
    → signed_of made session asked ≡ unsigned (state_before made) asked
signed_other made session (requests.FormSign signatures) form write renew = absurd (form signatures refl)
signed_other made session (requests.WriteSign signature) form write renew = absurd (write signature refl)
signed_other made session (requests.RenewSign signatures) form write renew = absurd (renew signatures refl)
signed_other made session _ form write renew = refl

-- what follows a script without an act, follows an equal one
pub quietly : (acts : Option (List Act)) (script other : Script Done) (result : Result Done Stop) → other ≡ script → Follows script result [] → Grows acts acts (Follows other result)
quietly acts script other result same follows = let P : Script Done → Type 0 = λ s. Follows s result [] in none_more acts acts (Follows other result) refl (subst P (sym same) follows)

pub drops : (acts : Option (List Act)) (made : Kept) (before : State) (session : ℕ) (asked : Request) (result : Result Done Stop) → before ≡ state_before made
    → ((signatures : List Signature) → asked ≡ requests.FormSign signatures → ⊥) → ((signature : List ℕ) → asked ≡ requests.WriteSign signature → ⊥) → ((signatures : List Signature) → asked ≡ requests.RenewSign signatures → ⊥)
    → Follows (unsigned before asked) result [] → Grows acts acts (Follows (signed_of made session asked) result)
drops acts made before session asked result is form write renew follows = quietly acts (unsigned before asked) (signed_of made session asked) result (signed_other made session asked form write renew ∙ ap (λ b. unsigned b asked) (sym is)) follows

-- signatures that aren't for what waits
pub signs_none : (acts : Option (List Act)) (before : State) (session : ℕ) (asked : Option Command) (result : Result Done Stop) → asked ≡ None → Follows (says 4 before) result [] → Grows acts acts (Follows (signs before session asked) result)
signs_none acts before session asked result none follows = quietly acts (says 4 before) (signs before session asked) result (ap (signs before session) none) follows

-- signatures that are
pub signs_some : (old new : Option (List Act)) (before : State) (session : ℕ) (asked : Option Command) (one : Command) (result : Result Done Stop) → asked ≡ Some one → Grows old new (Follows (asks_in before session one) result) → Grows old new (Follows (signs before session asked) result)
signs_some old new before session asked one result some grows =
    let P : Option Command → Type 0 = λ o. Grows old new (Follows (signs before session o) result) in
    subst P (sym some) grows

-- a body that is no request

told_wrong : (now : State) (session sector : ℕ) (why : MessageFault) (reading : Result Request MessageFault) (result : Result Done Stop) → reading ≡ Err why → Follows (refused now why) result [] → Follows (taken_of now session sector reading) result []
told_wrong now session sector why reading result is follows = let P : Result Request MessageFault → Type 0 = λ r. Follows (taken_of now session sector r) result [] in subst P (sym is) follows

no_memory : (script : Script Done) (result : Result Done Stop) → IsErr result → Follows script result []
no_memory script (Ok done) err = (cc)
no_memory script (Err why) err = tt

wrong_body : (now : State) (session sector : ℕ) (why : MessageFault) (reading : Result Request MessageFault) (result : Result Done Stop) → Answers (λ (read : Request). read) message_told (Err why) reading → Follows (refused now why) result [] → (why ≡ wrong.Memory → IsErr result) → Follows (taken_of now session sector reading) result []
wrong_body now session sector wrong.UnknownRpc reading result is follows memory = told_wrong now session sector wrong.UnknownRpc reading result is follows
wrong_body now session sector (wrong.BadMessage at) reading result is follows memory = told_wrong now session sector (wrong.BadMessage at) reading result is follows
wrong_body now session sector wrong.Memory reading result is follows memory = no_memory (taken_of now session sector reading) result (memory refl)

pub body_refused : (acts : Option (List Act)) (now : State) (session sector limit : ℕ) (body : List ℕ) (why : MessageFault) (result : Result Done Stop) → Answers (λ (read : Request). read) message_told (Err why) (message_in request body limit)
    → Follows (refused now why) result [] → (why ≡ wrong.Memory → IsErr result) → Grows acts acts (Follows (taken_of now session sector (request_in limit body)) result)
unfolding request_in
body_refused acts now session sector limit body why result is follows memory =
    none_more acts acts (Follows (taken_of now session sector (message_in request body limit)) result) refl (wrong_body now session sector why (message_in request body limit) result is follows memory)

-- a request
pub body_answered : (old new : Option (List Act)) (now : State) (session sector limit : ℕ) (body : List ℕ) (asked : Request) (result : Result Done Stop) → message_in request body limit ≡ Ok asked
    → Grows old new (Follows (answered now session sector asked) result) → Grows old new (Follows (taken_of now session sector (request_in limit body)) result)
unfolding request_in
body_answered old new now session sector limit body asked result is grows =
    let P : Result Request MessageFault → Type 0 = λ r. Grows old new (Follows (taken_of now session sector r) result) in subst P (sym is) grows
