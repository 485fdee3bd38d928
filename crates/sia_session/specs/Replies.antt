-- What a session makes of a reply: what it sends, and the state that it is in then (RHP2; siad's modules/host).
use Rattle.std.specs.Prelude.{ℕ, Bool, true, false, List, [], Option, Some, None, if◌then◌else◌}
use Rattle.sia_types.specs.declared.transaction.Transaction.{Transaction}
use Rattle.sia_rhp.specs.declared.answer.Answer.{Answer}
use Rattle.sia_rhp.specs.declared.answer.Answer.TheVariants as answers
use Rattle.sia_rhp.specs.declared.request_bodies.FormRequest.{FormRequest}
use Rattle.sia_rhp.specs.Answers.{spelled_answer}
use Rattle.sia_records.specs.Writes.{Prepared}
use Rattle.sia_commands.specs.declared.reply.Reply.{Reply}
use Rattle.sia_commands.specs.declared.reply.Reply.TheVariants as reply
use Rattle.sia_session.specs.declared.state.Kept.{Kept}
use Rattle.sia_session.specs.declared.state.Kept.TheVariants as proposal
use Rattle.sia_session.specs.declared.state.State.{State}
use Rattle.sia_session.specs.declared.state.State.TheVariants as state

-- The answer that a reply is sent as. A session's requests get no other replies.
abbrev pub spelled_reply : Reply → List ℕ
spelled_reply (reply.Said answer) = spelled_answer answer
spelled_reply (reply.Error code) = spelled_answer (answers.Error code)
spelled_reply _ = []

-- whether a reply is no refusal
abbrev pub is_said : Reply → Bool
is_said (reply.Said answer) = true
is_said _ = false

-- whether an answer tells of a lock that was acquired
abbrev pub is_lock : Answer → Bool
is_lock (answers.Lock answer) = answer.acquired
is_lock _ = false

-- whether a reply does
abbrev pub is_acquired : Reply → Bool
is_acquired (reply.Said answer) = is_lock answer
is_acquired _ = false

-- the formation that was proposed, if it is one
abbrev pub form_in : Kept → Option FormRequest
form_in (proposal.Form request) = Some request
form_in _ = None

-- the change of sectors, if it is one
abbrev pub write_in : Kept → Option Prepared
write_in (proposal.Write write) = Some write
write_in _ = None

-- the renewal, if it is one
abbrev pub renewal_in : Kept → Option Transaction
renewal_in (proposal.Renew tx) = Some tx
renewal_in _ = None

-- the state in which a proposal is made: a formation is proposed while the session holds no contract, and all else while it holds one
abbrev pub state_before : Kept → State
state_before (proposal.Form request) = state.Idle
state_before (proposal.Write write) = state.Locked
state_before (proposal.Renew tx) = state.Locked

-- the state without its proposal
abbrev pub dropped : State → State
dropped (state.Proposed made) = state_before made
dropped other = other

-- the state after a reply to a request for a lock
abbrev pub after_lock : State → Reply → State
after_lock before said = if is_acquired said then state.Locked else before

-- after a reply to a request to end it
abbrev pub after_unlock : State → Reply → State
after_unlock before said = if is_said said then state.Idle else before

-- after a reply to a proposal
abbrev pub after_proposal : Kept → State → Reply → State
after_proposal made before said = if is_said said then state.Proposed made else before
