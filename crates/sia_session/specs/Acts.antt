-- What a desk is asked and how it replies, as its acts tell it (RHP2 has the commands; what a desk is is this project's own).
use Rattle.std.specs.Prelude.{◌≡◌, ◌≢◌, ◌⊎◌, ℕ, ◌-◌, ◌^◌, ◌≤◌, ◌==◌, not, Bool, true, false, if◌then◌else◌, List, [], ◌∷◌, ◌++◌, length, Option, Some, None, Result, Ok, Err}
use Rattle.sia_edge.specs.Edge.{Rose}
use Rattle.sia_rhp.specs.declared.label.Label.{Label}
use Rattle.sia_rhp.specs.declared.label.Label.TheVariants as label
use Rattle.sia_rhp.specs.Answers.{is_error, label_of_answer}
use Rattle.sia_commands.specs.declared.command.Command.{Command}
use Rattle.sia_commands.specs.declared.command.Command.TheVariants as command
use Rattle.sia_commands.specs.declared.reply.Reply.{Reply}
use Rattle.sia_commands.specs.declared.reply.Reply.TheVariants as reply
use Rattle.sia_commands.specs.declared.stop.Stop.{Stop}
use Rattle.sia_commands.specs.declared.stop.Stop.TheVariants as stop
use Rattle.sia_commands.specs.declared.want.Want.{Want}
use Rattle.sia_commands.specs.declared.want.Want.TheVariants as want

-- an act of which an event is noted: the session given, where the command looks at it, the command, and the reply, or none where a disk
-- failed
pub record Act : Type 0 where
  pub session : ℕ
  pub command : Command
  pub reply : Option Reply

-- the session that a command looks at: the one given, or 0 where it looks at none
abbrev pub looked_at : Command → ℕ → ℕ
looked_at command.Enter session = 0
looked_at (command.Apply mined) session = 0
looked_at command.Revert session = 0
looked_at (command.Stale above least) session = 0
looked_at (command.Due above least) session = 0
looked_at _ session = session

-- the act of a command
abbrev pub act : ℕ → Command → Option Reply → Act
act session asked said = record { session = looked_at asked session; command = asked; reply = said }

-- whether an event is noted of a reply: of each, but of the leave of a session that isn't live
abbrev pub is_noted : Command → Reply → Bool
is_noted command.Leave (reply.Error code) = not (code == 4)
is_noted _ _ = true

-- the acts that a command adds
abbrev pub told : ℕ → Command → Result Reply Stop → List Act
told session asked (Ok said) = if is_noted asked said then act session asked (Some said) ∷ [] else []
told session asked (Err stop.Disk) = act session asked None ∷ []
told session asked (Err why) = []

-- a desk has acted a command, where its acts are told
abbrev pub Acted : Option (List Act) → Option (List Act) → ℕ → Command → Result Reply Stop → Type 0
Acted None new session asked result = Unit {0}
Acted (Some old) None session asked result = ⊥
Acted (Some old) (Some new) session asked result = new ≡ old ++ told session asked result

-- a reply that answers requests of a label
abbrev pub IsAnswer : Label → Reply → Type 0
IsAnswer named (reply.Said answer) = (is_error answer ≡ false) × (label_of_answer answer ≡ named)
IsAnswer named _ = ⊥

-- that, or a code
abbrev pub IsAnswerOrCode : Label → Reply → Type 0
IsAnswerOrCode named (reply.Error code) = Unit {0}
IsAnswerOrCode named said = IsAnswer named said

-- a session began
abbrev pub IsEntered : Reply → Type 0
IsEntered (reply.Entered session challenge) = Unit {0}
IsEntered _ = ⊥

-- A sector of so many bytes, or a code. No contract has a sector at the greatest place.
abbrev pub IsSector : ℕ → Want → Reply → Type 0
IsSector sector wanted (reply.Sector bytes) = (length bytes ≡ sector) × (wanted ≢ want.Place (2 ^ 64 - 1))
IsSector sector wanted (reply.Error code) = Unit {0}
IsSector sector wanted _ = ⊥

-- a session left, or wasn't live
abbrev pub IsLeft : Reply → Type 0
IsLeft reply.Applied = Unit {0}
IsLeft (reply.Error code) = code ≡ 4
IsLeft _ = ⊥

-- a block was put behind the last one, or refused
abbrev pub IsApplied : Reply → Type 0
IsApplied reply.Applied = Unit {0}
IsApplied (reply.Refused why) = Unit {0}
IsApplied (reply.Error code) = Unit {0}
IsApplied _ = ⊥

-- the last block was dropped, or there was none to be dropped
abbrev pub IsReverted : Reply → Type 0
IsReverted reply.Applied = Unit {0}
IsReverted reply.NoBlock = Unit {0}
IsReverted (reply.Error code) = Unit {0}
IsReverted _ = ⊥

-- the next job, if there is one
abbrev pub IsNext : Reply → Type 0
IsNext (reply.Next job) = Unit {0}
IsNext _ = ⊥

-- a reply to this command, where sectors have so many bytes
abbrev pub IsReply : ℕ → Command → Reply → Type 0
IsReply sector command.Enter said = IsEntered said
IsReply sector command.Settings said = IsAnswer label.Settings said
IsReply sector (command.Form request) said = IsAnswerOrCode label.FormContract said
IsReply sector (command.FormSign request signatures) said = IsAnswerOrCode label.FormSign said
IsReply sector (command.Lock request) said = IsAnswerOrCode label.Lock said
IsReply sector command.Unlock said = IsAnswerOrCode label.Unlock said
IsReply sector (command.Fetch wanted) said = IsSector sector wanted said
IsReply sector (command.Write write) said = IsAnswerOrCode label.Write said
IsReply sector (command.WriteSign write signature) said = IsAnswerOrCode label.WriteSign said
IsReply sector (command.Read read) said = IsAnswerOrCode label.Read said
IsReply sector (command.Roots roots) said = IsAnswerOrCode label.Roots said
IsReply sector (command.Renew tx) said = IsAnswerOrCode label.Renew said
IsReply sector (command.RenewSign tx signatures) said = IsAnswerOrCode label.RenewSign said
IsReply sector command.Leave said = IsLeft said
IsReply sector (command.Apply mined) said = IsApplied said
IsReply sector command.Revert said = IsReverted said
IsReply sector (command.Stale above least) said = IsNext said
IsReply sector (command.Due above least) said = IsNext said

-- what may be stopped: each command but a leave
abbrev pub MayStop : Command → Type 0
MayStop command.Leave = ⊥
MayStop _ = Unit {0}

-- an answer is of its command's kind
abbrev pub IsOfKind : ℕ → Command → Result Reply Stop → Type 0
IsOfKind sector asked (Ok said) = IsReply sector asked said
IsOfKind sector asked (Err why) = MayStop asked

-- a session is live from its Enter to its Leave

-- the reply to an Enter that begins the session makes it live
abbrev pub entered_by : ℕ → Option Reply → Bool → Bool
entered_by session (Some (reply.Entered number challenge)) before = if number == session then true else before
entered_by session _ before = before

-- whether it is live after one act
abbrev pub live_by : ℕ → Bool → Command → ℕ → Option Reply → Bool
live_by session before command.Enter given said = entered_by session said before
live_by session before command.Leave given said = if given == session then false else before
live_by session before _ given said = before

-- whether it is live after these acts
abbrev pub live_after : ℕ → Bool → List Act → Bool
live_after session before [] = before
live_after session before (one ∷ acts) = live_after session (live_by session before one.command one.session one.reply) acts

-- the leave of a live session is done
abbrev pub LeavesLive : Option (List Act) → ℕ → Command → Result Reply Stop → Type 0
LeavesLive (Some acts) session command.Leave (Ok said) = live_after session false acts ≡ true → said ≡ reply.Applied
LeavesLive acts session asked result = Unit {0}

-- what acts leave alone: what the desk says that they do, and the size of its sectors; and no count of its stops falls
pub record LeavesAlone {D : Type 0} (staying : D → D → Type 0) (counts : D → Stop → ℕ) (size : D → ℕ) (old new : D) : Type 0 where
  pub stays : staying old new
  pub sector : size new ≡ size old
  pub later : (why : Stop) → counts old why ≤ counts new why

-- a stop is want of memory, or one of the desk's, whose count rose
abbrev pub IsCaused : {D : Type 0} → (D → Stop → ℕ) → D → D → Stop → Type 0
IsCaused counts old new why = (why ≡ stop.Memory) ⊎ Rose (counts old why) (counts new why)
