-- What a session does with its link's bytes: the commands that it gives and the bytes that it sends, given the replies (RHP2; siad's
-- modules/host and modules/negotiate.go).
use Rattle.std.specs.Prelude.{◌≡◌, ℕ, ◌^◌, true, false, List, [], ◌∷◌, ◌++◌, Option, Some, None, Result, Ok, Err}
use Rattle.sia_rhp.specs.declared.frames.FrameFault.{FrameFault}
use Rattle.sia_rhp.specs.declared.frames.FrameFault.TheVariants as fault
use Rattle.sia_rhp.specs.Frames.{frame_of, frames_of, StreamEnd, Between, Faulty, FrameStream}
use Rattle.sia_commands.specs.declared.command.Command.TheVariants as command
use Rattle.sia_commands.specs.declared.reply.Reply.{Reply}
use Rattle.sia_commands.specs.declared.reply.Reply.TheVariants as reply
use Rattle.sia_commands.specs.declared.stop.Stop.{Stop}
use Rattle.sia_commands.specs.declared.stop.Stop.TheVariants as stop
use Rattle.sia_session.specs.declared.serve.Ended.{Ended}
use Rattle.sia_session.specs.declared.serve.Ended.TheVariants as ended
use Rattle.sia_session.specs.declared.state.Done.{Done}
use Rattle.sia_session.specs.declared.state.State.{State}
use Rattle.sia_session.specs.declared.state.State.TheVariants as state
use Rattle.sia_session.specs.declared.state.Taken.{Taken}
use Rattle.sia_session.specs.declared.state.Taken.TheVariants as taken
use Rattle.sia_session.specs.Acts.{Act, act, told, live_after}
use Rattle.sia_session.specs.Script.{Script, Ends, Asks, say, and_then, after, sent_of, Runs, Cuts, Follows}
use Rattle.sia_session.specs.Talk.{limit_of, request_in, taken_of}
use Rattle.sia_session.specs.Told.{IsPrefix}

-- a session as contracts see it: its number, how many bytes a sector has, and its state
pub record Standing : Type 0 where
  pub number : ℕ
  pub sector : ℕ
  pub state : State

-- how a session ends with its stream of frames
abbrev pub ended_by : StreamEnd → Ended
ended_by Between = ended.End
ended_by (Faulty (fault.TooLong length)) = ended.TooLong length
ended_by (Faulty fault.Long) = ended.Long
ended_by (Faulty _) = ended.End

-- an answer is sent, and the session goes on; or it ends
abbrev pub sends_or_ends : Script Ended → Taken → Script Ended
sends_or_ends more (taken.Send body) = say (frame_of body) more
sends_or_ends more taken.Exit = Ends [] ended.Exit

-- the session goes on in the state that a body led to
abbrev pub goes_on : (State → Script Ended) → Done → Script Ended
goes_on more done = sends_or_ends (more done.state) done.taken

-- body after body
abbrev pub talk : ℕ → ℕ → State → List (List ℕ) → StreamEnd → Script Ended
talk session sector now [] last = Ends [] (ended_by last)
talk session sector now (body ∷ bodies) last =
    and_then (taken_of now session sector (request_in (limit_of sector) body)) (goes_on (λ next. talk session sector next bodies last))

-- the bodies of a stream
abbrev pub talk_over : ℕ → ℕ → State → FrameStream → Script Ended
talk_over session sector now stream = talk session sector now stream.bodies stream.last

-- the bodies of bytes, of which `room` may be taken
abbrev pub talk_in : Standing → ℕ → List ℕ → Script Ended
talk_in standing room bytes = talk_over standing.number standing.sector standing.state (frames_of (limit_of standing.sector) room bytes)

-- a session that began
abbrev pub begun_as : ℕ → ℕ → Standing
begun_as sector session = record { number = session; sector = sector; state = state.Idle }

-- behind Enter: the challenge, and then body after body, to 2^40 bytes
abbrev pub entered : ℕ → List ℕ → Reply → Script Ended
entered sector bytes (reply.Entered session challenge) = say (frame_of challenge) (talk_in (begun_as sector session) (2 ^ 40) bytes)
entered sector bytes _ = Ends [] ended.End

-- a session over a link that has these bytes. Leave isn't in it: it follows wherever the session ends.
abbrev pub linked : ℕ → List ℕ → Script Ended
linked sector bytes = Asks [] 0 command.Enter (entered sector bytes)

-- What was acted and sent, where the session ended so: all of the script, or where the link failed or a stop came, a front part of it.
abbrev pub Conversed : Script Ended → Ended → List Act → List ℕ → Type 0
Conversed script ended.Link acts sent = Runs script acts × IsPrefix sent (sent_of (after script acts))
Conversed script (ended.Stop why) acts sent = Cuts script acts × IsPrefix sent (sent_of (after script acts))
Conversed script how acts sent = Runs script acts × (after script acts ≡ Ends sent how)

-- where the link ended, nothing of it is left
abbrev pub ReadsAll : Ended → List ℕ → Type 0
ReadsAll ended.End rest = rest ≡ []
ReadsAll _ rest = Unit {0}

-- after Enter was answered, Leave was acted
abbrev pub LeavesBehind : Option Reply → List Act → Type 0
LeavesBehind (Some (reply.Entered session challenge)) acts = acts ≡ act session command.Leave (Some reply.Applied) ∷ []
LeavesBehind _ acts = acts ≡ []

-- the same of all that was acted before
abbrev pub Leaves : List Act → List Act → Type 0
Leaves [] acts = acts ≡ []
Leaves (one ∷ run) acts = LeavesBehind one.reply acts

-- What was acted over a link of which these bytes were read is a run of the script and then Leave, and what was sent is the script's.
pub record Served (sector : ℕ) (read : List ℕ) (how : Ended) (acts : List Act) (sent : List ℕ) : Type 0 where
  pub run : List Act
  pub leave : List Act
  pub acted : acts ≡ run ++ leave
  pub conversed : Conversed (linked sector read) how run sent
  pub left : Leaves run leave

-- Enter, and the session that it began
abbrev pub Begins : ℕ → Result (Standing × List ℕ) Stop → List Act → Type 0
Begins sector (Ok begun) acts = (acts ≡ act 0 command.Enter (Some (reply.Entered begun.0.number begun.1)) ∷ []) × (begun.0 ≡ begun_as sector begun.0.number)
Begins sector (Err why) acts = acts ≡ told 0 command.Enter (Err why)

-- what a session does for one body
abbrev pub script_for : Standing → List ℕ → Script Done
script_for standing body = taken_of standing.state standing.number standing.sector (request_in (limit_of standing.sector) body)

-- what one body led to, and the state behind it
abbrev pub Takes : Script Done → State → Result Taken Stop → List Act → Type 0
Takes script now (Ok what) acts = let done : Done = record { taken = what; state = now } in Follows script (Ok done) acts
Takes script now (Err why) acts = Follows script (Err why) acts

-- a live session left
abbrev pub LeftWhere : ℕ → Option (List Act) → List Act → Type 0
LeftWhere session None leave = Unit {0}
LeftWhere session (Some before) leave = live_after session false before ≡ true → leave ≡ act session command.Leave (Some reply.Applied) ∷ []

-- the parts of a session's talk over a link

-- how it ends where no further body can be read
abbrev pub ended_at : FrameFault → Ended
ended_at (fault.TooLong length) = ended.TooLong length
ended_at fault.Short = ended.End
ended_at fault.Long = ended.Long
ended_at fault.Link = ended.Link
ended_at fault.Memory = ended.Stop stop.Memory

-- What was sent of an answer, and how the session ends by it, if it does: where the link failed, some first bytes were sent.
abbrev pub SentBy : Taken → Option Ended → List ℕ → Type 0
SentBy (taken.Send body) None sent = sent ≡ frame_of body
SentBy (taken.Send body) (Some ended.Link) sent = IsPrefix sent (frame_of body)
SentBy taken.Exit (Some ended.Exit) sent = sent ≡ []
SentBy _ _ sent = ⊥

-- what was acted and sent for one body, and how the session ends by it, if it does
abbrev pub Exchanged : Script Done → State → Option Ended → List Act → List ℕ → Type 0
Exchanged script now (Some (ended.Stop why)) acts sent = Cuts script acts × (sent ≡ [])
Exchanged script now how acts sent = (what : Taken) × Takes script now (Ok what) acts × SentBy what how sent
