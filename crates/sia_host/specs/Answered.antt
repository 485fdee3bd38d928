-- What a host is, and what it answers to a command: a reply, an event and at most one record (RHP2; the events and records are
-- this project's own).
use Rattle.std.specs.Prelude.{◌≡◌, ℕ, ◌+◌, ◌≤◌, List, [], ◌++◌, length, nat_lt, Bool, Option, Some, None, IsSome, Result, Ok, Err, vec_capacity}
use Rattle.std.specs.List.{count_by}
use Rattle.std.specs.Option.{option_map, option_to_list}
use Rattle.sia_types.specs.declared.settings.Settings.{Settings}
use Rattle.sia_ledger.specs.Chain.{height}
use Rattle.sia_records.specs.declared.host_record.HostRecord.{HostRecord}
use Rattle.sia_records.specs.HostRecords.{host_record}
use Rattle.sia_commands.specs.declared.call.Call.{Call}
use Rattle.sia_commands.specs.declared.codes.TheConstants.{WRONG_STATE, NO_CONTRACT}
use Rattle.sia_commands.specs.declared.event.Event.{Event}
use Rattle.sia_commands.specs.declared.event.Outcome.{Outcome}
use Rattle.sia_commands.specs.declared.event.Outcome.TheVariants as outcome
use Rattle.sia_commands.specs.declared.reply.Reply.{Reply}
use Rattle.sia_commands.specs.declared.reply.Reply.TheVariants as reply
use Rattle.sia_kept.specs.declared.session.Session.{Session}
use Rattle.sia_host.specs.declared.phase.Phase.{Phase}
use Rattle.sia_commands.specs.declared.step.PutJob.{PutJob}
use Rattle.sia_commands.specs.declared.step.Room.{Room}
use Rattle.sia_commands.specs.declared.step.Step.{Step}
use Rattle.sia_kept.specs.Sessions.{begins, challenge_at, holder_among, live_sessions, with_number}
use Rattle.sia_kept.specs.State.{Kept, HostState, with_record, contract_among, counted_more}

-- a host: its settings, whose height isn't looked at, its margin and its seed; what it knows by its records; the events of this run; and
-- how it came to be so
pub record Host : Type 0 where
  pub settings : Settings
  pub margin : ℕ
  pub seed : List ℕ
  pub state : HostState
  pub events : List Event
  pub phase : Phase

-- its settings, with the height of its chain
abbrev pub settings_now : Host → Settings
settings_now h = record h.settings { height = height h.state.chain }

-- the height that a next block has
abbrev pub next_height : Host → ℕ
next_height h = height h.state.chain + 1

-- its sessions

-- the session with this number, if it is live
abbrev pub session_now : Host → ℕ → Option Session
session_now h number = with_number number (live_sessions h.seed h.events)

-- what a session holds, if it is there
abbrev pub held_of : Option Session → Option (List ℕ)
held_of None = None
held_of (Some session) = session.held

-- the contract that a session holds
abbrev pub held_now : Host → ℕ → Option (List ℕ)
held_now h number = held_of (session_now h number)

-- the session that holds a contract
abbrev pub holder_now : Host → List ℕ → Option ℕ
holder_now h contract = holder_among contract (live_sessions h.seed h.events)

-- the challenge that the next event gives
abbrev pub next_challenge : Host → List ℕ
next_challenge h = challenge_at h.seed (length h.events)

-- the number of a session that begins now: one more than there were before
abbrev pub next_session : Host → ℕ
next_session h = count_by begins h.events + 1

-- a session that is live and holds no contract, or the code
abbrev pub idle_one : Session → Option (List ℕ) → Result Session ℕ
idle_one session None = Ok session
idle_one session (Some held) = Err WRONG_STATE

-- a session that may be there, which is to hold no contract
abbrev pub idle_of : Option Session → Result Session ℕ
idle_of None = Err WRONG_STATE
idle_of (Some session) = idle_one session session.held

-- the session with this number, which is to be live and to hold no contract
abbrev pub idle_now : Host → ℕ → Result Session ℕ
idle_now h number = idle_of (session_now h number)

-- what is there, or the code
abbrev pub or_code : {A : Type 0} → ℕ → Option A → Result A ℕ
or_code code None = Err code
or_code code (Some x) = Ok x

-- the contract with this identifier, which the host is to know
abbrev pub contract_now : Host → List ℕ → Result Kept ℕ
contract_now h id = or_code NO_CONTRACT (contract_among id h.state.contracts)

-- its answers

-- what a command leaves to be done with the shelf: the sectors that are put into slots; the slot whose sector the reply is to have;
-- and the slots whose sectors its record drops
pub record Work : Type 0 where
  pub puts : List PutJob
  pub fetch : Option ℕ
  pub freed : List ℕ

-- nothing is to be done
abbrev pub no_work : Work
no_work = record { puts = []; fetch = None; freed = [] }

-- a sector is to be fetched for the reply
abbrev pub fetching : ℕ → Work
fetching slot = record { puts = []; fetch = Some slot; freed = [] }

-- what a command comes to; an event is noted of each but of the leave of a session that isn't live
pub record Reaction : Type 0 where
  pub reply : Reply
  pub event : Option Event
  pub made : Option HostRecord
  pub work : Work

-- how many records there are with this one
abbrev pub count_with : ℕ → Option HostRecord → ℕ
count_with count None = count
count_with count (Some made) = counted_more count

-- the event of a call
abbrev pub event_of : Host → Call → Option (List ℕ) → Outcome → Option HostRecord → Event
event_of h call contract fine made = record {
  worker = call.worker;
  session = call.session;
  kind = call.kind;
  contract = contract;
  outcome = fine;
  records = count_with h.state.count made;
}

-- a call that is answered: the contract that its event names, its outcome, the reply, its record, and what is left to be done
abbrev pub worked : Host → Call → Option (List ℕ) → Outcome → Reply → Option HostRecord → Work → Reaction
worked h call contract fine said made work = record { reply = said; event = Some (event_of h call contract fine made); made = made; work = work }

-- a call that is answered, and leaves nothing to be done
abbrev pub answered : Host → Call → Option (List ℕ) → Outcome → Reply → Option HostRecord → Reaction
answered h call contract fine said made = worked h call contract fine said made no_work

-- a call that is refused
abbrev pub refused : Host → Call → Option (List ℕ) → ℕ → Reaction
refused h call contract code = answered h call contract (outcome.Code code) (reply.Error code) None

-- the payload of a record
abbrev pub record_payload : HostRecord → List ℕ
record_payload made = host_record.spelled made

-- how long a journal grows by a record: by a gate, the length of its payload, and the payload
abbrev pub framed_length : HostRecord → ℕ
framed_length made = length (record_payload made) + 9

-- a record passes what the journal has left
abbrev pub lacks_room : Room → HostRecord → Bool
lacks_room room made = nat_lt room.bytes (framed_length made)

-- what the host knows with a record, if one is made
abbrev pub state_with : List ℕ → HostState → Option HostRecord → HostState
state_with host_key state None = state
state_with host_key state (Some made) = with_record host_key state made

-- the host after a call that is answered so
abbrev pub after_answer : Host → Reaction → Host
after_answer h a = record h { state = state_with h.settings.host_key h.state a.made; events = h.events ++ option_to_list a.event }

-- A step is so answered: the reply, the payload that the journal is to keep, what is left to be done, and the host after it. Where a
-- sector is to be fetched, there is room for it.
pub record IsReaction (h : Host) (a : Reaction) (step : Step) (after : Host) : Type 0 where
  pub reply : step.reply ≡ a.reply
  pub payload : step.payload ≡ option_map record_payload a.made
  pub puts : step.puts ≡ a.work.puts
  pub fetch : step.fetch ≡ a.work.fetch
  pub sector : step.sector.items ≡ []
  pub space : IsSome a.work.fetch → h.settings.sector ≤ vec_capacity step.sector
  pub freed : step.freed ≡ a.work.freed
  pub host : after ≡ after_answer h a

-- a step is answered by such a reaction
abbrev pub Gives : (Reaction → Type 0) → Host → Step → Host → Type 0
Gives Answers h step after = (a : Reaction) × Answers a × IsReaction h a step after
