-- The live sessions of a host, as its events tell them: what each signs next, and which contract each holds (RHP2's loop of
-- requests and its lock; the challenge is this project's own).
use Rattle.std.specs.Prelude.{ℕ, ◌+◌, Bool, true, false, List, [], ◌∷◌, ◌++◌, map, take, find, ◌==◌, not, if◌then◌else◌, Option, Some, None}
use Rattle.std.specs.List.{filter}
use Rattle.std.specs.Option.{option_map}
use Rattle.std.specs.Str.{bytes_eq}
use Rattle.sia_blake.specs.Blake2b.{blake2b_256}
use Rattle.sia_encoding.specs.Spelling.{spelled_u64}
use Rattle.sia_commands.specs.declared.event.Event.{Event}
use Rattle.sia_commands.specs.declared.event.Kind.{Kind}
use Rattle.sia_commands.specs.declared.event.Kind.TheVariants as kind
use Rattle.sia_commands.specs.declared.event.Outcome.{Outcome}
use Rattle.sia_commands.specs.declared.event.Outcome.TheVariants as outcome
use Rattle.sia_kept.specs.declared.session.Session.{Session}
use Rattle.sia_kept.specs.declared.session.Effect.{Effect}
use Rattle.sia_kept.specs.declared.session.Effect.TheVariants as effect

-- the challenge that the event at a place gives, under the host's seed: the first 16 bytes of a digest
unfoldable pub challenge_at : List ℕ → ℕ → List ℕ
challenge_at seed place = take 16 (blake2b_256 (seed ++ spelled_u64 place))

-- what an event does to its session: one begins, with a challenge of its own; the answer to a lock, acquired or held, has a new
-- challenge; what is unlocked is held no more; and one ends, with all that it holds
abbrev pub effect_of : Kind → Outcome → Effect
effect_of kind.Enter any = effect.Begins
effect_of kind.Lock outcome.Fine = effect.Acquires
effect_of kind.Lock (outcome.Held holder) = effect.AsksAnew
effect_of kind.Unlock outcome.Fine = effect.Frees
effect_of kind.Leave any = effect.Ends
effect_of other any = effect.Stays

-- a session that begins: it has a challenge, and holds nothing
abbrev pub begun_session : ℕ → List ℕ → Session
begun_session number challenge = record { number = number; challenge = challenge; held = None }

-- a session after an effect that it goes on with, which comes with a challenge and names a contract
abbrev pub session_changed : Effect → List ℕ → Option (List ℕ) → Session → Session
session_changed effect.Begins challenge contract session = session
session_changed effect.Acquires challenge contract session = record session { challenge = challenge; held = contract }
session_changed effect.AsksAnew challenge contract session = record session { challenge = challenge }
session_changed effect.Frees challenge contract session = record session { held = None }
session_changed effect.Ends challenge contract session = session
session_changed effect.Stays challenge contract session = session

-- the sessions, where those with a number are changed
abbrev pub on_session : ℕ → (Session → Session) → List Session → List Session
on_session number change sessions = map (λ (s : Session). if s.number == number then change s else s) sessions

-- the sessions but those with a number
abbrev pub without_session : ℕ → List Session → List Session
without_session number sessions = filter (λ (s : Session). not (s.number == number)) sessions

-- the live sessions after an effect on one: it is put behind the others, taken away, or changed
abbrev pub sessions_by : Effect → ℕ → List ℕ → Option (List ℕ) → List Session → List Session
sessions_by effect.Begins number challenge contract sessions = sessions ++ begun_session number challenge ∷ []
sessions_by effect.Acquires number challenge contract sessions = on_session number (session_changed effect.Acquires challenge contract) sessions
sessions_by effect.AsksAnew number challenge contract sessions = on_session number (session_changed effect.AsksAnew challenge contract) sessions
sessions_by effect.Frees number challenge contract sessions = on_session number (session_changed effect.Frees challenge contract) sessions
sessions_by effect.Ends number challenge contract sessions = without_session number sessions
sessions_by effect.Stays number challenge contract sessions = sessions

-- the live sessions after an event at a place
abbrev pub sessions_after : List ℕ → ℕ → Event → List Session → List Session
sessions_after seed place event sessions = sessions_by (effect_of event.kind event.outcome) event.session (challenge_at seed place) event.contract sessions

-- the live sessions after these events, of which the first has this place
unfoldable pub sessions_from : List ℕ → ℕ → List Session → List Event → List Session
sessions_from seed place sessions [] = sessions
sessions_from seed place sessions (event ∷ later) = sessions_from seed (place + 1) (sessions_after seed place event sessions) later

-- the live sessions after all events, in the order in which they began
abbrev pub live_sessions : List ℕ → List Event → List Session
live_sessions seed events = sessions_from seed 0 [] events

-- the session with this number
abbrev pub with_number : ℕ → List Session → Option Session
with_number number sessions = find (λ (s : Session). s.number == number) sessions

-- what is held is this contract
abbrev pub is_held : List ℕ → Option (List ℕ) → Bool
is_held contract None = false
is_held contract (Some held) = bytes_eq held contract

-- the number of a session
abbrev pub session_number : Session → ℕ
session_number session = session.number

-- The one of these sessions that holds a contract. Of the live sessions it is the holder: the one whose lock on the contract was
-- acquired, and that has neither unlocked nor left since.
abbrev pub holder_among : List ℕ → List Session → Option ℕ
holder_among contract sessions = option_map session_number (find (λ (s : Session). is_held contract s.held) sessions)

-- whether an effect begins a session
abbrev pub is_beginning : Effect → Bool
is_beginning effect.Begins = true
is_beginning other = false

-- whether an event begins a session
abbrev pub begins : Event → Bool
begins event = is_beginning (effect_of event.kind event.outcome)
