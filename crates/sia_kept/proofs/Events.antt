-- How the live sessions grow with the events.
use Rattle.std.proofs.Common.{◌≡◌, ℕ, zero, suc, ◌+◌, ◌-◌, ◌<◌, ◌≤◌, ◌==◌, Bool, true, false, List, [], ◌∷◌, ◌++◌, length, find, count_by, map, take, drop, get_or, set, not, if◌then◌else◌, Option, Some, None, IsSome, refl, sym, ap, ◌∙◌, add-zero, arith}
use Rattle.std.specs.List.{filter}
use Rattle.std.proofs.Math.Seq.{take-append_seam}
use Rattle.std.proofs.lemmas.List.{length-append}
use Rattle.sia_commands.specs.declared.event.Event.{Event}
use Rattle.sia_kept.specs.declared.session.Session.{Session}
use Rattle.sia_kept.specs.declared.session.Effect.TheVariants as effect
use Rattle.std.proofs.lemmas.List.Sums.{sum_by-append}
use Rattle.std.proofs.lemmas.List.Edits.{map_over_more}
use Rattle.std.proofs.lemmas.Grind.{common_steps}
use Rattle.sia_kept.specs.declared.session.Effect.{Effect}
use Rattle.sia_kept.specs.Logs.{earlier, room_back}
use Rattle.sia_kept.specs.Sessions.{begins, challenge_at, effect_of, is_beginning, live_sessions, sessions_after, sessions_by, sessions_from, with_number, without_session}

-- one event more comes after all others
sessions_more : (seed : List ℕ) (place : ℕ) (sessions : List Session) (events : List Event) (event : Event) → sessions_from seed place sessions (events ++ event ∷ []) ≡ sessions_after seed (place + length events) event (sessions_from seed place sessions events)
unfolding sessions_from
sessions_more seed place sessions [] event = ap (λ p. sessions_after seed p event sessions) (sym (add-zero place))
sessions_more seed place sessions (first ∷ later) event =
    let at : place + 1 + length later ≡ place + length (first ∷ later) = omega arith in
    sessions_more seed (place + 1) (sessions_after seed place first sessions) later event
    ∙ ap (λ p. sessions_after seed p event (sessions_from seed (place + 1) (sessions_after seed place first sessions) later)) at

-- the live sessions with one event more
pub live_more : (seed : List ℕ) (events : List Event) (event : Event) → live_sessions seed (events ++ event ∷ []) ≡ sessions_after seed (length events) event (live_sessions seed events)
live_more seed events event =
    let at : 0 + length events ≡ length events = omega arith in
    sessions_more seed 0 [] events event ∙ ap (λ p. sessions_after seed p event (live_sessions seed events)) at

-- the live sessions with a leave more
pub live_leaves : (seed : List ℕ) (events : List Event) (event : Event) → effect_of event.kind event.outcome ≡ effect.Ends → live_sessions seed (events ++ event ∷ []) ≡ without_session event.session (live_sessions seed events)
live_leaves seed events event ends =
    live_more seed events event ∙ ap (λ done. sessions_by done event.session (challenge_at seed (length events)) event.contract (live_sessions seed events)) ends

-- no session is put in by a filter
no_more : (number : ℕ) (sessions : List Session) → length (without_session number sessions) < suc (length sessions)
no_more number [] = omega arith
no_more number (s ∷ sessions) = cases (s.number == number) (no_more number sessions)
  where
    cases : (b : Bool) → length (without_session number sessions) < suc (length sessions) → length (if not b then s ∷ without_session number sessions else without_session number sessions) < suc (suc (length sessions))
    cases true below = omega arith
    cases false below = omega arith

-- where a session is found, there are fewer without it
pub fewer : (number : ℕ) (sessions : List Session) → IsSome (with_number number sessions) → length (without_session number sessions) < length sessions
fewer number [] found = (cc)
fewer number (s ∷ sessions) found = cases (s.number == number) found (fewer number sessions) (no_more number sessions)
  where
    cases : (b : Bool) → IsSome (if b then Some s else with_number number sessions) → (IsSome (with_number number sessions) → length (without_session number sessions) < length sessions) → length (without_session number sessions) < suc (length sessions)
        → length (if not b then s ∷ without_session number sessions else without_session number sessions) < suc (length sessions)
    cases true found less same = same
    cases false found less same = let below : length (without_session number sessions) < length sessions = less found in omega arith

-- what a log keeps after an event more
pub noted : (seed : List ℕ) (events more : List Event) (event : Event) (sessions now : List Session) (place : ℕ) → sessions ≡ live_sessions seed events → place ≡ length events → now ≡ sessions_after seed place event sessions → more ≡ events ++ event ∷ [] → now ≡ live_sessions seed more
noted seed events more event sessions now place kept at is grown =
    is ∙ (ap (λ s. sessions_after seed place event s) kept ∙ (ap (λ p. sessions_after seed p event (live_sessions seed events)) at ∙ (sym (live_more seed events event) ∙ ap (λ es. live_sessions seed es) (sym grown))))

-- and after a leave more
pub left : (seed : List ℕ) (events more : List Event) (event : Event) (sessions now : List Session) → sessions ≡ live_sessions seed events → effect_of event.kind event.outcome ≡ effect.Ends → now ≡ without_session event.session sessions → more ≡ events ++ event ∷ [] → now ≡ live_sessions seed more
left seed events more event sessions now kept ends is grown =
    is ∙ (ap (λ s. without_session event.session s) kept ∙ (sym (live_leaves seed events event ends) ∙ ap (λ es. live_sessions seed es) (sym grown)))

-- how many sessions have begun, with an event more
pub counted : (events more : List Event) (event : Event) (before one : ℕ) → before ≡ count_by begins events → one ≡ (if begins event then 1 else 0) → more ≡ events ++ event ∷ [] → before + one ≡ count_by begins more
counted events more event before one are is grown =
    let all : count_by begins (events ++ event ∷ []) ≡ count_by begins events + (0 + (if begins event then 1 else 0)) = sum_by-append (λ e. if begins e then 1 else 0) events (event ∷ []) in
    let same : count_by begins more ≡ count_by begins (events ++ event ∷ []) = ap (count_by begins) grown in
    omega arith

-- a leave begins none
pub uncounted : (events more : List Event) (event : Event) (before : ℕ) → before ≡ count_by begins events → effect_of event.kind event.outcome ≡ effect.Ends → more ≡ events ++ event ∷ [] → before ≡ count_by begins more
uncounted events more event before are ends grown =
    let none : begins event ≡ false = ap is_beginning ends in
    let zero_of : 0 ≡ (if begins event then 1 else 0) = ap (λ b. if b then 1 else 0) (sym none) in
    let sum : before + 0 ≡ count_by begins more = counted events more event before 0 are zero_of grown in
    omega arith

-- a loop that changes a session more
pub one_more_changed : (number : ℕ) (f : Session → Session) (all now : List Session) (i : ℕ) (x y : Session) → now ≡ map (λ s. if s.number == number then f s else s) (take i all) ++ drop i all → i < length all → x ≡ get_or now i x → y ≡ (if x.number == number then f x else x) → set now i y ≡ map (λ s. if s.number == number then f s else s) (take (i + 1) all) ++ drop (i + 1) all
one_more_changed number f all now i x y so_far below is changed =
    ap (λ z. set now i z) changed ∙ map_over_more (λ s. if s.number == number then f s else s) all now i x below so_far is

-- taking back the last event

-- the events before one that was put behind them
pub earlier_more : (events more : List Event) (event : Event) → more ≡ events ++ event ∷ [] → earlier more ≡ events
earlier_more events more event grown =
    ap earlier grown ∙ ap (λ n. take n (events ++ event ∷ [])) (shorter events event) ∙ take-append_seam events (event ∷ [])
  where
    shorter : (events : List Event) (event : Event) → length (events ++ event ∷ []) - 1 ≡ length events
    shorter events event = omega (arith, length-append events (event ∷ []))

-- at most one place is kept to take an event back
pub room_few : (events : List Event) (spoiled : Bool) → room_back events spoiled ≤ 1
room_few events true = omega arith
room_few [] false = omega arith
room_few (event ∷ events) false = omega arith

-- and one where there are events
pub room_one : (events : List Event) → 0 < length events → room_back events false ≡ 1
room_one [] some = absurd (omega (arith, some))
room_one (event ∷ events) some = omega arith

pub room_same : (events more : List Event) (spoiled : Bool) → 0 < length events → 0 < length more → room_back more spoiled ≡ room_back events spoiled
room_same events more true some many = refl
room_same events more false some many = room_one more many ∙ sym (room_one events some)

-- a session is live by some event
pub live_by_some : (seed : List ℕ) (events : List Event) (number : ℕ) → IsSome (with_number number (live_sessions seed events)) → 0 < length events
unfolding sessions_from
live_by_some seed [] number live = (cc)
live_by_some seed (event ∷ events) number live = omega arith

-- an event that does nothing to a session
pub live_stays : (seed : List ℕ) (events more : List Event) (event : Event) → effect_of event.kind event.outcome ≡ effect.Stays → more ≡ events ++ event ∷ [] → live_sessions seed events ≡ live_sessions seed more
live_stays seed events more event stays grown =
    sym (ap (λ es. live_sessions seed es) grown ∙ live_more seed events event ∙ ap (λ done. sessions_by done event.session (challenge_at seed (length events)) event.contract (live_sessions seed events)) stays)

-- begins none
pub stays_uncounted : (events more : List Event) (event : Event) (before : ℕ) → before ≡ count_by begins events → effect_of event.kind event.outcome ≡ effect.Stays → more ≡ events ++ event ∷ [] → before ≡ count_by begins more
stays_uncounted events more event before are stays grown =
    let none : begins event ≡ false = ap is_beginning stays in
    let zero_of : 0 ≡ (if begins event then 1 else 0) = ap (λ b. if b then 1 else 0) (sym none) in
    let sum : before + 0 ≡ count_by begins more = counted events more event before 0 are zero_of grown in
    omega arith
