-- A run of answers while a session holds a contract.
use Rattle.std.proofs.Common.{◌≡◌, ◌∙◌, ℕ, Bool, true, false, ◌||◌, List, [], ◌∷◌, ◌++◌, All, length, Option, Some, None, MatchOption, refl, sym, ap, subst}
use Rattle.std.specs.List.{list_any}
use Rattle.std.specs.Option.{option_map, option_map_or, option_to_list}
use Rattle.std.proofs.lemmas.List.{append-nil}
use Rattle.std.proofs.lemmas.List.Elements.{All-cons, All-nil}
use Rattle.sia_records.specs.declared.host_record.HostRecord.{HostRecord}
use Rattle.sia_commands.specs.declared.event.Event.{Event}
use Rattle.sia_kept.specs.declared.session.Session.{Session}
use Rattle.sia_kept.specs.Sessions.{challenge_at, effect_of, live_sessions, sessions_after, sessions_from}
use Rattle.sia_kept.specs.State.{is_among, with_record}
use Rattle.sia_kept.proofs.Events.{live_more}
use Rattle.sia_host.specs.Answered.{Host, after_answer, held_now, holder_now, state_with}
use Rattle.sia_host.specs.Holding.{IsRun, KeepsOut, Move, acquires, event_session, gives_up, gives_up_in}
use Rattle.sia_host.proofs.Callers.{AllowedIn, allowed, call_of, lock_told, of_answer}
use Rattle.sia_host.proofs.NamesHeld.{record_held, stays_known}
use Rattle.sia_host.proofs.SessionsHeld.{Agree, acquired_by, agree_by, held_by, held_in}

-- the live sessions of a host
abbrev live : Host → List Session
live h = live_sessions h.seed h.events

-- one step

-- what a move may do to sessions and contracts
record Moves (h : Host) (move : Move) : Type 0 where
  seed : move.after.seed ≡ h.seed
  key : move.after.settings.host_key ≡ h.settings.host_key
  events : move.after.events ≡ h.events ++ option_to_list move.reaction.event
  contracts : (id : List ℕ) → is_among id h.state.contracts ≡ true → is_among id move.after.state.contracts ≡ true

made_known : (key : List ℕ) (h : Host) (made : Option HostRecord) (id : List ℕ) → is_among id h.state.contracts ≡ true → is_among id (state_with key h.state made).contracts ≡ true
unfolding with_record
made_known key h None id is = is
made_known key h (Some made) id is = stays_known id key h.state.contracts made is

moves_so : (h : Host) (move : Move) → record move.after { phase = h.phase } ≡ after_answer h move.reaction → Moves h move
moves_so h move is = record {
  seed = ap (λ (k : Host). k.seed) is;
  key = ap (λ (k : Host). k.settings.host_key) is;
  events = ap (λ (k : Host). k.events) is;
  contracts = (λ id known. subst (λ (k : Host). is_among id k.state.contracts ≡ true) (sym is) (made_known h.settings.host_key h move.reaction.made id known));
}

-- the live sessions after an event, if there is one
abbrev sessions_with : Host → Option Event → List Session
sessions_with h None = live h
sessions_with h (Some event) = sessions_after h.seed (length h.events) event (live h)

live_after : (h : Host) (move : Move) → Moves h move → live move.after ≡ sessions_with h move.reaction.event
live_after h move moves =
    ap (λ seed. live_sessions seed move.after.events) moves.seed ∙ ap (live_sessions h.seed) moves.events ∙ by move.reaction.event
  where
    by : (noted : Option Event) → live_sessions h.seed (h.events ++ option_to_list noted) ≡ sessions_with h noted
    by None = ap (live_sessions h.seed) (append-nil h.events)
    by (Some event) = live_more h.seed h.events event

-- after a move what a session holds is what it is the holder of, if it was so before
agree_after : (h : Host) (move : Move) → Moves h move → ((event : Event) → move.reaction.event ≡ Some event → AllowedIn h event) → Agree (live h) → Agree (live move.after)
agree_after h move moves may agree = subst Agree (sym (live_after h move moves)) (by move.reaction.event may)
  where
    by : (noted : Option Event) → ((event : Event) → noted ≡ Some event → AllowedIn h event) → Agree (sessions_with h noted)
    by None may = agree
    by (Some event) may = agree_by h.state.contracts (effect_of event.kind event.outcome) event.session (challenge_at h.seed (length h.events)) event.contract (live h) (may event refl) agree

-- and who doesn't give it up holds it still
held_after : (h : Host) (move : Move) (session : ℕ) (contract : List ℕ) → Moves h move → ((event : Event) → move.reaction.event ≡ Some event → AllowedIn h event) → gives_up_in session move ≡ false
    → held_now h session ≡ Some contract → held_now move.after session ≡ Some contract
held_after h move session contract moves may keeps is = subst (λ ss. held_in session ss ≡ Some contract) (sym (live_after h move moves)) (by move.reaction.event may keeps)
  where
    by : (noted : Option Event) → ((event : Event) → noted ≡ Some event → AllowedIn h event) → option_map_or (gives_up session) noted false ≡ false → held_in session (sessions_with h noted) ≡ Some contract
    by None may keeps = is
    by (Some event) may keeps =
        held_by h.state.contracts (effect_of event.kind event.outcome) event.session (challenge_at h.seed (length h.events)) event.contract (live h) session contract (may event refl) keeps is

-- who acquires a contract's lock holds it then, and the contract is known
acquired_after : (h : Host) (move : Move) (event : Event) (contract : List ℕ) → Moves h move → AllowedIn h event → move.reaction.event ≡ Some event → acquires contract event ≡ true
    → (is_among contract move.after.state.contracts ≡ true) × (held_now move.after event.session ≡ Some contract)
acquired_after h move event contract moves may noted is =
    let got = acquired_by h.state.contracts (effect_of event.kind event.outcome) event.session (challenge_at h.seed (length h.events)) event.contract (live h) contract may is in
    let after : live move.after ≡ sessions_after h.seed (length h.events) event (live h) = live_after h move moves ∙ ap (sessions_with h) noted in
    (moves.contracts contract got.0, subst (λ ss. held_in event.session ss ≡ Some contract) (sym after) got.1)

-- a move while a session holds a contract
keeps_out : (accepts : List ℕ → List ℕ → List ℕ → Bool) (Signs : List ℕ → List ℕ → Type 0) (h : Host) (move : Move) (later : List Move) (session : ℕ) (contract : List ℕ)
    → Agree (live h) → is_among contract h.state.contracts ≡ true → held_now h session ≡ Some contract → IsRun accepts Signs h (move ∷ later) → KeepsOut session contract move
keeps_out accepts Signs h move later session contract agree known holds run =
    let holder : holder_now h contract ≡ Some session = agree session contract holds in
    let answer = run.2 in
    record {
      own = (λ made some named.
          let own = record_held accepts Signs h move.room move.worker move.session move.command move.reaction made contract run.0 run.1 known answer some named in
          noted_by move.reaction.made move.reaction.event made some (of_answer accepts Signs h move.room move.worker move.session move.command move.reaction answer)
          (own.1 ∙ one move.session (agree move.session contract own.0) holder));
      told = (λ event noted locks named fine. lock_told accepts Signs h move.room move.worker move.session move.command move.reaction event session contract holder answer noted locks named fine);
    }
  where
    one : (other : ℕ) → holder_now h contract ≡ Some other → holder_now h contract ≡ Some session → other ≡ session
    one other first second = let both : Some other ≡ Some session = sym first ∙ second in (cc)

    noted_by : (record_made : Option HostRecord) (noted : Option Event) (made : HostRecord) → record_made ≡ Some made
        → MatchOption noted (record_made ≡ None) (λ event. (event.kind ≡ (call_of h move.worker move.session move.command).kind) × (event.session ≡ (call_of h move.worker move.session move.command).session))
        → (call_of h move.worker move.session move.command).session ≡ session → option_map event_session noted ≡ Some session
    noted_by record_made None made some of same = absurd (let none : None ≡ Some made = sym of ∙ some in cc)
    noted_by record_made (Some event) made some of same = ap Some (of.1 ∙ same)

-- a run

both_off : (a b : Bool) → (a || b) ≡ false → (a ≡ false) × (b ≡ false)
both_off true b is = (cc)
both_off false b is = (refl, is)

-- so each move of a run, as long as the session doesn't give it up
all_kept_out : (accepts : List ℕ → List ℕ → List ℕ → Bool) (Signs : List ℕ → List ℕ → Type 0) (h : Host) (later : List Move) (session : ℕ) (contract : List ℕ)
    → Agree (live h) → is_among contract h.state.contracts ≡ true → held_now h session ≡ Some contract → IsRun accepts Signs h later → list_any (gives_up_in session) later ≡ false → All (KeepsOut session contract) later
all_kept_out accepts Signs h [] session contract agree known holds run keeps = All-nil (KeepsOut session contract)
all_kept_out accepts Signs h (move ∷ later) session contract agree known holds run keeps =
    let moves = moves_so h move run.3 in
    let may = λ (event : Event) (noted : move.reaction.event ≡ Some event). allowed accepts Signs h move.room move.worker move.session move.command move.reaction event run.2 noted in
    let off = both_off (gives_up_in session move) (list_any (gives_up_in session) later) keeps in
    All-cons (KeepsOut session contract) move later (keeps_out accepts Signs h move later session contract agree known holds run)
    (all_kept_out accepts Signs move.after later session contract (agree_after h move moves may agree) (moves.contracts contract known) (held_after h move session contract moves may off.0 holds) run.4 off.1)

-- from where sessions agree with holders on, through the moves before a lock is acquired, and from then on
pub locks_kept : (accepts : List ℕ → List ℕ → List ℕ → Bool) (Signs : List ℕ → List ℕ → Type 0) (h : Host) (before : List Move) (move : Move) (later : List Move) (event : Event) (contract : List ℕ)
    → Agree (live h) → IsRun accepts Signs h (before ++ move ∷ later) → move.reaction.event ≡ Some event → acquires contract event ≡ true → list_any (gives_up_in event.session) later ≡ false
    → All (KeepsOut event.session contract) later
locks_kept accepts Signs h [] move later event contract agree run noted is keeps =
    let moves = moves_so h move run.3 in
    let may = λ (e : Event) (at : move.reaction.event ≡ Some e). allowed accepts Signs h move.room move.worker move.session move.command move.reaction e run.2 at in
    let got = acquired_after h move event contract moves (may event noted) noted is in
    all_kept_out accepts Signs move.after later event.session contract (agree_after h move moves may agree) got.0 got.1 run.4 keeps
locks_kept accepts Signs h (first ∷ before) move later event contract agree run noted is keeps =
    let moves = moves_so h first run.3 in
    let may = λ (e : Event) (at : first.reaction.event ≡ Some e). allowed accepts Signs h first.room first.worker first.session first.command first.reaction e run.2 at in
    locks_kept accepts Signs first.after before move later event contract (agree_after h first moves may agree) run.4 noted is keeps

-- a host without an event has no session
pub none_hold : (h : Host) → h.events ≡ [] → Agree (live h)
unfolding sessions_from
none_hold h none = subst (λ events. Agree (live_sessions h.seed events)) (sym none) (λ number contract is. absurd (let same : None ≡ Some contract = is in cc))
