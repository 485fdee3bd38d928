-- What a contract's lock is for: between the event by which a session acquires it and the one by which that session gives it back or
-- leaves, nobody else makes a record that names the contract, and nobody else acquires its lock (RHP2; siad's modules/negotiate.go).
use Rattle.std.specs.Prelude.{◌≡◌, ℕ, Bool, true, false, List, [], ◌∷◌, ◌==◌, ◌&&◌, ◌||◌, Some}
use Rattle.std.specs.List.{list_any}
use Rattle.std.specs.Option.{option_map, option_map_or}
use Rattle.std.specs.Str.{bytes_eq}
use Rattle.sia_types.specs.declared.file_contracts.Revision.{Revision}
use Rattle.sia_ids.specs.Transactions.{contract_id}
use Rattle.sia_records.specs.declared.host_record.HostRecord.{HostRecord}
use Rattle.sia_records.specs.declared.host_record.HostRecord.TheVariants as records
use Rattle.sia_commands.specs.declared.command.Command.{Command}
use Rattle.sia_commands.specs.declared.event.Event.{Event}
use Rattle.sia_commands.specs.declared.event.Kind.TheVariants as kind
use Rattle.sia_commands.specs.declared.event.Outcome.{Outcome}
use Rattle.sia_commands.specs.declared.event.Outcome.TheVariants as outcome
use Rattle.sia_commands.specs.declared.step.Room.{Room}
use Rattle.sia_kept.specs.declared.session.Effect.{Effect}
use Rattle.sia_kept.specs.declared.session.Effect.TheVariants as effect
use Rattle.sia_kept.specs.Sessions.{effect_of, is_held}
use Rattle.sia_kept.specs.State.{IsSound}
use Rattle.sia_host.specs.Answered.{Host, Reaction, after_answer}
use Rattle.sia_host.specs.Answers.{IsAnswer}
use Rattle.sia_host.specs.Replaying.{IsTyped}

-- A record names a contract: it forms it, revises it, or renews it. A block and a revert name none.
abbrev pub names : List ℕ → HostRecord → Bool
names contract (records.Formed renter_key tx) = bytes_eq (contract_id tx 0) contract
names contract (records.Revised revision renter host changes) = bytes_eq revision.parent contract
names contract (records.Renewed tx) = bytes_eq (contract_id tx 0) contract || list_any (λ (r : Revision). bytes_eq r.parent contract) tx.revisions
names contract other = false

-- whether an effect gives a lock to its session
abbrev pub is_acquiring : Effect → Bool
is_acquiring effect.Acquires = true
is_acquiring other = false

-- whether an effect takes from its session the lock that it holds
abbrev pub is_giving_up : Effect → Bool
is_giving_up effect.Frees = true
is_giving_up effect.Ends = true
is_giving_up other = false

-- an event by which its session acquires the lock of a contract
abbrev pub acquires : List ℕ → Event → Bool
acquires contract event = is_acquiring (effect_of event.kind event.outcome) && is_held contract event.contract

-- an event by which a session gives its lock back, or leaves
abbrev pub gives_up : ℕ → Event → Bool
gives_up session event = is_giving_up (effect_of event.kind event.outcome) && (event.session == session)

-- whether an outcome is a refusal
abbrev pub is_refusal : Outcome → Bool
is_refusal (outcome.Code code) = true
is_refusal other = false

-- a command that is answered: in which room, who gives it, what it comes to, and the host after it
pub record Move : Type 0 where
  pub room : Room
  pub worker : ℕ
  pub session : ℕ
  pub command : Command
  pub reaction : Reaction
  pub after : Host

-- Commands are answered from this host on, one behind the other, each of its type. Each host is sound, as every one is; how it came to
-- be so isn't looked at.
abbrev pub IsRun : (List ℕ → List ℕ → List ℕ → Bool) → (List ℕ → List ℕ → Type 0) → Host → List Move → Type 0
IsRun accepts Signs h [] = Unit {0}
IsRun accepts Signs h (move ∷ later) =
    IsSound h.settings.sector h.settings.host_key h.state.contracts
    × IsTyped move.command
    × IsAnswer accepts Signs h move.room move.worker move.session move.command move.reaction
    × (record move.after { phase = h.phase } ≡ after_answer h move.reaction)
    × IsRun accepts Signs move.after later

-- the session of an event
abbrev pub event_session : Event → ℕ
event_session event = event.session

-- in a move a session gives its lock back, or leaves
abbrev pub gives_up_in : ℕ → Move → Bool
gives_up_in session move = option_map_or (gives_up session) move.reaction.event false

-- What a move may do with a contract that a session holds: a record that names it is made by an event of that session; and an event of
-- a lock on it is a refusal, or tells that session as the holder.
pub record KeepsOut (session : ℕ) (contract : List ℕ) (move : Move) : Type 0 where
  pub own : (made : HostRecord) → move.reaction.made ≡ Some made → names contract made ≡ true → option_map event_session move.reaction.event ≡ Some session
  pub told : (event : Event) → move.reaction.event ≡ Some event → event.kind ≡ kind.Lock → is_held contract event.contract ≡ true → is_refusal event.outcome ≡ false → event.outcome ≡ outcome.Held session
