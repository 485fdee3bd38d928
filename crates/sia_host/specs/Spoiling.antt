-- A step that is taken back, since a disk failed: the event of the fault stands in the place of the step's own, and what is told of the
-- chain and of the records is what was told before the step. Nothing of Sia stands here.
use Rattle.std.specs.Prelude.{◌≡◌, ◌-◌, ◌<◌, Bool, true, false, List, ◌++◌, length, map, drop, Option, Some, None}
use Rattle.sia_ledger.specs.Holdings.{sums_of, tip}
use Rattle.sia_commands.specs.declared.event.Event.{Event}
use Rattle.sia_commands.specs.declared.event.Kind.TheVariants as kind
use Rattle.sia_commands.specs.declared.event.Outcome.TheVariants as outcome
use Rattle.sia_commands.specs.declared.step.Step.{Step}
use Rattle.sia_kept.specs.Logs.{earlier}
use Rattle.sia_host.specs.declared.phase.Past.{Past}
use Rattle.sia_host.specs.declared.phase.Phase.{Phase}
use Rattle.sia_host.specs.declared.phase.Phase.TheVariants as phase
use Rattle.sia_host.specs.Answered.{Host, IsReaction, Reaction}

-- a step was taken back
abbrev pub is_spoiled : Phase → Bool
is_spoiled phase.Settled = false
is_spoiled (phase.Stepped past) = false
is_spoiled (phase.Spoiled past) = true

-- a step that can be taken back has noted an event
abbrev pub HasLast : Phase → List Event → Type 0
HasLast phase.Settled events = Unit {0}
HasLast (phase.Stepped past) events = 0 < length events
HasLast (phase.Spoiled past) events = Unit {0}

-- what is told of a host before a step
abbrev pub past_of : Host → Past
past_of h = record { sums = sums_of h.state.chain; tip = tip h.state.chain; records = h.state.count }

-- the phase after a step that noted an event; once a step was taken back that stays so
abbrev pub phase_after : Phase → Past → Phase
phase_after phase.Settled past = phase.Stepped past
phase_after (phase.Stepped earlier) past = phase.Stepped past
phase_after (phase.Spoiled first) past = phase.Spoiled first

-- the phase after a step with its event, if it noted one
abbrev pub phase_with : Host → Option Event → Phase
phase_with h None = h.phase
phase_with h (Some event) = phase_after h.phase (past_of h)

-- A step is answered by such a reaction, and the host is then what follows.
abbrev pub IsStep : (Reaction → Type 0) → Host → Step → Host → Type 0
IsStep Fits h step after = (a : Reaction) × Fits a × IsReaction h a step (record after { phase = h.phase }) × (after.phase ≡ phase_with h a.event)

-- what is told by a phase: what was before the step that was taken back, or what is
abbrev pub told_by : Phase → Past → Past
told_by phase.Settled present = present
told_by (phase.Stepped past) present = present
told_by (phase.Spoiled past) present = past

-- what is told of a host
abbrev pub told_now : Host → Past
told_now h = told_by h.phase (past_of h)

-- the event of a disk's fault: it has the worker and the session of the command that met it
abbrev pub fault_event : Past → Event → Event
fault_event past event = record event { kind = kind.Fault; contract = None; outcome = outcome.Nothing; records = past.records }

-- the events, the last of them that of a fault
abbrev pub faulted : Past → List Event → List Event
faulted past events = earlier events ++ map (fault_event past) (drop (length events - 1) events)

-- The host whose last step is taken back. Of its records it counts those before that step: a record of the step may be on a disk or not.
abbrev pub spoiled : Past → Host → Host
spoiled past h = record h { state = record h.state { count = past.records }; events = faulted past h.events; phase = phase.Spoiled past }
