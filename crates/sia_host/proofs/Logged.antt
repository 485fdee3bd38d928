-- A log that gets room, or an event more, keeps whether a step was taken back, and has an event where it had one.
use Rattle.std.proofs.Common.{◌≡◌, List, [], ◌∷◌, ◌++◌, sym, subst, arith}
use Rattle.std.proofs.lemmas.List.{length-append}
use Rattle.sia_commands.specs.declared.event.Event.{Event}
use Rattle.sia_kept.specs.Logs.{LogView}
use Rattle.sia_host.specs.declared.phase.Phase.{Phase}
use Rattle.sia_host.specs.declared.phase.Phase.TheVariants as phase
use Rattle.sia_host.specs.Spoiling.{HasLast, is_spoiled}

-- a log is as the phase says
pub record IsLogOf (p : Phase) (log : LogView) : Type 0 where
  pub spoiled : log.spoiled ≡ is_spoiled p
  pub last : HasLast p log.events

has_last_more : (p : Phase) (events : List Event) (event : Event) → HasLast p events → HasLast p (events ++ event ∷ [])
has_last_more phase.Settled events event has = tt
has_last_more (phase.Stepped past) events event has = omega (arith, has, length-append events (event ∷ []))
has_last_more (phase.Spoiled past) events event has = tt

-- with room
pub reserved : (p : Phase) (old new : LogView) → new ≡ record old { spare = 1 } → old.spoiled ≡ is_spoiled p → HasLast p old.events → IsLogOf p new
reserved p old new is same has = subst (IsLogOf p) (sym is) (record { spoiled = same; last = has })

-- with an event more
pub noted_so : (p : Phase) (old new : LogView) (event : Event) → new ≡ record old { events = old.events ++ event ∷ []; spare = 0 } → IsLogOf p old → IsLogOf p new
noted_so p old new event is log = subst (IsLogOf p) (sym is) (record { spoiled = log.spoiled; last = has_last_more p old.events event log.last })
