-- The events of a run beside the sessions that are live by them, and the room for more. No public clause of a host speaks of the room.
use Rattle.std.specs.Prelude.{ℕ, ◌-◌, Bool, List, length, min, take, if◌then◌else◌}
use Rattle.sia_commands.specs.declared.event.Event.{Event}

-- the seed of the challenges, the events, for how many more there is room, and whether the last event of a step was taken back
pub record LogView : Type 0 where
  pub seed : List ℕ
  pub events : List Event
  pub spare : ℕ
  pub spoiled : Bool

-- the events before the last one
abbrev pub earlier : List Event → List Event
earlier events = take (length events - 1) events

-- the room that is kept to take back the last event: that of a leave, whose session is live again; it is done once at most
abbrev pub room_back : List Event → Bool → ℕ
room_back events spoiled = if spoiled then 0 else min 1 (length events)
