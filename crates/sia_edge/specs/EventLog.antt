-- What a disk in memory was told to do, as its snapshots show it: the writes, cuts and syncs of POSIX.
use Rattle.std.specs.Prelude.{ℕ, List, [], ◌∷◌, ◌++◌}
use Rattle.sia_edge.specs.Event as event
use Rattle.sia_edge.specs.Event.{Event}
use Rattle.sia_edge.specs.declared.event_log.EventLog.{EventLog, Made, Wrote', Cut', Synced'}

-- what the disk held when it was made
abbrev pub start_of : EventLog → List ℕ
start_of (Made bytes) = bytes.value.items
start_of (Wrote' marker before at count) = start_of before
start_of (Cut' marker before len) = start_of before
start_of (Synced' marker before bytes) = start_of before

-- what it was told to do since, in order
abbrev pub events_of : EventLog → List Event
events_of (Made bytes) = []
events_of (Wrote' marker before at count) = events_of before ++ event.Wrote at.value count.value ∷ []
events_of (Cut' marker before len) = events_of before ++ event.Cut len.value ∷ []
events_of (Synced' marker before bytes) = events_of before ++ event.Synced bytes.value.items ∷ []
