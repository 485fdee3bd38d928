-- The sectors that were fetched, as a snapshot shows them. No public clause speaks of it.
use Rattle.std.specs.Prelude.{ℕ, List}
use Rattle.sia_records.specs.declared.fetched.Fetched.{Fetched, These, Same'}

-- the sectors of the snapshot
abbrev pub fetched_sectors : Fetched → List (List ℕ)
fetched_sectors (These sectors) = sectors.value
fetched_sectors (Same' marker other) = fetched_sectors other
