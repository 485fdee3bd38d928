-- What a disk in memory is told to do, in the terms of POSIX's pwrite, ftruncate and fsync.
use Rattle.std.specs.Prelude.{ℕ, List}

-- to write so many bytes (second) at a place (first), to cut its end to so many bytes, or to sync, which it did, with these bytes
pub data Event : Type 0 where
  Wrote : ℕ → ℕ → Event
  Cut : ℕ → Event
  Synced : List ℕ → Event
