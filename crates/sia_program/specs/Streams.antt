-- What stands of a call's sources and sinks at one moment, as contracts see it: no type of ours, but the two members that each
-- trait of sia_edge has. Disks, links and doors are fields to come.
use Rattle.std.specs.Prelude.{ℕ, List, Option}

-- a source or a sink: the bytes that it has left or that it took, where they are told, and the count of its faults
pub record Stream : Type 0 where
  pub bytes : Option (List ℕ)
  pub faults : ℕ

-- the sources of a call: that of the configuration, and that of a feed or file
pub record Sources : Type 0 where
  pub config : Stream
  pub input : Stream

-- the sources of a call, and what takes standard output and standard error
pub record Streams : Type 0 where
  pub sources : Sources
  pub out : Stream
  pub err : Stream

-- a source or a sink, by the two members of its trait
abbrev pub stream : {S : Type 0} → (S → Option (List ℕ)) → (S → ℕ) → S → Stream
stream bytes faults s = record { bytes = bytes s; faults = faults s }

-- the sources of a call, by the members of their trait
abbrev pub sources : {S : Type 0} → (S → Option (List ℕ)) → (S → ℕ) → S → S → Sources
sources left faults config input = record { config = stream left faults config; input = stream left faults input }
