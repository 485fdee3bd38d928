-- The bytes of a sector in a reply that is to have them. Nothing of RHP2 stands here.
use Rattle.std.specs.Prelude.{ℕ, List, Option, Some, None}
use Rattle.sia_commands.specs.declared.reply.Reply.{Reply}
use Rattle.sia_commands.specs.declared.reply.Reply.TheVariants as reply
use Rattle.sia_commands.specs.OutJobs.{FitsJob, Job, filled_job}

-- a job that may be there, with the bytes of the sector that it lacks
abbrev pub filled_next : Option Job → List ℕ → Option Job
filled_next None bytes = None
filled_next (Some job) bytes = Some (filled_job job bytes)

-- a reply with the bytes that were fetched for it
abbrev pub filled_reply : Reply → List ℕ → Reply
filled_reply (reply.Sector none) bytes = reply.Sector bytes
filled_reply (reply.Next job) bytes = reply.Next (filled_next job bytes)
filled_reply other bytes = other

-- bytes are a sector that a job lacks, if there is a job that lacks one
abbrev pub FitsNext : Option Job → List ℕ → Type 0
FitsNext None bytes = Unit {0}
FitsNext (Some job) bytes = FitsJob job bytes

-- bytes are a sector that a reply's job lacks, if it has a job that lacks one
abbrev pub FitsReply : Reply → List ℕ → Type 0
FitsReply (reply.Next job) bytes = FitsNext job bytes
FitsReply other bytes = Unit {0}
