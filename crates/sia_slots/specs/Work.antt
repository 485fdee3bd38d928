-- What an answer of a host leaves to be done with the shelf, beside what the host knew and what it knows then. Nothing of RHP2 stands
-- here.
use Rattle.std.specs.Prelude.{◌≡◌, ℕ, ◌≤◌, List, [], All, Contains, length, map, take, Some, None}
use Rattle.sia_records.specs.declared.host_record.HostRecord.{HostRecord}
use Rattle.sia_commands.specs.declared.step.PutJob.{PutJob}
use Rattle.sia_commands.specs.declared.step.Room.{Room}
use Rattle.sia_commands.specs.Filling.{FitsReply}
use Rattle.sia_kept.specs.State.{HostState, live_slots}
use Rattle.sia_host.specs.Answered.{Host, Reaction, framed_length, state_with}
use Rattle.sia_slots.specs.Slots.{ComesFrom, SlotsPass, sectors_in}

-- what a host knows after an answer
abbrev pub state_after : Host → Reaction → HostState
state_after h a = state_with h.settings.host_key h.state a.made

-- What a command leaves to be done fits the room that it found and what the host knows. The sectors that it puts lie in the first of
-- the free slots, and each is a whole sector; the slots pass, and each sector that the host then has was there or is put; without a
-- record none is put or freed. A slot that is fetched is live, no record is made beside it, and what a sector is fits the reply. Without
-- an event nothing is recorded or fetched. A record has room in the journal.
pub record IsWork (h : Host) (room : Room) (a : Reaction) : Type 0 where
  pub slots : map (λ (p : PutJob). p.slot) a.work.puts ≡ take (length a.work.puts) room.free
  pub sizes : All (λ (p : PutJob). length p.bytes ≡ h.settings.sector) a.work.puts
  pub passes : SlotsPass (live_slots h.state) (map (λ (p : PutJob). p.slot) a.work.puts) (live_slots (state_after h a)) a.work.freed
  pub sectors : All (ComesFrom (sectors_in h.state) a.work.puts) (sectors_in (state_after h a))
  pub quiet : a.made ≡ None → (a.work.puts ≡ []) × (a.work.freed ≡ [])
  pub fetched : (slot : ℕ) → a.work.fetch ≡ Some slot → Contains (live_slots h.state) slot × (a.made ≡ None) × ((bytes : List ℕ) → length bytes ≡ h.settings.sector → FitsReply a.reply bytes)
  pub noted : a.event ≡ None → (a.made ≡ None) × (a.work.fetch ≡ None)
  pub framed : (made : HostRecord) → a.made ≡ Some made → framed_length made ≤ room.bytes
