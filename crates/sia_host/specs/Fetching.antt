-- What a host answers to one that asks for a sector of its contract, before it prepares a write or a read; and the sector's bytes in
-- the reply. Nothing of RHP2 asks so: it is what a write or a read finds.
use Rattle.std.specs.Prelude.{ℕ, List, [], None, Result, Ok, Err}
use Rattle.sia_encoding.specs.Answer.{◌>>=◌}
use Rattle.sia_commands.specs.declared.call.Call.{Call}
use Rattle.sia_commands.specs.declared.codes.TheConstants.{BAD_ACTION, NO_SECTOR}
use Rattle.sia_commands.specs.declared.event.Kind.TheVariants as kind
use Rattle.sia_commands.specs.declared.event.Outcome.TheVariants as outcome
use Rattle.sia_commands.specs.declared.reply.Reply.TheVariants as reply
use Rattle.sia_commands.specs.declared.want.Want.{Want}
use Rattle.sia_commands.specs.declared.want.Want.TheVariants as wants
use Rattle.sia_host.specs.Answered.{Reaction, Host, fetching, held_now, or_code, refused, worked}
use Rattle.sia_host.specs.Paying.{open_now}
use Rattle.sia_host.specs.Writing.{slot_at, slot_with}

-- the slot of the first sector with a root of the contract that a session holds; or the code of the first of these: it holds none; a
-- renewal has cleared it; it hasn't that sector
abbrev pub fetched_by_root : Host → ℕ → List ℕ → Result ℕ ℕ
fetched_by_root h session root = open_now h session >>= (λ c. or_code NO_SECTOR (slot_with c root))

-- the same of the sector at a place
abbrev pub fetched_by_place : Host → ℕ → ℕ → Result ℕ ℕ
fetched_by_place h session place = open_now h session >>= (λ c. or_code BAD_ACTION (slot_at c place))

-- the slot of the sector that is wanted
abbrev pub slot_wanted : Host → ℕ → Want → Result ℕ ℕ
slot_wanted h session (wants.Root root) = fetched_by_root h session root
slot_wanted h session (wants.Place place) = fetched_by_place h session place

-- what follows from the slot: the bytes that lie in it are fetched into the reply
abbrev pub fetch_given : Host → Call → Result ℕ ℕ → Reaction
fetch_given h call (Err code) = refused h call (held_now h call.session) code
fetch_given h call (Ok slot) = worked h call (held_now h call.session) outcome.Fine (reply.Sector []) None (fetching slot)

-- a request for a sector; its event names the contract that the session holds
abbrev pub fetch_reaction : Host → ℕ → ℕ → Want → Reaction
fetch_reaction h worker session want = fetch_given h (record { worker = worker; session = session; kind = kind.Fetch }) (slot_wanted h session want)
