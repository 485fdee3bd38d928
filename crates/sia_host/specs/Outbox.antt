-- What a host answers to one that asks for the next contract for which something is to be mined (Sia whitepaper, "Storage proofs"; siad's
-- modules/host).
use Rattle.std.specs.Prelude.{ℕ, Bool, List, Option, Some, None, slice_index_or}
use Rattle.std.specs.Option.{option_and_then, option_map}
use Rattle.sia_types.specs.declared.terms.Terms.{Terms}
use Rattle.sia_ledger.specs.Holdings.{terms_of}
use Rattle.sia_records.specs.Stored.{no_sector}
use Rattle.sia_commands.specs.declared.call.Call.{Call}
use Rattle.sia_commands.specs.declared.event.Kind.{Kind}
use Rattle.sia_commands.specs.declared.event.Kind.TheVariants as kind
use Rattle.sia_commands.specs.declared.event.Outcome.TheVariants as outcome
use Rattle.sia_commands.specs.declared.out_job.AskedProof.{AskedProof}
use Rattle.sia_host.specs.declared.outbox.Due.{Due}
use Rattle.sia_host.specs.declared.outbox.Stale.{Stale}
use Rattle.sia_commands.specs.declared.reply.Reply.TheVariants as reply
use Rattle.sia_kept.specs.State.{Kept, roots_of}
use Rattle.sia_host.specs.Feeding.{no_session}
use Rattle.sia_host.specs.Jobs.{due_contracts, next_after, stale_contracts, stale_job, trigger_of}
use Rattle.sia_commands.specs.OutJobs.{Whole, Lacking, asked_of}
use Rattle.sia_host.specs.Answered.{Reaction, Host, answered, fetching, worked}

-- no session asks for the next contract
abbrev pub asking : ℕ → Kind → Call
asking worker asked = record { worker = worker; session = no_session; kind = asked }

-- none is handed out
abbrev pub none_left : Host → Call → Reaction
none_left h call = answered h call None outcome.Nothing (reply.Next None) None

-- a stale contract, and what it is to be mined by
abbrev pub stale_of : Host → Kept → Stale
stale_of h c = record { contract = c.id; transaction = stale_job h c }

-- the next stale contract is handed out, or none
abbrev pub stale_handed : Host → Call → Option Stale → Reaction
stale_handed h call None = none_left h call
stale_handed h call (Some stale) = answered h call (Some stale.contract) outcome.Fine (reply.Next (Some (Whole stale.transaction))) None

-- the answer to one that asks for the stale contract with the least identifier above this one, or with the least of all
abbrev pub stale_reaction : Host → ℕ → List ℕ → Bool → Reaction
stale_reaction h worker id first = stale_handed h (asking worker kind.Stale) (option_map (stale_of h) (next_after id first (stale_contracts h)))

-- the storage proof that is asked for of a contract that runs by these terms: the block before the window chooses the leaf
abbrev pub asked_by : Host → Kept → Terms → AskedProof
asked_by h c terms = asked_of c.id (roots_of c) h.settings.sector (trigger_of h terms)

-- a contract that runs by these terms, the storage proof that is asked for, and the slot of the sector that it needs
abbrev pub due_by : Host → Kept → Terms → Due
due_by h c terms =
    let asked = asked_by h c terms in
    record { contract = c.id; asked = asked; slot = (slice_index_or c.sectors asked.place no_sector).slot }

-- the same of a contract that runs on the chain, as each due one does
abbrev pub due_now : Host → Kept → Option Due
due_now h c = option_map (due_by h c) (terms_of h.state.chain c.id)

-- the next due contract is handed out, or none: its job lacks the bytes of the sector, which are to be fetched
abbrev pub due_handed : Host → Call → Option Due → Reaction
due_handed h call None = none_left h call
due_handed h call (Some due) = worked h call (Some due.contract) outcome.Fine (reply.Next (Some (Lacking due.asked))) None (fetching due.slot)

-- the answer to one that asks for the due contract with the least identifier above this one, or with the least of all
abbrev pub due_reaction : Host → ℕ → List ℕ → Bool → Reaction
due_reaction h worker id first = due_handed h (asking worker kind.Due) (option_and_then (due_now h) (next_after id first (due_contracts h)))
