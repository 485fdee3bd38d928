-- What a host answers to a block that is supplied, and to one that is to be reverted (siad's doc/Consensus.md).
use Rattle.std.specs.Prelude.{ℕ, zero, suc, Bool, List, Option, Some, None, if◌then◌else◌}
use Rattle.sia_types.specs.declared.block.Block.{Block}
use Rattle.sia_rules.specs.declared.fault.BlockFault.{BlockFault}
use Rattle.sia_rules.specs.declared.fault.BlockFault.TheVariants as block_fault
use Rattle.sia_ledger.specs.Chain.{height}
use Rattle.sia_ledger.specs.Refusal.{refusal}
use Rattle.sia_records.specs.declared.host_record.HostRecord.{HostRecord}
use Rattle.sia_records.specs.declared.host_record.HostRecord.TheVariants as records
use Rattle.sia_commands.specs.declared.call.Call.{Call}
use Rattle.sia_commands.specs.declared.codes.TheConstants.{STORE_FULL}
use Rattle.sia_commands.specs.declared.event.Kind.TheVariants as kind
use Rattle.sia_commands.specs.declared.event.Outcome.TheVariants as outcome
use Rattle.sia_commands.specs.declared.reply.Reply.TheVariants as reply
use Rattle.sia_commands.specs.declared.step.Room.{Room}
use Rattle.sia_host.specs.Answered.{Reaction, Host, answered, lacks_room, refused}

-- the number of the rule that a block breaks, as its name begins; want of memory has none
abbrev pub rule_number : BlockFault → ℕ
rule_number (block_fault.BadParent tip) = 1
rule_number (block_fault.TooLarge bytes) = 2
rule_number block_fault.HeightEnd = 3
rule_number (block_fault.SumTooLarge part) = 4
rule_number (block_fault.BadValue part) = 5
rule_number (block_fault.PayoutSum need got) = 6
rule_number (block_fault.ProofMix t) = 7
rule_number (block_fault.Repeated t) = 8
rule_number (block_fault.NoCoin t i) = 9
rule_number (block_fault.Immature t i from) = 10
rule_number (block_fault.NoContract t i) = 11
rule_number (block_fault.NoFund t i) = 12
rule_number (block_fault.Conditions t i) = 13
rule_number (block_fault.Locked t i) = 14
rule_number (block_fault.FormWindow t i) = 15
rule_number (block_fault.FormSum t i) = 16
rule_number (block_fault.RevNumber t i have) = 17
rule_number (block_fault.RevWindow t i) = 18
rule_number (block_fault.RevSum t i) = 19
rule_number (block_fault.ProofWindow t i start) = 20
rule_number (block_fault.BadProof t i) = 21
rule_number (block_fault.Balance t funds input output) = 22
rule_number (block_fault.Signature t fault) = 23
rule_number (block_fault.SameId id) = 24
rule_number block_fault.Memory = 0

-- what the feed gives has no session
abbrev pub no_session : ℕ
no_session = 0

-- a command that makes a record is answered so, where the journal may be full for it
abbrev pub recorded_unless : Host → Bool → Call → HostRecord → Reaction
recorded_unless h full call made = if full then refused h call None STORE_FULL else answered h call None outcome.Fine reply.Applied (Some made)

-- what follows from the rule that a block breaks, or from none
abbrev pub apply_given : Host → Bool → Call → Block → Option BlockFault → Reaction
apply_given h full call block (Some fault) = answered h call None (outcome.Block (rule_number fault)) (reply.Refused fault) None
apply_given h full call block None = recorded_unless h full call (records.Block block)

-- a block is put behind the last one; first it is judged, and then room is sought
abbrev pub apply_reaction : (List ℕ → List ℕ → List ℕ → Bool) → Host → Room → ℕ → Block → Reaction
apply_reaction accepts h room worker block =
    apply_given h (lacks_room room (records.Block block)) (record { worker = worker; session = no_session; kind = kind.Apply }) block (refusal accepts h.state.chain block)

-- what follows from how many blocks there are
abbrev pub revert_given : Host → Room → Call → ℕ → Reaction
revert_given h room call zero = answered h call None outcome.NoBlock reply.NoBlock None
revert_given h room call (suc below) = recorded_unless h (lacks_room room records.Revert) call records.Revert

-- the last block is dropped
abbrev pub revert_reaction : Host → Room → ℕ → Reaction
revert_reaction h room worker = revert_given h room (record { worker = worker; session = no_session; kind = kind.Revert }) (height h.state.chain)
