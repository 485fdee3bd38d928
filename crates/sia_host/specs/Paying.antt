-- Requests about the contract that a session holds, and how they are paid (RHP2; siad's modules/negotiate.go; Sia whitepaper).
use Rattle.std.specs.Prelude.{◌≡◌, ℕ, ◌-◌, ◌^◌, Bool, List, [], ◌∷◌, nat_le, nat_lt, ◌==◌, ◌||◌, not, Option, Some, None, Result, Ok, Err, MatchOption}
use Rattle.std.specs.Option.{is_some}
use Rattle.sia_encoding.specs.Answer.{◌>>=◌, unless}
use Rattle.sia_encoding.specs.Firsts.{broken, ◌or_else◌}
use Rattle.sia_types.specs.declared.file_contracts.Revision.{Revision}
use Rattle.sia_types.specs.declared.transaction.Transaction.{Transaction}
use Rattle.sia_ledger.specs.Chain.{height}
use Rattle.sia_price.specs.declared.priced.Cost.{Cost}
use Rattle.sia_price.specs.declared.priced.Priced.{Priced}
use Rattle.sia_price.specs.Costs.{cost_of, duration_of}
use Rattle.sia_price.specs.Payments.{payment_fault, revision_with}
use Rattle.sia_records.specs.declared.change.Change.{Change}
use Rattle.sia_records.specs.declared.host_record.HostRecord.{HostRecord}
use Rattle.sia_records.specs.declared.host_record.HostRecord.TheVariants as records
use Rattle.sia_commands.specs.declared.call.Call.{Call}
use Rattle.sia_commands.specs.declared.codes.TheConstants.{BAD_PAYMENT, BAD_SIGNATURE, CLEARED, LOW_REVISION, STORE_FULL, TOO_LATE, WRONG_STATE}
use Rattle.sia_commands.specs.declared.reply.Reply.{Reply}
use Rattle.sia_commands.specs.declared.step.Room.{Room}
use Rattle.sia_commands.specs.declared.event.Outcome.TheVariants as outcome
use Rattle.sia_kept.specs.Signing.{whole_hash}
use Rattle.sia_kept.specs.State.{Kept, contract_among}
use Rattle.sia_host.specs.Answered.{Reaction, Host, Work, held_now, lacks_room, next_height, or_code, refused, worked}

-- the contract

-- the contract with this identifier, which a session holds
abbrev pub held_among : List Kept → List ℕ → Result Kept ℕ
held_among contracts id = or_code WRONG_STATE (contract_among id contracts)

-- the contract that a session holds, or the code
abbrev pub holding : Host → ℕ → Result Kept ℕ
holding h session = or_code WRONG_STATE (held_now h session) >>= held_among h.state.contracts

-- a renewal has cleared a contract
abbrev pub was_cleared : Kept → Bool
was_cleared c = c.newest.number == 2 ^ 64 - 1

-- the contract that a session holds, which no renewal has cleared
abbrev pub open_now : Host → ℕ → Result Kept ℕ
open_now h session = holding h session >>= (λ c. unless (broken (was_cleared c) CLEARED) >>= (λ _. Ok c))

-- the window of a contract begins too soon: not behind the next height
abbrev pub is_late : Host → Kept → Bool
is_late h c = not (nat_lt (next_height h) c.newest.start)

-- what is paid

-- the number and the values of the new revision that pays for a request
pub record Payment : Type 0 where
  pub number : ℕ
  pub valid : List ℕ
  pub missed : List ℕ

-- the number isn't above the newest one, or is the greatest of all
abbrev pub is_low : Kept → ℕ → Bool
is_low c number = nat_le number c.newest.number || (number == 2 ^ 64 - 1)

-- what a request costs now
abbrev pub cost_now : Host → Kept → Priced → Cost
cost_now h c call = cost_of call h.settings.prices h.settings.sector (duration_of c.newest.end (height h.state.chain))

-- why a request isn't paid, the first of these: its contract's window is too near; the number is too low; the values don't pay
abbrev pub unpaid : Host → Kept → Priced → Payment → Option ℕ
unpaid h c call p =
    broken (is_late h c) TOO_LATE
    or_else broken (is_low c p.number) LOW_REVISION
    or_else broken (is_some (payment_fault c.newest p.valid p.missed (cost_now h c call))) BAD_PAYMENT

-- the new revision

-- the revision that pays, over so many bytes with this root
abbrev pub paid_revision : Kept → Payment → ℕ → List ℕ → Revision
paid_revision c p size root = revision_with c.newest p.number size root p.valid p.missed

-- the transaction that has a revision alone, over which both parties sign it
abbrev pub revision_alone : Revision → Transaction
revision_alone revision = record {
  coin_inputs = [];
  coin_outputs = [];
  contracts = [];
  revisions = revision ∷ [];
  proofs = [];
  fund_inputs = [];
  fund_outputs = [];
  fees = [];
  notes = [];
  signatures = [];
}

-- the hash by which the party with this key index signs it: the renter has 0, the host 1
abbrev pub revision_hash : Revision → ℕ → List ℕ
revision_hash revision index = whole_hash (revision_alone revision) revision.parent index

-- the renter's signature of a revision is accepted, by the renter's key
abbrev pub signs_revision : (List ℕ → List ℕ → List ℕ → Bool) → List ℕ → Revision → List ℕ → Bool
signs_revision accepts renter_key revision signature = accepts renter_key (revision_hash revision 0) signature

-- why a signed revision isn't kept, the first of these: the journal has no room for its record; the renter's signature isn't
-- accepted
abbrev pub revising_fault : (List ℕ → List ℕ → List ℕ → Bool) → Room → List ℕ → Revision → List ℕ → HostRecord → Option ℕ
revising_fault accepts room renter_key revision renter made =
    broken (lacks_room room made) STORE_FULL
    or_else broken (not (signs_revision accepts renter_key revision renter)) BAD_SIGNATURE

-- what follows from that, for the contract with this identifier
abbrev pub revised_unless : Host → Call → List ℕ → Reply → HostRecord → Work → Option ℕ → Reaction
revised_unless h call id said made work (Some code) = refused h call (Some id) code
revised_unless h call id said made work None = worked h call (Some id) outcome.Fine said (Some made) work

-- A revision with its changes is answered so, for the contract with this identifier and this renter's key: the host signs it, `said`
-- is what it replies with its signature, and `work` what its record leaves to be done.
abbrev pub IsRevised : (List ℕ → List ℕ → List ℕ → Bool) → (List ℕ → List ℕ → Type 0) → Host → Room → Call → List ℕ → List ℕ → Revision → List ℕ → List Change → (List ℕ → Reply) → Work → Reaction → Type 0
IsRevised accepts Signs h room call id renter_key revision renter changes said work a =
    (host : List ℕ) × Signs (revision_hash revision 1) host
    × (let made = records.Revised revision renter host changes in
    a ≡ revised_unless h call id (said host) made work (revising_fault accepts room renter_key revision renter made))

-- A request about the held contract is answered so: refused with the contract's judgement, or with the request's own; else by what
-- follows. Its event names the contract that the session holds.
abbrev pub IsHeld : Host → Call → Result Kept ℕ → (Kept → Option ℕ) → (Kept → Reaction → Type 0) → Reaction → Type 0
IsHeld h call (Err code) fault Follows a = a ≡ refused h call (held_now h call.session) code
IsHeld h call (Ok c) fault Follows a = MatchOption (fault c) (Follows c a) (λ code. a ≡ refused h call (held_now h call.session) code)

-- the contract about which a request isn't refused, or the code
abbrev pub unrefused : (Kept → Option ℕ) → Result Kept ℕ → Result Kept ℕ
unrefused fault opened = opened >>= (λ c. unless (fault c) >>= (λ _. Ok c))
