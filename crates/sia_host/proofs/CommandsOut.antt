-- What a command records follows on what the host knew.
use Rattle.std.proofs.Common.{◌≡◌, ◌∙◌, ℕ, zero, suc, Bool, true, false, not, List, [], Option, Some, None, Ok, refl, sym, ap, subst, arith}
use Rattle.std.specs.Prelude.{nat_lt}
use Rattle.std.specs.Option.{is_none}
use Rattle.std.proofs.lemmas.Bool.{lt-ltb}
use Rattle.sia_encoding.specs.Firsts.{broken, ◌or_else◌}
use Rattle.sia_types.specs.declared.block.Block.{Block}
use Rattle.sia_rules.specs.declared.fault.BlockFault.{BlockFault}
use Rattle.sia_ledger.specs.Chain.{height}
use Rattle.sia_ledger.specs.Refusal.{refusal}
use Rattle.sia_price.specs.declared.priced.Priced.TheVariants as priced
use Rattle.sia_rhp.specs.declared.request_bodies.PaidRoots.{PaidRoots}
use Rattle.sia_records.specs.declared.host_record.HostRecord.{HostRecord}
use Rattle.sia_records.specs.declared.host_record.HostRecord.TheVariants as records
use Rattle.sia_records.specs.Reads.{Read, is_served}
use Rattle.sia_commands.specs.declared.call.Call.{Call}
use Rattle.sia_commands.specs.declared.codes.TheConstants.{BAD_RANGE, NO_SECTOR, STORE_FULL}
use Rattle.sia_commands.specs.declared.event.Kind.TheVariants as kind
use Rattle.sia_commands.specs.declared.step.Room.{Room}
use Rattle.sia_kept.specs.State.{Kept, IsSound, IsStored}
use Rattle.sia_kept.proofs.Sound.{found_stores}
use Rattle.sia_host.specs.Answered.{Host, Reaction, lacks_room, no_work}
use Rattle.sia_host.specs.Feeding.{apply_given, apply_reaction, no_session, recorded_unless, revert_given, revert_reaction}
use Rattle.sia_host.specs.Paying.{IsRevised, open_now, paid_revision, unpaid}
use Rattle.sia_host.specs.Reading.{AreRoots, IsRead, has_sectors, is_outside, read_fault, read_payment, read_price, read_said, roots_fault, roots_payment, roots_said}
use Rattle.sia_host.specs.Replaying.{replays}
use Rattle.sia_host.proofs.FormedOut.{refused_none}
use Rattle.sia_host.proofs.Opened.{opened_among}
use Rattle.sia_host.proofs.RevisedOut.{held_out, nothing_changed, paid_so, paying_follows, revised_out}

-- blocks

-- what is shown of what a call makes a record of holds of what is kept
recorded_gives : (Q : HostRecord → Type 0) (h : Host) (full : Bool) (call : Call) (record_made : HostRecord) (a : Reaction) (made : HostRecord) → Q record_made
    → a ≡ recorded_unless h full call record_made → a.made ≡ Some made → Q made
recorded_gives Q h true call record_made a made shown is some = absurd (refused_none h call None STORE_FULL a made is some)
recorded_gives Q h false call record_made a made shown is some =
    let told : a.made ≡ Some record_made = ap (λ (r : Reaction). r.made) is in
    let both : Some record_made ≡ Some made = sym told ∙ some in
    let same : record_made ≡ made = (cc) in
    subst Q same shown

-- a block that is applied
pub applied_gives : (Q : HostRecord → Type 0) (accepts : List ℕ → List ℕ → List ℕ → Bool) (h : Host) (room : Room) (worker : ℕ) (block : Block) (a : Reaction) (made : HostRecord) → (refusal accepts h.state.chain block ≡ None → Q (records.Block block))
    → a ≡ apply_reaction accepts h room worker block → a.made ≡ Some made → Q made
applied_gives Q accepts h room worker block a made shown = by (refusal accepts h.state.chain block) refl
  where
    call : Call
    call = record { worker = worker; session = no_session; kind = kind.Apply }

    by : (fault : Option BlockFault) → refusal accepts h.state.chain block ≡ fault → a ≡ apply_given h (lacks_room room (records.Block block)) call block fault → a.made ≡ Some made → Q made
    by (Some fault) at is some = absurd (let none : a.made ≡ None = ap (λ (r : Reaction). r.made) is in let same : None ≡ Some made = sym none ∙ some in cc)
    by None at is some = recorded_gives Q h (lacks_room room (records.Block block)) call (records.Block block) a made (shown at) is some

-- it follows
pub applied_out : (accepts : List ℕ → List ℕ → List ℕ → Bool) (h : Host) (room : Room) (worker : ℕ) (block : Block) (a : Reaction) (made : HostRecord) → a ≡ apply_reaction accepts h room worker block → a.made ≡ Some made → replays accepts h made ≡ true
unfolding replays
applied_out accepts h room worker block a made = applied_gives (λ m. replays accepts h m ≡ true) accepts h room worker block a made (λ fine. ap is_none fine)

-- a block that is dropped
pub reverted_gives : (Q : HostRecord → Type 0) (h : Host) (room : Room) (worker : ℕ) (a : Reaction) (made : HostRecord) → (nat_lt 0 (height h.state.chain) ≡ true → Q records.Revert) → a ≡ revert_reaction h room worker → a.made ≡ Some made → Q made
reverted_gives Q h room worker a made shown = by (height h.state.chain) refl
  where
    call : Call
    call = record { worker = worker; session = no_session; kind = kind.Revert }

    by : (n : ℕ) → height h.state.chain ≡ n → a ≡ revert_given h room call n → a.made ≡ Some made → Q made
    by zero at is some = absurd (let none : a.made ≡ None = ap (λ (r : Reaction). r.made) is in let same : None ≡ Some made = sym none ∙ some in cc)
    by (suc below) at is some = recorded_gives Q h (lacks_room room records.Revert) call records.Revert a made (shown (lt-ltb 0 (height h.state.chain) (omega (arith, at)))) is some

-- it follows
pub reverted_out : (accepts : List ℕ → List ℕ → List ℕ → Bool) (h : Host) (room : Room) (worker : ℕ) (a : Reaction) (made : HostRecord) → a ≡ revert_reaction h room worker → a.made ≡ Some made → replays accepts h made ≡ true
unfolding replays
reverted_out accepts h room worker a made = reverted_gives (λ m. replays accepts h m ≡ true) h room worker a made (λ some. some)

-- reads

-- a contract that a session may work with stores what it has
pub opened_stores : (h : Host) (session : ℕ) (c : Kept) → IsSound h.settings.sector h.settings.host_key h.state.contracts → open_now h session ≡ Ok c → IsStored h.settings.sector h.settings.host_key c
opened_stores h session c sound opened = found_stores h.settings.sector h.settings.host_key c.id h.state.contracts c sound.stored (opened_among h session c opened)

-- the first fault isn't there, and neither is another
pub past_one : (b : Bool) (code : ℕ) (rest : Option ℕ) → (broken b code or_else rest) ≡ None → (b ≡ false) × (rest ≡ None)
past_one true code rest is = (cc)
past_one false code rest is = (refl, is)

-- roots that are told
pub roots_out : (accepts : List ℕ → List ℕ → List ℕ → Bool) (Signs : List ℕ → List ℕ → Type 0) (h : Host) (room : Room) (worker session : ℕ) (request : PaidRoots) (a : Reaction) (made : HostRecord) → IsSound h.settings.sector h.settings.host_key h.state.contracts
    → AreRoots accepts Signs h room worker session request a → a.made ≡ Some made → replays accepts h made ≡ true
roots_out accepts Signs h room worker session request a made sound is some =
    let call : Call = record { worker = worker; session = session; kind = kind.Roots } in
    let p = roots_payment request in
    held_out (replays accepts h made ≡ true) h call (open_now h session) (roots_fault h request)
    (λ c b. IsRevised accepts Signs h room call c.id c.renter_key (paid_revision c p c.newest.size c.newest.root) request.signature [] (roots_said c request) no_work b) a made
    (λ c opened fine revised. revised_out (λ m. replays accepts h m ≡ true) accepts Signs h room call c.id c.renter_key (paid_revision c p c.newest.size c.newest.root) request.signature [] (roots_said c request) no_work a made
    (λ host signed. paying_follows accepts h session c p c.newest.size c.newest.root request.signature host [] sound opened
    (paid_so h c (priced.Roots request.count) p (past_one (is_outside c request) BAD_RANGE (unpaid h c (priced.Roots request.count) p) fine).1)
    (nothing_changed h c (opened_stores h session c sound opened)) refl signed) revised some) is some

-- parts of sectors that are read
pub read_out : (accepts : List ℕ → List ℕ → List ℕ → Bool) (Signs : List ℕ → List ℕ → Type 0) (h : Host) (room : Room) (worker session : ℕ) (read : Read) (a : Reaction) (made : HostRecord) → IsSound h.settings.sector h.settings.host_key h.state.contracts
    → IsRead accepts Signs h room worker session read a → a.made ≡ Some made → replays accepts h made ≡ true
read_out accepts Signs h room worker session read a made sound is some =
    let call : Call = record { worker = worker; session = session; kind = kind.Read } in
    let p = read_payment read.request in
    let price = read_price read.request.sections in
    held_out (replays accepts h made ≡ true) h call (open_now h session) (read_fault h read)
    (λ c b. IsRevised accepts Signs h room call c.id c.renter_key (paid_revision c p c.newest.size c.newest.root) read.request.signature [] (read_said read) no_work b) a made
    (λ c opened fine revised. revised_out (λ m. replays accepts h m ≡ true) accepts Signs h room call c.id c.renter_key (paid_revision c p c.newest.size c.newest.root) read.request.signature [] (read_said read) no_work a made
    (λ host signed. paying_follows accepts h session c p c.newest.size c.newest.root read.request.signature host [] sound opened
    (paid_so h c price p (past_one (not (has_sectors c read.request.sections)) NO_SECTOR (unpaid h c price p)
    (past_one (not (is_served h.settings.sector read)) BAD_RANGE (broken (not (has_sectors c read.request.sections)) NO_SECTOR or_else unpaid h c price p) fine).1).1)
    (nothing_changed h c (opened_stores h session c sound opened)) refl signed) revised some) is some
