-- What is known of a read that isn't refused, and the answer to it.
use Rattle.std.proofs.Common.{◌≡◌, ◌*◌, ◌<◌, ◌≤◌, ◌^◌, ℕ, Bool, true, false, List, [], Result, Ok, Err, Some, IfOk, refl, subst, arith}
use Rattle.std.specs.List.{sum_by}
use Rattle.std.proofs.Math.Nat.{pow-le-pow_right}
use Rattle.std.proofs.lemmas.Bool.{leb-true}
use Rattle.sia_types.specs.declared.file_contracts.Revision.{Revision}
use Rattle.sia_diff.proofs.Counts.{left_of_and, right_of_and}
use Rattle.sia_rhp.specs.declared.answer.Answer.TheVariants as answer
use Rattle.sia_rhp.specs.declared.answer_bodies.Part.{Part}
use Rattle.sia_rhp.specs.declared.request_bodies.Section.{Section}
use Rattle.sia_records.specs.Reads.{Read, is_served, parts_of}
use Rattle.sia_commands.specs.declared.call.Call.{Call}
use Rattle.sia_commands.specs.declared.codes.TheConstants.{BAD_RANGE}
use Rattle.sia_commands.specs.declared.event.Kind.TheVariants as kind
use Rattle.sia_commands.specs.declared.reply.Reply.TheVariants as reply
use Rattle.sia_commands.specs.declared.step.Room.{Room}
use Rattle.sia_commands.specs.declared.step.Step.{Step}
use Rattle.sia_kept.specs.State.{Kept}
use Rattle.sia_host.specs.Answered.{Gives, Host, no_work}
use Rattle.sia_host.specs.Paying.{IsRevised, open_now, paid_revision, unrefused}
use Rattle.sia_host.specs.Reading.{IsRead, read_fault, read_payment, read_said}
use Rattle.sia_host.proofs.Held.{follows_given}

-- a sector has at most 4 MiB
pub sector_bound : (sector : ℕ) → ((power : ℕ) × (power ≤ 16) × (sector ≡ 64 * 2 ^ power)) → sector ≤ 4194304
sector_bound sector size =
    let most : 2 ^ size.0 ≤ 2 ^ 16 = pow-le-pow_right {n = 2} (omega arith) {i = size.0} {j = 16} size.1 in
    omega (arith, size.2)

-- so a read that is served has few bytes
pub few_bytes : (sector : ℕ) (read : Read) → ((power : ℕ) × (power ≤ 16) × (sector ≡ 64 * 2 ^ power)) → is_served sector read ≡ true → sum_by (λ (s : Section). s.length) read.request.sections < 2 ^ 64
few_bytes sector read size served =
    let bound = sector_bound sector size in
    let most : sum_by (λ (s : Section). s.length) read.request.sections ≤ 4 * sector = leb-true _ _ (right_of_and _ _ (left_of_and _ _ served)) in
    omega arith

served_by : (h : Host) (read : Read) (c contract : Kept) (fits : Bool) → is_served h.settings.sector read ≡ fits → unrefused (read_fault h read) (Ok c) ≡ Ok contract → is_served h.settings.sector read ≡ true
served_by h read c contract true at is = at
served_by h read c contract false at is =
    let code : read_fault h read c ≡ Some BAD_RANGE = rw at refl in
    let other : unrefused (read_fault h read) (Ok c) ≡ Err BAD_RANGE = rw code refl in
    absurd (cc)

-- a read that isn't refused is served
pub is_ready : (h : Host) (read : Read) (opened : Result Kept ℕ) (contract : Kept) → unrefused (read_fault h read) opened ≡ Ok contract → is_served h.settings.sector read ≡ true
is_ready h read (Err code) contract is = (cc)
is_ready h read (Ok c) contract is = served_by h read c contract (is_served h.settings.sector read) refl is

-- parts that are told by a revision that pays for them
pub read_follows : {E : Type 0} (accepts : List ℕ → List ℕ → List ℕ → Bool) (Signs : List ℕ → List ℕ → Type 0) (h : Host) (room : Room) (worker session : ℕ) (read : Read) (contract : Kept) (revision : Revision)
    (renter : List ℕ) (parts : List Part) (result : Result Step E) (after : Host)
    → unrefused (read_fault h read) (open_now h session) ≡ Ok contract
    → revision ≡ paid_revision contract (read_payment read.request) contract.newest.size contract.newest.root
    → renter ≡ read.request.signature
    → parts ≡ parts_of read
    → IfOk result (λ step. Gives (IsRevised accepts Signs h room (record { worker = worker; session = session; kind = kind.Read }) contract.id contract.renter_key revision renter []
    (λ host. reply.Said (answer.Read (record { signature = host; parts = parts }))) no_work) h step after)
    → IfOk result (λ step. Gives (IsRead accepts Signs h room worker session read) h step after)
read_follows accepts Signs h room worker session read contract revision renter parts result after opened pays copied told gives =
    let call : Call = record { worker = worker; session = session; kind = kind.Read } in
    let Paid = λ (r : Revision) (signature : List ℕ) (ps : List Part). IfOk result (λ step. Gives (IsRevised accepts Signs h room call contract.id contract.renter_key r signature []
    (λ host. reply.Said (answer.Read (record { signature = host; parts = ps }))) no_work) h step after) in
    let own = subst (λ r. Paid r renter parts) pays gives in
    let with_signature = subst (λ s. Paid (paid_revision contract (read_payment read.request) contract.newest.size contract.newest.root) s parts) copied own in
    let with_parts = subst (λ ps. Paid (paid_revision contract (read_payment read.request) contract.newest.size contract.newest.root) read.request.signature ps) told with_signature in
    follows_given h call (open_now h session) (read_fault h read)
    (λ k a. IsRevised accepts Signs h room call k.id k.renter_key (paid_revision k (read_payment read.request) k.newest.size k.newest.root) read.request.signature [] (read_said read) no_work a)
    contract result after opened with_parts
