-- What the answers that revise a contract leave to be done.
use Rattle.std.proofs.Common.{◌≡◌, ◌∙◌, inr, ℕ, ◌*◌, ◌≤◌, Bool, true, false, not, nat_lt, List, [], All, Contains, length, map, Option, Some, None, Ok, refl, ap, subst}
use Rattle.std.proofs.lemmas.Bool.{ltb-false, not-false}
use Rattle.std.proofs.lemmas.List.Elements.{All-contains_itself, All-nil, All-weaker}
use Rattle.sia_encoding.specs.Firsts.{broken, ◌or_else◌}
use Rattle.sia_diff.specs.DiffSteps.{counted_steps, is_fit}
use Rattle.sia_merkle.specs.Roots.{node_root_of}
use Rattle.sia_diff.proofs.Counts.{left_of_and, right_of_and}
use Rattle.sia_diff.proofs.Fit.{fit_done}
use Rattle.sia_price.specs.Payments.{revision_with}
use Rattle.sia_records.specs.declared.host_record.HostRecord.TheVariants as records
use Rattle.sia_records.specs.Reads.{Read}
use Rattle.sia_records.specs.Stored.{step_of}
use Rattle.sia_records.specs.Writes.{Prepared, is_prepared, sectors_of, steps_of}
use Rattle.sia_records.proofs.Slots.{steps_again}
use Rattle.sia_rhp.specs.declared.request_bodies.PaidRoots.{PaidRoots}
use Rattle.sia_commands.specs.declared.call.Call.{Call}
use Rattle.sia_commands.specs.declared.codes.TheConstants.{BAD_ACTION, STORE_FULL}
use Rattle.sia_commands.specs.declared.event.Kind.TheVariants as kind
use Rattle.sia_commands.specs.declared.event.Outcome.TheVariants as outcome
use Rattle.sia_commands.specs.declared.reply.Reply.{Reply}
use Rattle.sia_commands.specs.declared.step.PutJob.{PutJob}
use Rattle.sia_commands.specs.declared.step.Room.{Room}
use Rattle.sia_kept.specs.State.{IsSound, IsStored, Kept, contract_among, live_slots, with_record}
use Rattle.sia_kept.proofs.Changed.{fit_for}
use Rattle.sia_host.specs.Answered.{Host, Reaction, event_of, framed_length, held_now, no_work, refused, worked}
use Rattle.sia_host.specs.Paying.{IsRevised, Payment, open_now, paid_revision, unpaid}
use Rattle.sia_host.specs.Reading.{AreRoots, IsRead, read_fault, read_payment, read_said, roots_fault, roots_payment, roots_said}
use Rattle.sia_host.specs.Writing.{IsWriteSigned, can_write, dropped, put_jobs, write_fault, write_payment, write_price, write_signed, write_work, written_changes, written_revision, written_roots}
use Rattle.sia_host.proofs.CommandsOut.{opened_stores, past_one}
use Rattle.sia_host.proofs.Opened.{opened_among}
use Rattle.sia_slots.specs.Slots.{ComesFrom, SlotsPass, sectors_in}
use Rattle.sia_slots.specs.Work.{IsWork}
use Rattle.sia_slots.proofs.Parted.{held, revised}
use Rattle.sia_slots.proofs.Passing.{Brings}
use Rattle.sia_slots.proofs.Putting.{put_each, put_first, sector_of, sectors_whole, slots_put, write_brings, write_takes}
use Rattle.sia_slots.proofs.Recorded.{revised_comes, revised_pass}
use Rattle.sia_slots.proofs.Working.{comes_itself, idle, keeps, makes}

-- a revision that pays is of the contract that is open
pub paid_found : (h : Host) (session : ℕ) (c : Kept) (p : Payment) (size : ℕ) (root : List ℕ) → IsSound h.settings.sector h.settings.host_key h.state.contracts → open_now h session ≡ Ok c
    → contract_among (paid_revision c p size root).parent h.state.contracts ≡ Some c
unfolding revision_with
paid_found h session c p size root sound opened =
    let stored : IsStored h.settings.sector h.settings.host_key c = opened_stores h session c sound opened in
    ap (λ id. contract_among id h.state.contracts) stored.parent ∙ opened_among h session c opened

-- a revision that stores what the newest one does
unchanged_works : (h : Host) (room : Room) (session : ℕ) (call : Call) (c : Kept) (p : Payment) (renter host : List ℕ) (said : Reply) (a : Reaction) → IsSound h.settings.sector h.settings.host_key h.state.contracts → open_now h session ≡ Ok c
    → framed_length (records.Revised (paid_revision c p c.newest.size c.newest.root) renter host []) ≤ room.bytes
    → a ≡ worked h call (Some c.id) outcome.Fine said (Some (records.Revised (paid_revision c p c.newest.size c.newest.root) renter host [])) no_work → IsWork h room a
unfolding counted_steps
unchanged_works h room session call c p renter host said a sound opened framed is =
    let revision = paid_revision c p c.newest.size c.newest.root in
    let there = paid_found h session c p c.newest.size c.newest.root sound opened in
    keeps h room a said (event_of h call (Some c.id) outcome.Fine (Some (records.Revised revision renter host []))) (records.Revised revision renter host [])
    (revised_pass h.settings.host_key h.state revision renter host [] c sound.apart there refl)
    (revised_comes (ComesFrom (sectors_in h.state) []) h.settings.host_key h.state revision renter host [] c sound.apart there refl (comes_itself (sectors_in h.state) []) (All-nil (Brings (ComesFrom (sectors_in h.state) []))))
    framed is

-- parts of sectors that are read
pub read_works : (accepts : List ℕ → List ℕ → List ℕ → Bool) (Signs : List ℕ → List ℕ → Type 0) (h : Host) (room : Room) (worker session : ℕ) (read : Read) (a : Reaction) → IsSound h.settings.sector h.settings.host_key h.state.contracts
    → IsRead accepts Signs h room worker session read a → IsWork h room a
read_works accepts Signs h room worker session read a sound is =
    let call : Call = record { worker = worker; session = session; kind = kind.Read } in
    let p = read_payment read.request in
    held h call (open_now h session) (read_fault h read)
    (λ c b. IsRevised accepts Signs h room call c.id c.renter_key (paid_revision c p c.newest.size c.newest.root) read.request.signature [] (read_said read) no_work b) a
    (λ code found. idle h room a (refused h call (held_now h call.session) code) refl refl found)
    (λ c opened fine signed. revised accepts Signs h room call c.id c.renter_key (paid_revision c p c.newest.size c.newest.root) read.request.signature [] (read_said read) no_work a
    (λ code found. idle h room a (refused h call (Some c.id) code) refl refl found)
    (λ host framed found. unchanged_works h room session call c p read.request.signature host (read_said read host) a sound opened framed found) signed) is

-- roots that are told
pub roots_work : (accepts : List ℕ → List ℕ → List ℕ → Bool) (Signs : List ℕ → List ℕ → Type 0) (h : Host) (room : Room) (worker session : ℕ) (request : PaidRoots) (a : Reaction) → IsSound h.settings.sector h.settings.host_key h.state.contracts
    → AreRoots accepts Signs h room worker session request a → IsWork h room a
roots_work accepts Signs h room worker session request a sound is =
    let call : Call = record { worker = worker; session = session; kind = kind.Roots } in
    let p = roots_payment request in
    held h call (open_now h session) (roots_fault h request)
    (λ c b. IsRevised accepts Signs h room call c.id c.renter_key (paid_revision c p c.newest.size c.newest.root) request.signature [] (roots_said c request) no_work b) a
    (λ code found. idle h room a (refused h call (held_now h call.session) code) refl refl found)
    (λ c opened fine signed. revised accepts Signs h room call c.id c.renter_key (paid_revision c p c.newest.size c.newest.root) request.signature [] (roots_said c request) no_work a
    (λ code found. idle h room a (refused h call (Some c.id) code) refl refl found)
    (λ host framed found. unchanged_works h room session call c p request.signature host (roots_said c request host) a sound opened framed found) signed) is

-- what is known of a write that isn't refused
record CanPut (h : Host) (room : Room) (c : Kept) (write : Prepared) : Type 0 where
  prepared : is_prepared h.settings.sector write ≡ true
  fits : fit_for (length c.sectors) (map step_of (written_changes room write)) ≡ true
  enough : length (sectors_of write) ≤ length room.free

not_broken : (b : Bool) (code : ℕ) → broken b code ≡ None → b ≡ false
not_broken false code is = refl
not_broken true code is = (cc)

second_none : (first second : Option ℕ) → (first or_else second) ≡ None → second ≡ None
second_none None second is = is
second_none (Some code) second is = (cc)

can_put : (h : Host) (room : Room) (c : Kept) (write : Prepared) → write_fault h room write c ≡ None → CanPut h room c write
can_put h room c write fine =
    let price = unpaid h c (write_price write.request.actions) (write_payment write.request) in
    let short = broken (nat_lt (length room.free) (length (sectors_of write))) STORE_FULL in
    let first = past_one (not (can_write h c write)) BAD_ACTION (price or_else short) fine in
    let can : can_write h c write ≡ true = not-false (can_write h c write) first.0 in
    let fit = right_of_and (is_prepared h.settings.sector write) (is_fit (length c.sectors) (steps_of write)) can in
    record {
      prepared = left_of_and (is_prepared h.settings.sector write) (is_fit (length c.sectors) (steps_of write)) can;
      fits = fit_done (length c.sectors) (map step_of (written_changes room write)) (ap (is_fit (length c.sectors)) (steps_again (steps_of write) room.free) ∙ fit);
      enough = ltb-false _ _ (not_broken (nat_lt (length room.free) (length (sectors_of write))) STORE_FULL (second_none price short first.1));
    }

-- a write that is signed and kept
written_works : (h : Host) (room : Room) (session : ℕ) (call : Call) (c : Kept) (write : Prepared) (renter host : List ℕ) (a : Reaction) → IsSound h.settings.sector h.settings.host_key h.state.contracts → open_now h session ≡ Ok c
    → CanPut h room c write → framed_length (records.Revised (written_revision h write c) renter host (written_changes room write)) ≤ room.bytes
    → a ≡ worked h call (Some c.id) outcome.Fine (write_signed host) (Some (records.Revised (written_revision h write c) renter host (written_changes room write))) (write_work room write c) → IsWork h room a
written_works h room session call c write renter host a sound opened can framed is =
    let revision = written_revision h write c in
    let changes = written_changes room write in
    let made = records.Revised revision renter host changes in
    let puts = put_jobs room.free (sectors_of write) in
    let P = ComesFrom (sectors_in h.state) puts in
    let there : contract_among revision.parent h.state.contracts ≡ Some c = paid_found h session c (write_payment write.request) (h.settings.sector * length (written_roots c write)) (node_root_of (written_roots c write)) sound opened in
    let pass = revised_pass h.settings.host_key h.state revision renter host changes c sound.apart there can.fits in
    let taken : SlotsPass (live_slots h.state) (slots_put puts) (live_slots (with_record h.settings.host_key h.state made)) (dropped c.sectors changes) =
    subst (λ ts. SlotsPass (live_slots h.state) ts (live_slots (with_record h.settings.host_key h.state made)) (dropped c.sectors changes)) (write_takes room write can.enough) pass in
    let each : All (λ (p : PutJob). P (sector_of p)) puts = All-weaker (Contains puts) (λ (p : PutJob). P (sector_of p)) (λ p has. inr (p, has, refl, refl)) puts (All-contains_itself puts) in
    makes h room a (write_signed host) (event_of h call (Some c.id) outcome.Fine (Some made)) made (write_work room write c) refl
    (put_first room.free (sectors_of write))
    (put_each (λ (bytes : List ℕ). length bytes ≡ h.settings.sector) room.free (sectors_of write) (sectors_whole h.settings.sector write can.prepared))
    taken
    (revised_comes P h.settings.host_key h.state revision renter host changes c sound.apart there can.fits (comes_itself (sectors_in h.state) puts) (write_brings P room write can.enough each))
    framed is

pub write_works : (accepts : List ℕ → List ℕ → List ℕ → Bool) (Signs : List ℕ → List ℕ → Type 0) (h : Host) (room : Room) (worker session : ℕ) (write : Prepared) (renter : List ℕ) (a : Reaction)
    → IsSound h.settings.sector h.settings.host_key h.state.contracts → IsWriteSigned accepts Signs h room worker session write renter a → IsWork h room a
write_works accepts Signs h room worker session write renter a sound is =
    let call : Call = record { worker = worker; session = session; kind = kind.WriteSign } in
    held h call (open_now h session) (write_fault h room write)
    (λ c b. IsRevised accepts Signs h room call c.id c.renter_key (written_revision h write c) renter (written_changes room write) write_signed (write_work room write c) b) a
    (λ code found. idle h room a (refused h call (held_now h call.session) code) refl refl found)
    (λ c opened fine signed. revised accepts Signs h room call c.id c.renter_key (written_revision h write c) renter (written_changes room write) write_signed (write_work room write c) a
    (λ code found. idle h room a (refused h call (Some c.id) code) refl refl found)
    (λ host framed found. written_works h room session call c write renter host a sound opened (can_put h room c write fine) framed found) signed) is
