-- What a signed write makes of its contract's sectors, and the answer to it.
use Rattle.std.proofs.Common.{◌≡◌, ◌∙◌, ◌*◌, ◌<◌, ◌≤◌, ℕ, Bool, true, false, List, [], ◌∷◌, ◌++◌, append_assoc, append-nil, length, map, Option, Some, None, Result, Ok, Err, IfOk, refl, sym, ap, subst, arith}
use Rattle.std.specs.Prelude.{nat_lt}
use Rattle.std.proofs.lemmas.Bool.{ltb-false}
use Rattle.std.proofs.lemmas.List.{length-map}
use Rattle.sia_encoding.specs.Answer.{◌>>=◌, unless}
use Rattle.sia_encoding.specs.Firsts.{broken, ◌or_else◌}
use Rattle.sia_merkle.specs.Roots.{node_root_of}
use Rattle.sia_diff.specs.DiffSteps.{after, count_after, is_fit}
use Rattle.sia_diff.proofs.Fit.{fit_count, fit_done}
use Rattle.sia_diff.proofs.Moves.{count_bound, length_after}
use Rattle.sia_types.specs.declared.file_contracts.Revision.{Revision}
use Rattle.sia_price.specs.Payments.{revision_with}
use Rattle.sia_records.specs.declared.change.Change.{Change}
use Rattle.sia_records.specs.Stored.{step_of, stored_after}
use Rattle.sia_records.specs.Writes.{Prepared, sectors_of, steps_of}
use Rattle.sia_records.proofs.Roots.{roots_after}
use Rattle.sia_records.proofs.Slots.{steps_again}
use Rattle.sia_commands.specs.declared.call.Call.{Call}
use Rattle.sia_commands.specs.declared.codes.TheConstants.{BAD_ACTION, STORE_FULL}
use Rattle.sia_commands.specs.declared.event.Kind.TheVariants as kind
use Rattle.sia_commands.specs.declared.step.PutJob.{PutJob}
use Rattle.sia_commands.specs.declared.step.Room.{Room}
use Rattle.sia_commands.specs.declared.step.Step.{Step}
use Rattle.sia_kept.specs.State.{Kept, IsSound, IsStored, contract_among, revised_contract, root_in, roots_of}
use Rattle.sia_kept.proofs.Sound.{found_stores}
use Rattle.sia_host.specs.Answered.{Gives, Host}
use Rattle.sia_host.specs.Paying.{IsRevised, Payment, open_now, paid_revision, unpaid, unrefused}
use Rattle.sia_host.specs.Writing.{IsWriteSigned, dropped, put_jobs, write_fault, write_payment, write_price, write_signed, write_work, written_changes, written_revision, written_roots}
use Rattle.sia_host.proofs.Held.{follows_given}
use Rattle.sia_host.proofs.Opened.{opened_among, unrefused_opened}
use Rattle.sia_host.proofs.Writable.{can_be_done, fits_sectors}

-- the contract that a paying revision names is the one about which the request is, and it stores what it has
pub paid_one : (h : Host) (session : ℕ) (fault : Kept → Option ℕ) (c : Kept) (p : Payment) (size : ℕ) (root : List ℕ) (sector : ℕ) (host_key : List ℕ) → IsSound sector host_key h.state.contracts → unrefused fault (open_now h session) ≡ Ok c
    → (k : Kept) → contract_among (paid_revision c p size root).parent h.state.contracts ≡ Some k → (k ≡ c) × IsStored sector host_key c
unfolding revision_with
paid_one h session fault c p size root sector host_key sound is k found =
    let there : contract_among c.id h.state.contracts ≡ Some c = opened_among h session c (unrefused_opened fault (open_now h session) c is) in
    let stored : IsStored sector host_key c = found_stores sector host_key c.id h.state.contracts c sound.stored there in
    let mine : contract_among c.id h.state.contracts ≡ Some k = subst (λ id. contract_among id h.state.contracts ≡ Some k) stored.parent found in
    let same : Some k ≡ Some c = sym mine ∙ there in
    let one : k ≡ c = (cc) in
    (one, stored)

-- the changes are the write's steps, and are fit where these are
pub changes_fit : (room : Room) (write : Prepared) (count : ℕ) → is_fit count (steps_of write) ≡ true → is_fit count (map step_of (written_changes room write)) ≡ true
changes_fit room write count fits = ap (is_fit count) (steps_again (steps_of write) room.free) ∙ fits

-- the roots after the changes are those after the write
roots_written : (room : Room) (write : Prepared) (c : Kept) → map root_in (stored_after c.sectors (written_changes room write)) ≡ written_roots c write
roots_written room write c =
    roots_after c.sectors (written_changes room write) ∙ ap (after (roots_of c)) (steps_again (steps_of write) room.free)

-- there are no more than a contract may have
pub few_written : (write : Prepared) (c : Kept) → is_fit (length c.sectors) (steps_of write) ≡ true → length (written_roots c write) ≤ 65536
few_written write c fits =
    let few : length c.sectors ≤ 65536 = fit_count (length c.sectors) (steps_of write) fits in
    let done = fit_done (length c.sectors) (steps_of write) fits in
    let many : length (written_roots c write) ≡ count_after (length c.sectors) (steps_of write) = length_after (roots_of c) (steps_of write) (length c.sectors) (length-map c.sectors root_in) done in
    let bound : count_after (length c.sectors) (steps_of write) ≤ 65536 = count_bound (length c.sectors) (steps_of write) few done in
    omega arith

-- and there are as many sectors as roots
count_written : (room : Room) (write : Prepared) (c : Kept) → length (stored_after c.sectors (written_changes room write)) ≡ length (written_roots c write)
count_written room write c = sym (length-map (stored_after c.sectors (written_changes room write)) root_in) ∙ ap length (roots_written room write c)

-- so the revision that a write proposes stores what the write makes of the sectors
revision_stores : (h : Host) (room : Room) (write : Prepared) (c : Kept) (renter host : List ℕ) → IsStored h.settings.sector h.settings.host_key c → is_fit (length c.sectors) (steps_of write) ≡ true
    → IsStored h.settings.sector h.settings.host_key (revised_contract (written_revision h write c) renter host (written_changes room write) c)
unfolding revision_with
revision_stores h room write c renter host stored fits =
    let many = count_written room write c in
    let few = few_written write c fits in
    record {
      id = stored.id;
      parent = stored.parent;
      address = stored.address;
      few = omega (arith, many, few);
      size = ap (λ n. h.settings.sector * n) (sym many);
      root = ap node_root_of (sym (roots_written room write c));
    }

-- a write whose steps are fit by the contract that its revision names
pub write_fits : (h : Host) (room : Room) (session : ℕ) (write : Prepared) (c : Kept) (size : ℕ) (root : List ℕ) (sector : ℕ) (host_key : List ℕ) → IsSound sector host_key h.state.contracts → unrefused (write_fault h room write) (open_now h session) ≡ Ok c
    → (k : Kept) → contract_among (paid_revision c (write_payment write.request) size root).parent h.state.contracts ≡ Some k → is_fit (length k.sectors) (map step_of (written_changes room write)) ≡ true
write_fits h room session write c size root sector host_key sound is k found =
    let one = paid_one h session (write_fault h room write) c (write_payment write.request) size root sector host_key sound is k found in
    let fits : is_fit (length c.sectors) (steps_of write) ≡ true = fits_sectors h write c (can_be_done h room write (open_now h session) c is) in
    subst (λ (x : Kept). is_fit (length x.sectors) (map step_of (written_changes room write)) ≡ true) (sym one.0) (changes_fit room write (length c.sectors) fits)

-- and that the contract then stores what it has
pub write_stores : (h : Host) (room : Room) (session : ℕ) (write : Prepared) (c : Kept) (renter host : List ℕ) → IsSound h.settings.sector h.settings.host_key h.state.contracts → unrefused (write_fault h room write) (open_now h session) ≡ Ok c
    → (k : Kept) → contract_among (written_revision h write c).parent h.state.contracts ≡ Some k
    → IsStored h.settings.sector h.settings.host_key (revised_contract (written_revision h write c) renter host (written_changes room write) k)
write_stores h room session write c renter host sound is k found =
    let one = paid_one h session (write_fault h room write) c (write_payment write.request) (h.settings.sector * length (written_roots c write)) (node_root_of (written_roots c write)) h.settings.sector h.settings.host_key sound is k found in
    let fits : is_fit (length c.sectors) (steps_of write) ≡ true = fits_sectors h write c (can_be_done h room write (open_now h session) c is) in
    subst (λ (x : Kept). IsStored h.settings.sector h.settings.host_key (revised_contract (written_revision h write c) renter host (written_changes room write) x)) (sym one.0) (revision_stores h room write c renter host one.1 fits)

-- so it may be made the contract's newest one: its changes are fit
pub may_change : (h : Host) (room : Room) (session : ℕ) (write : Prepared) (c : Kept) (revision : Revision) (changes : List Change) → IsSound h.settings.sector h.settings.host_key h.state.contracts → unrefused (write_fault h room write) (open_now h session) ≡ Ok c
    → revision ≡ written_revision h write c → changes ≡ written_changes room write
    → (k : Kept) → contract_among revision.parent h.state.contracts ≡ Some k → is_fit (length k.sectors) (map step_of changes) ≡ true
may_change h room session write c revision changes sound is pays changed k found =
    let own : contract_among (written_revision h write c).parent h.state.contracts ≡ Some k = subst (λ (r : Revision). contract_among r.parent h.state.contracts ≡ Some k) pays found in
    ap (λ cs. is_fit (length k.sectors) (map step_of cs)) changed
    ∙ write_fits h room session write c (h.settings.sector * length (written_roots c write)) (node_root_of (written_roots c write)) h.settings.sector h.settings.host_key sound is k own

-- and the contract stores what it has
pub may_store : (h : Host) (room : Room) (session : ℕ) (write : Prepared) (c : Kept) (revision : Revision) (changes : List Change) (renter host : List ℕ) → IsSound h.settings.sector h.settings.host_key h.state.contracts → unrefused (write_fault h room write) (open_now h session) ≡ Ok c
    → revision ≡ written_revision h write c → changes ≡ written_changes room write
    → (k : Kept) → contract_among revision.parent h.state.contracts ≡ Some k → IsStored h.settings.sector h.settings.host_key (revised_contract revision renter host changes k)
may_store h room session write c revision changes renter host sound is pays changed k found =
    let own : contract_among (written_revision h write c).parent h.state.contracts ≡ Some k = subst (λ (r : Revision). contract_among r.parent h.state.contracts ≡ Some k) pays found in
    let stored = write_stores h room session write c renter host sound is k own in
    let with_changes = subst (λ (cs : List Change). IsStored h.settings.sector h.settings.host_key (revised_contract (written_revision h write c) renter host cs k)) (sym changed) stored in
    subst (λ (r : Revision). IsStored h.settings.sector h.settings.host_key (revised_contract r renter host changes k)) (sym pays) with_changes

-- the shelf has enough free slots

free_in : (fit : Bool) (paid : Option ℕ) (short : Bool) (c contract : Kept) → (unless (broken fit BAD_ACTION or_else paid or_else broken short STORE_FULL) >>= (λ _. Ok c)) ≡ Ok contract → short ≡ false
free_in fit paid false c contract is = refl
free_in true paid true c contract is = (cc)
free_in false (Some code) true c contract is = (cc)
free_in false None true c contract is = (cc)

-- a write that isn't refused finds a free slot for each sector that it puts
pub has_slots : (h : Host) (room : Room) (write : Prepared) (opened : Result Kept ℕ) (contract : Kept) → unrefused (write_fault h room write) opened ≡ Ok contract → length (sectors_of write) ≤ length room.free
has_slots h room write (Err code) contract is = (cc)
has_slots h room write (Ok c) contract is =
    ltb-false _ _ (free_in _ (unpaid h c (write_price write.request.actions) (write_payment write.request)) (nat_lt (length room.free) (length (sectors_of write))) c contract is)

-- the sectors that are put

-- one sector more is put
pub one_more_put : (slots others : List ℕ) (slot : ℕ) (bytes : List ℕ) (sectors : List (List ℕ)) (jobs now : List PutJob) → slots ≡ slot ∷ others → now ≡ jobs ++ record { slot = slot; bytes = bytes } ∷ []
    → now ++ put_jobs others sectors ≡ jobs ++ put_jobs slots (bytes ∷ sectors)
one_more_put slots others slot bytes sectors jobs now is grown =
    ap (λ front. front ++ put_jobs others sectors) grown ∙ append_assoc jobs (record { slot = slot; bytes = bytes } ∷ []) (put_jobs others sectors) ∙ ap (λ s. jobs ++ put_jobs s (bytes ∷ sectors)) (sym is)

-- none is put where none is left
pub nothing_put : (slots : List ℕ) (sectors : List (List ℕ)) (jobs : List PutJob) → length sectors ≡ 0 → jobs ++ put_jobs slots sectors ≡ jobs
nothing_put [] sectors jobs none = append-nil jobs
nothing_put (slot ∷ slots) [] jobs none = append-nil jobs
nothing_put (slot ∷ slots) (sector ∷ sectors) jobs none = absurd (let some : 0 < length (sector ∷ sectors) = omega arith in omega arith)

-- the answer to a signed write
pub write_follows : {E : Type 0} (accepts : List ℕ → List ℕ → List ℕ → Bool) (Signs : List ℕ → List ℕ → Type 0) (h : Host) (room : Room) (worker session : ℕ) (write : Prepared) (renter : List ℕ) (contract : Kept) (revision : Revision)
    (changes : List Change) (puts : List PutJob) (freed : List ℕ) (result : Result Step E) (after : Host)
    → unrefused (write_fault h room write) (open_now h session) ≡ Ok contract
    → revision ≡ written_revision h write contract
    → changes ≡ written_changes room write
    → puts ≡ put_jobs room.free (sectors_of write)
    → freed ≡ dropped contract.sectors (written_changes room write)
    → IfOk result (λ step. Gives (IsRevised accepts Signs h room (record { worker = worker; session = session; kind = kind.WriteSign }) contract.id contract.renter_key revision renter changes write_signed
    (record { puts = puts; fetch = None; freed = freed })) h step after)
    → IfOk result (λ step. Gives (IsWriteSigned accepts Signs h room worker session write renter) h step after)
write_follows accepts Signs h room worker session write renter contract revision changes puts freed result after opened pays changed put free gives =
    let call : Call = record { worker = worker; session = session; kind = kind.WriteSign } in
    let Paid = λ (r : Revision) (cs : List Change) (ps : List PutJob) (fs : List ℕ). IfOk result (λ step. Gives (IsRevised accepts Signs h room call contract.id contract.renter_key r renter cs write_signed
    (record { puts = ps; fetch = None; freed = fs })) h step after) in
    let own = subst (λ r. Paid r changes puts freed) pays gives in
    let with_changes = subst (λ cs. Paid (written_revision h write contract) cs puts freed) changed own in
    let with_puts = subst (λ ps. Paid (written_revision h write contract) (written_changes room write) ps freed) put with_changes in
    let with_all = subst (λ fs. Paid (written_revision h write contract) (written_changes room write) (put_jobs room.free (sectors_of write)) fs) free with_puts in
    follows_given h call (open_now h session) (write_fault h room write)
    (λ k a. IsRevised accepts Signs h room call k.id k.renter_key (written_revision h write k) renter (written_changes room write) write_signed (write_work room write k) a)
    contract result after opened with_all
