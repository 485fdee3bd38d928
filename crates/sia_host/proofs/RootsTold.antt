-- The answers by a revision that both parties sign.
use Rattle.std.proofs.Common.{◌≡◌, ◌∙◌, ◌+◌, ℕ, Bool, true, List, [], length, map, Some, None, Result, Ok, IfOk, ap, subst, sym}
use Rattle.sia_diff.specs.DiffSteps.{is_fit}
use Rattle.sia_types.specs.declared.file_contracts.Revision.{Revision}
use Rattle.sia_range.specs.Ranges.{part_between, roots_outside}
use Rattle.sia_rhp.specs.declared.answer.Answer.TheVariants as answer
use Rattle.sia_rhp.specs.declared.request_bodies.PaidRoots.{PaidRoots}
use Rattle.sia_records.specs.declared.change.Change.{Change}
use Rattle.sia_records.specs.declared.host_record.HostRecord.TheVariants as records
use Rattle.sia_records.specs.Stored.{step_of}
use Rattle.sia_commands.specs.declared.call.Call.{Call}
use Rattle.sia_commands.specs.declared.event.Kind.TheVariants as kind
use Rattle.sia_commands.specs.declared.reply.Reply.{Reply}
use Rattle.sia_commands.specs.declared.reply.Reply.TheVariants as reply
use Rattle.sia_commands.specs.declared.step.Room.{Room}
use Rattle.sia_commands.specs.declared.step.Step.{Step}
use Rattle.sia_host.specs.Answered.{Gives, Host, IsReaction, Work, no_work}
use Rattle.sia_host.specs.Paying.{IsRevised, open_now, paid_revision, revised_unless, revising_fault, revision_hash, unrefused}
use Rattle.sia_host.specs.Reading.{AreRoots, roots_fault, roots_payment, roots_said}
use Rattle.sia_kept.specs.State.{IsStored, Kept, contract_among, revised_contract, roots_of}
use Rattle.sia_kept.proofs.Sound.{nothing_fits, stored_same}
use Rattle.sia_host.specs.declared.revising.ShelfWork.{ShelfWork}
use Rattle.sia_host.proofs.Given.{given_so}
use Rattle.sia_host.proofs.Held.{follows_given}

-- what is replied has a copy of the host's signature
pub revised_so : {E : Type 0} (accepts : List ℕ → List ℕ → List ℕ → Bool) (Signs : List ℕ → List ℕ → Type 0) (h : Host) (room : Room) (call : Call) (id renter_key : List ℕ) (revision : Revision) (renter host : List ℕ)
    (changes : List Change) (said : List ℕ → Reply) (reply : Reply) (work : Work) (result : Result Step E) (after : Host)
    → Signs (revision_hash revision 1) host → reply ≡ said host
    → IfOk result (λ step. IsReaction h (revised_unless h call id reply (records.Revised revision renter host changes) work (revising_fault accepts room renter_key revision renter (records.Revised revision renter host changes))) step after)
    → IfOk result (λ step. Gives (IsRevised accepts Signs h room call id renter_key revision renter changes said work) h step after)
revised_so accepts Signs h room call id renter_key revision renter host changes said reply work result after signs is gives =
    let made = records.Revised revision renter host changes in
    let fault = revising_fault accepts room renter_key revision renter made in
    given_so (IsRevised accepts Signs h room call id renter_key revision renter changes said work) h (revised_unless h call id reply made work fault) result after
    (host, signs, ap (λ r. revised_unless h call id r made work fault) is) gives

-- where no sector is changed and nothing is left to be done
pub revised_plainly : {E : Type 0} (accepts : List ℕ → List ℕ → List ℕ → Bool) (Signs : List ℕ → List ℕ → Type 0) (h : Host) (room : Room) (call : Call) (id renter_key : List ℕ) (revision : Revision) (renter host : List ℕ)
    (changes : List Change) (said : List ℕ → Reply) (reply : Reply) (work : ShelfWork) (result : Result Step E) (after : Host)
    → changes ≡ [] → work ≡ record { puts = []; freed = [] } → Signs (revision_hash revision 1) host → reply ≡ said host
    → IfOk result (λ step. IsReaction h (revised_unless h call id reply (records.Revised revision renter host changes) (record { puts = work.puts; fetch = None; freed = work.freed }) (revising_fault accepts room renter_key revision renter (records.Revised revision renter host changes))) step after)
    → IfOk result (λ step. Gives (IsRevised accepts Signs h room call id renter_key revision renter [] said no_work) h step after)
revised_plainly accepts Signs h room call id renter_key revision renter host changes said reply work result after none nothing signs is gives =
    let Revised = λ (cs : List Change) (w : ShelfWork). IfOk result (λ step. Gives (IsRevised accepts Signs h room call id renter_key revision renter cs said (record { puts = w.puts; fetch = None; freed = w.freed })) h step after) in
    let so : Revised changes work = revised_so accepts Signs h room call id renter_key revision renter host changes said reply (record { puts = work.puts; fetch = None; freed = work.freed }) result after signs is gives in
    let unchanged : Revised [] work = subst (λ cs. Revised cs work) none so in
    subst (λ w. Revised [] w) nothing unchanged

-- no change is fit for the contract that such a revision is of
pub plain_fits : (h : Host) (revision : Revision) (changes : List Change) → changes ≡ []
    → ((c : Kept) → contract_among revision.parent h.state.contracts ≡ Some c → IsStored h.settings.sector h.settings.host_key (record c { newest = revision }))
    → (c : Kept) → contract_among revision.parent h.state.contracts ≡ Some c → is_fit (length c.sectors) (map step_of changes) ≡ true
plain_fits h revision changes none stores c found =
    ap (λ cs. is_fit (length c.sectors) (map step_of cs)) none ∙ nothing_fits (length c.sectors) (stores c found).few

-- and the contract stores what it did
pub plain_stores : (h : Host) (revision : Revision) (renter host : List ℕ) (changes : List Change) → changes ≡ []
    → ((c : Kept) → contract_among revision.parent h.state.contracts ≡ Some c → IsStored h.settings.sector h.settings.host_key (record c { newest = revision }))
    → (c : Kept) → contract_among revision.parent h.state.contracts ≡ Some c → IsStored h.settings.sector h.settings.host_key (revised_contract revision renter host changes c)
plain_stores h revision renter host changes none stores c found =
    subst (λ (cs : List Change). IsStored h.settings.sector h.settings.host_key (revised_contract revision renter host cs c)) (sym none) (stored_same h.settings.sector h.settings.host_key revision renter host c (stores c found))

-- roots that are told by a revision that pays for them
pub roots_follow : {E : Type 0} (accepts : List ℕ → List ℕ → List ℕ → Bool) (Signs : List ℕ → List ℕ → Type 0) (h : Host) (room : Room) (worker session : ℕ) (request : PaidRoots) (contract : Kept) (revision : Revision)
    (roots hashes : List (List ℕ)) (result : Result Step E) (after : Host)
    → unrefused (roots_fault h request) (open_now h session) ≡ Ok contract
    → revision ≡ paid_revision contract (roots_payment request) contract.newest.size contract.newest.root
    → roots ≡ part_between request.first (request.first + request.count) (roots_of contract)
    → hashes ≡ roots_outside (roots_of contract) (length (roots_of contract)) request.first (request.first + request.count)
    → IfOk result (λ step. Gives (IsRevised accepts Signs h room (record { worker = worker; session = session; kind = kind.Roots }) contract.id contract.renter_key revision request.signature []
    (λ host. reply.Said (answer.Roots (record { signature = host; roots = roots; hashes = hashes }))) no_work) h step after)
    → IfOk result (λ step. Gives (AreRoots accepts Signs h room worker session request) h step after)
roots_follow accepts Signs h room worker session request contract revision roots hashes result after opened pays told proved gives =
    let call : Call = record { worker = worker; session = session; kind = kind.Roots } in
    let Paid = λ (r : Revision) (xs ys : List (List ℕ)). IfOk result (λ step. Gives (IsRevised accepts Signs h room call contract.id contract.renter_key r request.signature []
    (λ host. reply.Said (answer.Roots (record { signature = host; roots = xs; hashes = ys }))) no_work) h step after) in
    let own = subst (λ r. Paid r roots hashes) pays gives in
    let with_roots = subst (λ xs. Paid (paid_revision contract (roots_payment request) contract.newest.size contract.newest.root) xs hashes) told own in
    let with_all = subst (λ ys. Paid (paid_revision contract (roots_payment request) contract.newest.size contract.newest.root) (part_between request.first (request.first + request.count) (roots_of contract)) ys) proved with_roots in
    follows_given h call (open_now h session) (roots_fault h request)
    (λ k a. IsRevised accepts Signs h room call k.id k.renter_key (paid_revision k (roots_payment request) k.newest.size k.newest.root) request.signature [] (roots_said k request) no_work a)
    contract result after opened with_all
