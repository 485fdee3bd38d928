-- The contract about which a session's request isn't refused.
use Rattle.std.proofs.Common.{◌≡◌, ◌∙◌, ℕ, List, Option, Some, None, Result, Ok, Err, refl, sym, subst, ap}
use Rattle.sia_encoding.specs.Answer.{◌>>=◌, unless}
use Rattle.sia_encoding.specs.Firsts.{broken}
use Rattle.sia_commands.specs.declared.codes.TheConstants.{CLEARED, WRONG_STATE}
use Rattle.sia_types.specs.declared.file_contracts.Revision.{Revision}
use Rattle.sia_price.specs.Payments.{revision_with}
use Rattle.sia_kept.specs.State.{Kept, IsSound, IsStored, contract_among}
use Rattle.sia_kept.proofs.Apart.{found_id}
use Rattle.sia_kept.proofs.Sound.{found_stores}
use Rattle.sia_host.specs.Answered.{Host, held_now, or_code}
use Rattle.sia_host.specs.Paying.{Payment, held_among, open_now, paid_revision, unrefused, was_cleared}
use Rattle.sia_host.proofs.Writable.{same_contract}

among_by : (contracts : List Kept) (id : List ℕ) (found : Option Kept) (c : Kept) → contract_among id contracts ≡ found → or_code WRONG_STATE found ≡ Ok c → contract_among c.id contracts ≡ Some c
among_by contracts id None c at is = (cc)
among_by contracts id (Some k) c at is =
    let same : k ≡ c = (cc) in
    let there : contract_among id contracts ≡ Some c = at ∙ ap Some same in
    subst (λ i. contract_among i contracts ≡ Some c) (sym (found_id id contracts c there)) there

held_by : (contracts : List Kept) (held : Option (List ℕ)) (c : Kept) → (or_code WRONG_STATE held >>= held_among contracts) ≡ Ok c → contract_among c.id contracts ≡ Some c
held_by contracts None c is = (cc)
held_by contracts (Some id) c is = among_by contracts id (contract_among id contracts) c refl is

-- it is one of the host's
pub opened_among : (h : Host) (session : ℕ) (c : Kept) → open_now h session ≡ Ok c → contract_among c.id h.state.contracts ≡ Some c
opened_among h session c = by (or_code WRONG_STATE (held_now h session) >>= held_among h.state.contracts) refl
  where
    by : (holds : Result Kept ℕ) → (or_code WRONG_STATE (held_now h session) >>= held_among h.state.contracts) ≡ holds
        → (holds >>= (λ k. unless (broken (was_cleared k) CLEARED) >>= (λ _. Ok k))) ≡ Ok c → contract_among c.id h.state.contracts ≡ Some c
    by (Err code) at is = (cc)
    by (Ok k) at is =
        let same : k ≡ c = same_contract (broken (was_cleared k) CLEARED) k c is in
        held_by h.state.contracts (held_now h session) c (at ∙ ap Ok same)

-- and so is one that isn't refused
pub unrefused_opened : (fault : Kept → Option ℕ) (opened : Result Kept ℕ) (c : Kept) → unrefused fault opened ≡ Ok c → opened ≡ Ok c
unrefused_opened fault (Err code) c is = (cc)
unrefused_opened fault (Ok k) c is = ap Ok (same_contract (fault k) k c is)

-- the revision that pays stores what the newest one does
pub paid_stores : (h : Host) (session : ℕ) (fault : Kept → Option ℕ) (c : Kept) (p : Payment) (sector : ℕ) (host_key : List ℕ) → IsSound sector host_key h.state.contracts → unrefused fault (open_now h session) ≡ Ok c
    → (k : Kept) → contract_among (paid_revision c p c.newest.size c.newest.root).parent h.state.contracts ≡ Some k → IsStored sector host_key (record k { newest = paid_revision c p c.newest.size c.newest.root })
unfolding revision_with
paid_stores h session fault c p sector host_key sound is k found =
    let there : contract_among c.id h.state.contracts ≡ Some c = opened_among h session c (unrefused_opened fault (open_now h session) c is) in
    let stored : IsStored sector host_key c = found_stores sector host_key c.id h.state.contracts c sound.stored there in
    let mine : contract_among c.id h.state.contracts ≡ Some k = subst (λ id. contract_among id h.state.contracts ≡ Some k) stored.parent found in
    let same : Some k ≡ Some c = sym mine ∙ there in
    let one : k ≡ c = (cc) in
    subst (λ x. IsStored sector host_key (record x { newest = paid_revision c p c.newest.size c.newest.root })) (sym one)
    (record { id = stored.id; parent = stored.parent; address = stored.address; few = stored.few; size = stored.size; root = stored.root })

-- as does one that is the same
pub same_stores : (h : Host) (fault : Kept → Option ℕ) (c : Kept) (p : Payment) (session : ℕ) (revision : Revision) → IsSound h.settings.sector h.settings.host_key h.state.contracts → unrefused fault (open_now h session) ≡ Ok c
    → revision ≡ paid_revision c p c.newest.size c.newest.root
    → (k : Kept) → contract_among revision.parent h.state.contracts ≡ Some k → IsStored h.settings.sector h.settings.host_key (record k { newest = revision })
same_stores h fault c p session revision sound is pays =
    subst (λ (r : Revision). (k : Kept) → contract_among r.parent h.state.contracts ≡ Some k → IsStored h.settings.sector h.settings.host_key (record k { newest = r })) (sym pays) (paid_stores h session fault c p h.settings.sector h.settings.host_key sound is)
