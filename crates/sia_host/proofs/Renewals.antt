-- A renewal that isn't refused clears the contract that the session holds, and the new one stores its sectors.
use Rattle.std.proofs.Common.{◌≡◌, ◌∙◌, ◌*◌, ◌-◌, ◌^◌, ◌≤◌, ◌&&◌, ℕ, Bool, true, false, List, [], ◌∷◌, All, length, map, Option, Some, None, Result, Ok, Err, refl, sym, subst, ap, arith}
use Rattle.std.specs.Prelude.{IfOk, IsSome}
use Rattle.std.proofs.lemmas.List.Elements.{All-cons, All-nil}
use Rattle.std.proofs.Math.Nat.{mul-zero}
use Rattle.sia_encoding.specs.declared.limits.TheConstants.{CONTRACT_SECTORS}
use Rattle.sia_encoding.specs.Answer.{◌>>=◌, unless}
use Rattle.sia_encoding.specs.Firsts.{broken}
use Rattle.sia_merkle.specs.Roots.{node_root_of}
use Rattle.sia_types.specs.declared.file_contracts.FileContract.{FileContract}
use Rattle.sia_types.specs.declared.file_contracts.Revision.{Revision}
use Rattle.sia_types.specs.declared.settings.Settings.{Settings}
use Rattle.sia_types.specs.declared.signature.Signature.{Signature}
use Rattle.sia_types.specs.declared.transaction.Transaction.{Transaction}
use Rattle.sia_types.specs.FileContracts.{revision}
use Rattle.sia_forms.specs.declared.fault.FormFault.{FormFault}
use Rattle.sia_forms.specs.declared.funding.Additions.{Additions}
use Rattle.sia_forms.specs.Building.{finished}
use Rattle.sia_forms.specs.Checks.{asked_to_renew, contract_answer, has_no_other_part, is_cleared, one_contract, renew_answer}
use Rattle.sia_forms.specs.Parties.{both_address}
use Rattle.sia_forms.specs.Renewing.{clearing}
use Rattle.sia_commands.specs.declared.codes.TheConstants.{CLEARED, TOO_LATE, WRONG_STATE}
use Rattle.sia_records.specs.Stored.{Stored}
use Rattle.sia_kept.specs.State.{Kept, IsSound, IsStored, after_renewal, cleared_by, contract_among, first_revision, formed_by, new_contract, root_in}
use Rattle.sia_kept.proofs.Cleared.{cleared_alone}
use Rattle.sia_kept.proofs.Sound.{PassesOn, found_stores, sound_renewed}
use Rattle.sia_host.specs.Answered.{Host, held_now, or_code, settings_now}
use Rattle.sia_host.specs.Forming.{by_terms, funded}
use Rattle.sia_host.specs.Paying.{held_among, is_late, open_now, was_cleared}
use Rattle.sia_host.specs.declared.refusal.Refusal.{Refusal}
use Rattle.sia_host.specs.Proposals.{IsAddition, Proposes}
use Rattle.sia_host.specs.Renewing.{renew_judged, renewal_terms}
use Rattle.sia_host.proofs.Opened.{opened_among}
use Rattle.sia_host.proofs.Sound.{Begun, added_new, begins_as_asked, begun_so, length-contract_id, no_root, whole_contracts, whole_new}

-- a renewal that isn't refused, and the contract that it renews
pub record Renews (h : Host) (session : ℕ) (tx : Transaction) : Type 0 where
  pub old : Kept
  pub collateral : ℕ
  pub opened : open_now h session ≡ Ok old
  pub early : is_late h old ≡ false
  pub answered : renew_answer tx old.newest (settings_now h) ≡ Ok collateral

pub judged_renews : (h : Host) (session : ℕ) (tx : Transaction) (collateral : ℕ) → renew_judged h session tx ≡ Ok collateral → Renews h session tx
judged_renews h session tx collateral = by (open_now h session) refl
  where
    terms : (c : Kept) (late : Bool) (answer : Result ℕ FormFault) → open_now h session ≡ Ok c → is_late h c ≡ late → renew_answer tx c.newest (settings_now h) ≡ answer
        → ((unless (broken late TOO_LATE) >>= (λ _. by_terms answer)) >>= funded h) ≡ Ok collateral → Renews h session tx
    terms c true answer opened early at is = (cc)
    terms c false (Err fault) opened early at is = (cc)
    terms c false (Ok found) opened early at is = record { old = c; collateral = found; opened = opened; early = early; answered = at }

    by : (opened : Result Kept ℕ) → open_now h session ≡ opened → ((opened >>= renewal_terms h tx) >>= funded h) ≡ Ok collateral → Renews h session tx
    by (Err code) at is = (cc)
    by (Ok c) at is = terms c (is_late h c) (renew_answer tx c.newest (settings_now h)) at refl refl is

-- so is one to which the host adds its part
added_renews : (h : Host) (session : ℕ) (tx : Transaction) (added : Additions) → IsAddition h tx (renew_judged h session tx) added → Renews h session tx
added_renews h session tx added = by (renew_judged h session tx) refl
  where
    by : (judged : Result ℕ ℕ) → renew_judged h session tx ≡ judged → IsAddition h tx judged added → Renews h session tx
    by (Err code) at is = elim is [ ]
    by (Ok collateral) at is = judged_renews h session tx collateral at

-- a session whose contract is open holds one
open_held : (h : Host) (session : ℕ) (c : Kept) → open_now h session ≡ Ok c → IsSome (held_now h session)
open_held h session c = by (held_now h session)
  where
    by : (held : Option (List ℕ)) → ((or_code WRONG_STATE held >>= held_among h.state.contracts) >>= (λ k. unless (broken (was_cleared k) CLEARED) >>= (λ _. Ok k))) ≡ Ok c → IsSome held
    by None is = (cc)
    by (Some id) is = refl

renewed_held : (h : Host) (session : ℕ) (tx : Transaction) (added : Additions) → IsAddition h tx (renew_judged h session tx) added → IsSome (held_now h session)
renewed_held h session tx added is = let r = added_renews h session tx added is in open_held h session r.old r.opened

-- the one contract of a renewal begins with what the old one stores
renew_begins : (tx : Transaction) (newest : Revision) (s : Settings) (collateral : ℕ) → renew_answer tx newest s ≡ Ok collateral → Begun tx newest.size newest.root newest.address
unfolding renew_answer
renew_begins tx newest s collateral = by (is_cleared newest tx.revisions && has_no_other_part tx) tx.contracts refl
  where
    by : (fit : Bool) (cs : List FileContract) → tx.contracts ≡ cs → (one_contract fit cs >>= (λ c. contract_answer s (asked_to_renew s newest c) c)) ≡ Ok collateral → Begun tx newest.size newest.root newest.address
    by true [] one is = (cc)
    by true (c ∷ []) one is = begun_so tx newest.size newest.root newest.address c one (begins_as_asked s (asked_to_renew s newest c) c collateral is)
    by true (c ∷ other ∷ more) one is = (cc)
    by false cs one is = (cc)

-- and its revision clears
renew_clears : (tx : Transaction) (newest : Revision) (s : Settings) (collateral : ℕ) → renew_answer tx newest s ≡ Ok collateral → is_cleared newest tx.revisions ≡ true
unfolding renew_answer
renew_clears tx newest s collateral = by (is_cleared newest tx.revisions) (has_no_other_part tx) tx.contracts
  where
    by : (clears fit : Bool) (cs : List FileContract) → (one_contract (clears && fit) cs >>= (λ c. contract_answer s (asked_to_renew s newest c) c)) ≡ Ok collateral → clears ≡ true
    by true fit cs is = refl
    by false fit cs is = (cc)

-- the new contract stores the sectors that pass on
begun_stored : (sector : ℕ) (host_key renter_key : List ℕ) (tx : Transaction) (sectors : List Stored) (terms : FileContract) → length sectors ≤ CONTRACT_SECTORS → terms.size ≡ sector * length sectors
    → terms.root ≡ node_root_of (map root_in sectors) → terms.address ≡ both_address renter_key host_key → IsStored sector host_key (new_contract host_key renter_key tx sectors terms)
unfolding new_contract first_revision
begun_stored sector host_key renter_key tx sectors terms few size root address = record { id = length-contract_id tx; parent = refl; address = address; few = few; size = size; root = root }

-- the old one stores nothing any more
cleared_stored : (sector : ℕ) (host_key : List ℕ) (tx : Transaction) (old : Kept) → IsStored sector host_key old → IsStored sector host_key (cleared_by tx (clearing old.newest) old)
unfolding clearing
cleared_stored sector host_key tx old stored = record { id = stored.id; parent = stored.parent; address = stored.address; few = omega arith; size = sym (mul-zero sector); root = sym no_root }

-- so the sectors pass on
pub passes_on : (sector : ℕ) (host_key : List ℕ) (tx : Transaction) (old : Kept) → IsStored sector host_key old → Begun tx old.newest.size old.newest.root (both_address old.renter_key host_key) → PassesOn sector host_key tx (clearing old.newest) old
passes_on sector host_key tx old stored begun =
    let one : IsStored sector host_key (new_contract host_key old.renter_key tx old.sectors begun.terms) =
    begun_stored sector host_key old.renter_key tx old.sectors begun.terms stored.few (begun.sized ∙ stored.size) (begun.rooted ∙ stored.root) begun.addressed in
    record {
      cleared = cleared_stored sector host_key tx old stored;
      renewed = subst (λ cs. All (IsStored sector host_key) (formed_by host_key old.renter_key tx old.sectors cs)) (sym begun.one) (All-cons (IsStored sector host_key) (new_contract host_key old.renter_key tx old.sectors begun.terms) [] one (All-nil (IsStored sector host_key)));
    }

-- the clearing revision is of the contract that it clears
pub same_parent : (newest : Revision) → (clearing newest).parent ≡ newest.parent
unfolding clearing
same_parent newest = refl

-- the contract of the clearing revision is the one that the session holds
pub is_old : (contracts : List Kept) (old c : Kept) → contract_among old.id contracts ≡ Some old → old.newest.parent ≡ old.id → contract_among (clearing old.newest).parent contracts ≡ Some c → c ≡ old
is_old contracts old c there own found =
    let mine : contract_among old.id contracts ≡ Some c = subst (λ id. contract_among id contracts ≡ Some c) (same_parent old.newest ∙ own) found in
    let same : Some c ≡ Some old = sym mine ∙ there in
    (cc)

-- a host stays sound with a renewal, whoever signs it
renewal_sound : (h : Host) (session : ℕ) (tx : Transaction) (added : Additions) → IsSound h.settings.sector h.settings.host_key h.state.contracts → IsAddition h tx (renew_judged h session tx) added
    → ((c : Kept) → open_now h session ≡ Ok c → tx.revisions ≡ clearing c.newest ∷ [])
    → (renter host : List Signature) → IsSound h.settings.sector h.settings.host_key (after_renewal h.settings.host_key (finished tx added renter host) h.state.contracts tx.revisions)
renewal_sound h session tx added sound is clears renter host =
    let r = added_renews h session tx added is in
    let whole = finished tx added renter host in
    let there : contract_among r.old.id h.state.contracts ≡ Some r.old = opened_among h session r.old r.opened in
    let stored : IsStored h.settings.sector h.settings.host_key r.old = found_stores h.settings.sector h.settings.host_key r.old.id h.state.contracts r.old sound.stored there in
    let begun = renew_begins tx r.old.newest (settings_now h) r.collateral r.answered in
    let whole_begun : Begun whole r.old.newest.size r.old.newest.root (both_address r.old.renter_key h.settings.host_key) =
    record { terms = begun.terms; one = whole_contracts tx added renter host whole refl ∙ begun.one; sized = begun.sized; rooted = begun.rooted; addressed = begun.addressed ∙ stored.address } in
    let passes : (c : Kept) → contract_among (clearing r.old.newest).parent h.state.contracts ≡ Some c → PassesOn h.settings.sector h.settings.host_key whole (clearing r.old.newest) c =
    λ c found. subst (PassesOn h.settings.sector h.settings.host_key whole (clearing r.old.newest)) (sym (is_old h.state.contracts r.old c there stored.parent found)) (passes_on h.settings.sector h.settings.host_key whole r.old stored whole_begun) in
    subst (λ rs. IsSound h.settings.sector h.settings.host_key (after_renewal h.settings.host_key whole h.state.contracts rs)) (sym (clears r.old r.opened))
    (sound_renewed h.settings.sector h.settings.host_key whole h.state.contracts (clearing r.old.newest) sound (whole_new h tx added renter host whole (added_new h tx (renew_judged h session tx) added is) refl) passes)

-- so it does where a proposal is answered with what the host adds
pub proposed_sound : (h : Host) (session : ℕ) (tx : Transaction) (result : Result Additions Refusal) → IsSound h.settings.sector h.settings.host_key h.state.contracts → Proposes h tx (renew_judged h session tx) result
    → ((c : Kept) → open_now h session ≡ Ok c → tx.revisions ≡ clearing c.newest ∷ [])
    → IfOk result (λ added. (renter host : List Signature) → IsSound h.settings.sector h.settings.host_key (after_renewal h.settings.host_key (finished tx added renter host) h.state.contracts tx.revisions))
proposed_sound h session tx (Ok added) sound is clears = renewal_sound h session tx added sound is clears
proposed_sound h session tx (Err refusal) sound is clears = tt

pub proposed_held : (h : Host) (session : ℕ) (tx : Transaction) (result : Result Additions Refusal) → Proposes h tx (renew_judged h session tx) result → IfOk result (λ _. IsSome (held_now h session))
proposed_held h session tx (Ok added) is = renewed_held h session tx added is
proposed_held h session tx (Err refusal) is = tt

-- the revision of a renewal whose terms are what the host asks for clears the contract that is open
pub terms_clear : (tx : Transaction) (s : Settings) (collateral : ℕ) (opened : Result Kept ℕ) (contract : Kept) (newest : Revision) → opened ≡ Ok contract → newest ≡ contract.newest
    → revision.fits (2 ^ 64 - 1) newest → All (revision.fits (2 ^ 64 - 1)) tx.revisions → renew_answer tx newest s ≡ Ok collateral → (c : Kept) → opened ≡ Ok c → tx.revisions ≡ clearing c.newest ∷ []
terms_clear tx s collateral opened contract newest is same fits all answered c at =
    let one : contract ≡ c = (cc) in
    let own : newest ≡ c.newest = same ∙ ap (λ (k : Kept). k.newest) one in
    cleared_alone newest tx.revisions fits all (renew_clears tx newest s collateral answered) ∙ ap (λ r. clearing r ∷ []) own

-- the whole transaction has the revisions of the proposal
pub whole_sound : (sector : ℕ) (host_key : List ℕ) (contracts : List Kept) (tx : Transaction) (added : Additions) (renter host : List Signature) (whole : Transaction) → whole ≡ finished tx added renter host
    → IsSound sector host_key (after_renewal host_key (finished tx added renter host) contracts tx.revisions) → IsSound sector host_key (after_renewal host_key whole contracts whole.revisions)
unfolding finished
whole_sound sector host_key contracts tx added renter host whole is sound = subst (λ (t : Transaction). IsSound sector host_key (after_renewal host_key t contracts t.revisions)) (sym is) sound
