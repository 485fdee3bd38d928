-- A record that follows keeps the host sound.
use Rattle.std.proofs.Common.{◌≡◌, ◌∙◌, ◌*◌, ◌^◌, ◌<◌, ◌≤◌, ℕ, Bool, true, false, not, ◌&&◌, ◌==◌, List, [], ◌∷◌, All, length, map, Some, Result, Ok, Err, IfOk, refl, sym, ap, subst, arith}
use Rattle.std.specs.Prelude.{nat_le}
use Rattle.std.specs.Option.{is_none}
use Rattle.std.proofs.Math.Nat.{mul-le-mul_left, pow-le-pow_right}
use Rattle.std.proofs.lemmas.Bool.{eqb-true}
use Rattle.std.proofs.lemmas.List.{length-map}
use Rattle.std.proofs.lemmas.List.Elements.{All-cons, All-nil}
use Rattle.sia_encoding.specs.declared.limits.TheConstants.{ACTIONS}
use Rattle.sia_merkle.specs.Roots.{node_root_of}
use Rattle.sia_diff.specs.DiffSteps.{count_after, is_fit}
use Rattle.sia_diff.proofs.Counts.{left_of_and, right_of_and}
use Rattle.sia_diff.proofs.Fit.{fit_count, fit_done}
use Rattle.sia_diff.proofs.Moves.{count_bound, length_after}
use Rattle.sia_types.specs.FileContracts.{revision as revision_codec}
use Rattle.sia_types.specs.declared.file_contracts.FileContract.{FileContract}
use Rattle.sia_types.specs.declared.file_contracts.Revision.{Revision}
use Rattle.sia_types.specs.declared.transaction.Transaction.{Transaction}
use Rattle.sia_ids.specs.Transactions.{contract_id}
use Rattle.sia_price.specs.Payments.{has_same_counts, has_same_sums, revision_with}
use Rattle.sia_forms.specs.Checks.{begins_with, is_cleared, is_spelled_as, pays_parties}
use Rattle.sia_forms.specs.Parties.{both_address, zero_hash}
use Rattle.sia_forms.specs.Renewing.{clearing}
use Rattle.sia_ledger.specs.Refusal.{set_refusal}
use Rattle.sia_records.specs.declared.change.Change.{Change}
use Rattle.sia_records.specs.Stored.{step_of, stored_after}
use Rattle.sia_records.proofs.Roots.{roots_after}
use Rattle.sia_kept.specs.State.{Kept, IsSound, IsStored, after_renewal, contract_among, formed_by, is_among, new_contract, revised_contract, root_in, roots_of}
use Rattle.sia_kept.proofs.Apart.{found_id}
use Rattle.sia_kept.proofs.Sound.{PassesOn, found_stores, sound_renewed, stored_same}
use Rattle.sia_host.specs.Answered.{Host}
use Rattle.sia_host.specs.Paying.{Payment, is_late, is_low, paid_revision, signs_revision, was_cleared}
use Rattle.sia_host.specs.Replaying.{begins_so, changed_roots, changes_fit, expected, formed_replays, has_coins_alone, is_new, payment_in, renewal_pays, renews_contract, renews_so, revises_contract, takes_least}
use Rattle.sia_host.proofs.Renewals.{is_old, passes_on}
use Rattle.sia_host.proofs.Sound.{Begun, begun_so, empty_stored}

-- formations

not_true : (b : Bool) → not b ≡ true → b ≡ false
not_true true is = (cc)
not_true false is = refl

-- a transaction that is new forms a contract that isn't known
pub new_apart : (accepts : List ℕ → List ℕ → List ℕ → Bool) (h : Host) (tx : Transaction) → is_new accepts h tx ≡ true → is_among (contract_id tx 0) h.state.contracts ≡ false
new_apart accepts h tx is = not_true (is_among (contract_id tx 0) h.state.contracts) (left_of_and (not (is_among (contract_id tx 0) h.state.contracts)) (is_none (set_refusal accepts h.state.chain tx)) is)

-- a formation that follows is new
pub formed_new : (accepts : List ℕ → List ℕ → List ℕ → Bool) (h : Host) (renter_key : List ℕ) (tx : Transaction) → formed_replays accepts h renter_key tx ≡ true → is_among (contract_id tx 0) h.state.contracts ≡ false
formed_new accepts h renter_key tx is = new_apart accepts h tx (right_of_and ((length tx.revisions == 0) && has_coins_alone tx && begins_so h renter_key tx.contracts) (is_new accepts h tx) is)

-- and its contract stores nothing
pub formed_stores : (accepts : List ℕ → List ℕ → List ℕ → Bool) (h : Host) (renter_key : List ℕ) (tx : Transaction) → formed_replays accepts h renter_key tx ≡ true
    → All (IsStored h.settings.sector h.settings.host_key) (formed_by h.settings.host_key renter_key tx [] tx.contracts)
formed_stores accepts h renter_key tx is =
    by tx.contracts refl (right_of_and ((length tx.revisions == 0) && has_coins_alone tx) (begins_so h renter_key tx.contracts)
    (left_of_and ((length tx.revisions == 0) && has_coins_alone tx && begins_so h renter_key tx.contracts) (is_new accepts h tx) is))
  where
    Stores : Kept → Type 0
    Stores = IsStored h.settings.sector h.settings.host_key

    by : (contracts : List FileContract) → tx.contracts ≡ contracts → begins_so h renter_key contracts ≡ true → All Stores (formed_by h.settings.host_key renter_key tx [] contracts)
    by [] one begins = (cc)
    by (c ∷ []) one begins =
        let address = both_address renter_key h.settings.host_key in
        let begun = begun_so tx 0 zero_hash address c one (left_of_and (begins_with 0 zero_hash address c) (pays_parties h.settings 0 c.valid c.missed) begins) in
        let same : (c ∷ []) ≡ (begun.terms ∷ []) = sym one ∙ begun.one in
        let one = new_contract h.settings.host_key renter_key tx [] begun.terms in
        subst (λ cs. All Stores (formed_by h.settings.host_key renter_key tx [] cs)) (sym same) (All-cons Stores one [] (empty_stored h.settings.sector h.settings.host_key renter_key tx begun.terms begun.sized begun.rooted begun.addressed) (All-nil Stores))
    by (c ∷ other ∷ more) one begins = (cc)

-- revisions

-- fit changes are fit steps
pub fit_steps : (h : Host) (c : Kept) (done : List Change) → changes_fit h c done ≡ true → is_fit (length c.sectors) (map step_of done) ≡ true
fit_steps h c done fit =
    right_of_and (nat_le (length done) ACTIONS) (is_fit (length c.sectors) (map step_of done)) (left_of_and (nat_le (length done) ACTIONS && is_fit (length c.sectors) (map step_of done)) (takes_least h done) fit)

-- the changes of a revision that follows are fit
pub revises_fit : (accepts : List ℕ → List ℕ → List ℕ → Bool) (h : Host) (revision : Revision) (renter : List ℕ) (done : List Change) (c : Kept) → revises_contract accepts h revision renter done c ≡ true
    → is_fit (length c.sectors) (map step_of done) ≡ true
revises_fit accepts h revision renter done c is =
    let p = payment_in revision in
    let before = not (was_cleared c) && not (is_late h c) && not (is_low c revision.number) && has_same_counts c.newest p.valid p.missed && has_same_sums c.newest p.valid p.missed in
    let spelled = is_spelled_as revision_codec revision (expected h c p done) in
    let fit : changes_fit h c done ≡ true =
    right_of_and before (changes_fit h c done) (left_of_and (before && changes_fit h c done) spelled (left_of_and (before && changes_fit h c done && spelled) (signs_revision accepts c.renter_key revision renter) is)) in
    fit_steps h c done fit

-- there are no more roots than a contract may have
pub few_changed : (c : Kept) (done : List Change) → is_fit (length c.sectors) (map step_of done) ≡ true → length (changed_roots c done) ≤ 65536
few_changed c done fits =
    let few : length c.sectors ≤ 65536 = fit_count (length c.sectors) (map step_of done) fits in
    let all = fit_done (length c.sectors) (map step_of done) fits in
    let many : length (changed_roots c done) ≡ count_after (length c.sectors) (map step_of done) = length_after (roots_of c) (map step_of done) (length c.sectors) (length-map c.sectors root_in) all in
    let bound : count_after (length c.sectors) (map step_of done) ≤ 65536 = count_bound (length c.sectors) (map step_of done) few all in
    omega arith

-- and as many sectors as roots
count_changed : (c : Kept) (done : List Change) → length (stored_after c.sectors done) ≡ length (changed_roots c done)
count_changed c done = sym (length-map (stored_after c.sectors done) root_in) ∙ ap length (roots_after c.sectors done)

-- the revision that changes make stores what they make of the sectors
pub expected_stores : (h : Host) (revision : Revision) (renter host : List ℕ) (done : List Change) (c : Kept) (p : Payment) → IsStored h.settings.sector h.settings.host_key c → revision.parent ≡ c.id
    → is_fit (length c.sectors) (map step_of done) ≡ true → revision ≡ expected h c p done → IsStored h.settings.sector h.settings.host_key (revised_contract revision renter host done c)
unfolding revision_with
expected_stores h revision renter host [] c p stored parent fits is =
    stored_same h.settings.sector h.settings.host_key revision renter host c (record {
      id = stored.id;
      parent = parent;
      address = ap (λ (r : Revision). r.address) is ∙ stored.address;
      few = stored.few;
      size = ap (λ (r : Revision). r.size) is ∙ stored.size;
      root = ap (λ (r : Revision). r.root) is ∙ stored.root;
    })
expected_stores h revision renter host (one ∷ others) c p stored parent fits is =
    let many = count_changed c (one ∷ others) in
    let few = few_changed c (one ∷ others) fits in
    record {
      id = stored.id;
      parent = parent;
      address = ap (λ (r : Revision). r.address) is ∙ stored.address;
      few = omega (arith, many, few);
      size = ap (λ (r : Revision). r.size) is ∙ ap (λ n. h.settings.sector * n) (sym many);
      root = ap (λ (r : Revision). r.root) is ∙ ap node_root_of (sym (roots_after c.sectors (one ∷ others)));
    }

-- a revision that follows is of a contract whose sectors its changes fit
pub follows_fit : (accepts : List ℕ → List ℕ → List ℕ → Bool) (h : Host) (revision : Revision) (renter : List ℕ) (done : List Change) (found c : Kept) → contract_among revision.parent h.state.contracts ≡ Some found
    → revises_contract accepts h revision renter done found ≡ true → contract_among revision.parent h.state.contracts ≡ Some c → is_fit (length c.sectors) (map step_of done) ≡ true
follows_fit accepts h revision renter done found c at is there =
    let some : Some found ≡ Some c = sym at ∙ there in
    let same : found ≡ c = (cc) in
    subst (λ (k : Kept). is_fit (length k.sectors) (map step_of done) ≡ true) same (revises_fit accepts h revision renter done found is)

-- and stores what they make of them
pub follows_stores : (accepts : List ℕ → List ℕ → List ℕ → Bool) (h : Host) (revision : Revision) (renter host : List ℕ) (done : List Change) (found c : Kept) → IsSound h.settings.sector h.settings.host_key h.state.contracts
    → contract_among revision.parent h.state.contracts ≡ Some found → revises_contract accepts h revision renter done found ≡ true → revision ≡ expected h found (payment_in revision) done
    → contract_among revision.parent h.state.contracts ≡ Some c → IsStored h.settings.sector h.settings.host_key (revised_contract revision renter host done c)
follows_stores accepts h revision renter host done found c sound at is made there =
    let some : Some found ≡ Some c = sym at ∙ there in
    let same : found ≡ c = (cc) in
    subst (λ (k : Kept). IsStored h.settings.sector h.settings.host_key (revised_contract revision renter host done k)) same
    (expected_stores h revision renter host done found (payment_in revision) (found_stores h.settings.sector h.settings.host_key revision.parent h.state.contracts found sound.stored at) (sym (found_id revision.parent h.state.contracts found at))
    (revises_fit accepts h revision renter done found is) made)

-- where memory didn't run out
pub stores_on : {E : Type 0} (accepts : List ℕ → List ℕ → List ℕ → Bool) (h : Host) (revision : Revision) (renter host : List ℕ) (done : List Change) (found : Kept) (result : Result Bool E) → IsSound h.settings.sector h.settings.host_key h.state.contracts
    → contract_among revision.parent h.state.contracts ≡ Some found → IfOk result (λ follows. follows ≡ revises_contract accepts h revision renter done found)
    → IfOk result (λ follows. follows ≡ true → revision ≡ expected h found (payment_in revision) done)
    → IfOk result (λ follows. follows ≡ true → (c : Kept) → contract_among revision.parent h.state.contracts ≡ Some c → IsStored h.settings.sector h.settings.host_key (revised_contract revision renter host done c))
stores_on accepts h revision renter host done found (Ok follows) sound at judged made = (λ yes c there. follows_stores accepts h revision renter host done found c sound at (sym judged ∙ yes) (made yes) there)
stores_on accepts h revision renter host done found (Err e) sound at judged made = tt

-- what a contract may store fits a number of 64 bits
pub product_fits : (sector count : ℕ) → ((power : ℕ) × (power ≤ 16) × (sector ≡ 64 * 2 ^ power)) → count ≤ 65536 → sector * count < 2 ^ 64
product_fits sector count size few =
    let most : 2 ^ size.0 ≤ 2 ^ 16 = pow-le-pow_right {n = 2} (omega arith) {i = size.0} {j = 16} size.1 in
    let small : sector ≤ 4194304 = omega (arith, size.2) in
    let all : sector * count ≤ sector * 65536 = mul-le-mul_left sector few in
    omega arith

-- what is found in one host is found in the same host
pub found_now : (id : List ℕ) (c : Kept) (h now : Host) → h ≡ now → contract_among id h.state.contracts ≡ Some c → contract_among id now.state.contracts ≡ Some c
found_now id c h now same at = subst (λ (k : Host). contract_among id k.state.contracts ≡ Some c) same at

-- renewals

-- the contract of a renewal that follows begins with what the old one stores
renewed_begins : (h : Host) (old : Kept) (tx : Transaction) → renews_so h old tx.contracts ≡ true → Begun tx old.newest.size old.newest.root (both_address old.renter_key h.settings.host_key)
renewed_begins h old tx = by tx.contracts refl
  where
    by : (contracts : List FileContract) → tx.contracts ≡ contracts → renews_so h old contracts ≡ true → Begun tx old.newest.size old.newest.root (both_address old.renter_key h.settings.host_key)
    by [] one begins = (cc)
    by (c ∷ []) one begins =
        let address = both_address old.renter_key h.settings.host_key in
        begun_so tx old.newest.size old.newest.root address c one (left_of_and (begins_with old.newest.size old.newest.root address c) (renewal_pays h.settings c.valid c.missed) begins)
    by (c ∷ other ∷ more) one begins = (cc)

-- a host stays sound with a renewal that follows and clears
renewed_sound : (accepts : List ℕ → List ℕ → List ℕ → Bool) (h : Host) (tx : Transaction) (id : List ℕ) (old : Kept) → IsSound h.settings.sector h.settings.host_key h.state.contracts → contract_among id h.state.contracts ≡ Some old
    → renews_contract accepts h tx old ≡ true → tx.revisions ≡ clearing old.newest ∷ [] → IsSound h.settings.sector h.settings.host_key (after_renewal h.settings.host_key tx h.state.contracts tx.revisions)
renewed_sound accepts h tx id old sound at is clears =
    let stored : IsStored h.settings.sector h.settings.host_key old = found_stores h.settings.sector h.settings.host_key id h.state.contracts old sound.stored at in
    let there : contract_among old.id h.state.contracts ≡ Some old = subst (λ i. contract_among i h.state.contracts ≡ Some old) (sym (found_id id h.state.contracts old at)) at in
    let before = not (was_cleared old) && not (is_late h old) && is_cleared old.newest tx.revisions && has_coins_alone tx in
    let begun : Begun tx old.newest.size old.newest.root (both_address old.renter_key h.settings.host_key) = renewed_begins h old tx (right_of_and before (renews_so h old tx.contracts) (left_of_and (before && renews_so h old tx.contracts) (is_new accepts h tx) is)) in
    let none : is_among (contract_id tx 0) h.state.contracts ≡ false = new_apart accepts h tx (right_of_and (before && renews_so h old tx.contracts) (is_new accepts h tx) is) in
    let passes : (c : Kept) → contract_among (clearing old.newest).parent h.state.contracts ≡ Some c → PassesOn h.settings.sector h.settings.host_key tx (clearing old.newest) c =
    λ c found. subst (PassesOn h.settings.sector h.settings.host_key tx (clearing old.newest)) (sym (is_old h.state.contracts old c there stored.parent found)) (passes_on h.settings.sector h.settings.host_key tx old stored begun) in
    subst (λ revisions. IsSound h.settings.sector h.settings.host_key (after_renewal h.settings.host_key tx h.state.contracts revisions)) (sym clears)
    (sound_renewed h.settings.sector h.settings.host_key tx h.state.contracts (clearing old.newest) sound none passes)

-- where memory didn't run out
pub renews_on : {E : Type 0} (accepts : List ℕ → List ℕ → List ℕ → Bool) (h : Host) (tx : Transaction) (id : List ℕ) (old : Kept) (result : Result Bool E) → IsSound h.settings.sector h.settings.host_key h.state.contracts → contract_among id h.state.contracts ≡ Some old
    → IfOk result (λ follows. follows ≡ renews_contract accepts h tx old) → IfOk result (λ follows. follows ≡ true → tx.revisions ≡ clearing old.newest ∷ [])
    → IfOk result (λ follows. follows ≡ true → IsSound h.settings.sector h.settings.host_key (after_renewal h.settings.host_key tx h.state.contracts tx.revisions))
renews_on accepts h tx id old (Ok follows) sound at judged clears = (λ yes. renewed_sound accepts h tx id old sound at (sym judged ∙ yes) (clears yes))
renews_on accepts h tx id old (Err e) sound at judged clears = tt

-- the revision that changes make, by what it stores

-- none
pub expected_none : (h : Host) (c : Kept) (p : Payment) (done : List Change) → (length done == 0) ≡ true → paid_revision c p c.newest.size c.newest.root ≡ expected h c p done
expected_none h c p [] none = refl
expected_none h c p (one ∷ others) none = absurd (let same : length (one ∷ others) ≡ 0 = eqb-true _ _ none in let some : 1 ≤ length (one ∷ others) = omega arith in omega arith)

-- some
pub expected_some : (h : Host) (c : Kept) (p : Payment) (done : List Change) (size : ℕ) (root : List ℕ) → (length done == 0) ≡ false → size ≡ h.settings.sector * length (changed_roots c done) → root ≡ node_root_of (changed_roots c done)
    → paid_revision c p size root ≡ expected h c p done
expected_some h c p [] size root some many is = (cc)
expected_some h c p (one ∷ others) size root some many is =
    ap (λ n. paid_revision c p n root) many ∙ ap (λ r. paid_revision c p (h.settings.sector * length (changed_roots c (one ∷ others))) r) is
