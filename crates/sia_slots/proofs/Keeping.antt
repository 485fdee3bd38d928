-- A record that replays leaves no slot live twice.
use Rattle.std.proofs.Common.{◌≡◌, ◌∙◌, ℕ, ◌+◌, ◌&&◌, Bool, true, false, not, List, [], ◌∷◌, length, map, take, Option, Some, None, refl, sym, subst, arith, le_refl}
use Rattle.std.specs.Prelude.{filter_map, nat_le}
use Rattle.std.specs.Option.{option_map_or}
use Rattle.std.proofs.lemmas.List.{take-take}
use Rattle.std.proofs.lemmas.Slice.Eq.{bytes_eq-Decides}
use Rattle.sia_encoding.specs.declared.limits.TheConstants.{ACTIONS}
use Rattle.sia_diff.specs.DiffSteps.{is_fit}
use Rattle.sia_diff.proofs.Counts.{left_of_and, right_of_and}
use Rattle.sia_diff.proofs.Fit.{fit_done}
use Rattle.sia_forms.specs.Checks.{is_cleared as clears, is_spelled_as}
use Rattle.sia_price.specs.Payments.{has_same_counts, has_same_sums}
use Rattle.sia_types.specs.FileContracts.{revision as revision_codec}
use Rattle.sia_types.specs.declared.file_contracts.FileContract.{FileContract}
use Rattle.sia_types.specs.declared.file_contracts.Revision.{Revision}
use Rattle.sia_types.specs.declared.transaction.Transaction.{Transaction}
use Rattle.sia_records.specs.declared.change.Change.{Change}
use Rattle.sia_records.specs.declared.host_record.HostRecord.{HostRecord}
use Rattle.sia_records.specs.declared.host_record.HostRecord.TheVariants as records
use Rattle.sia_records.specs.Stored.{step_of}
use Rattle.sia_kept.specs.State.{IsSound, Kept, contract_among, live_slots, with_record}
use Rattle.sia_kept.proofs.Changed.{fit_for}
use Rattle.sia_host.specs.Answered.{Host}
use Rattle.sia_host.specs.Paying.{is_late, is_low, signs_revision, was_cleared}
use Rattle.sia_host.specs.Replaying.{changes_fit, expected, has_coins_alone, is_new, least_free, payment_in, renewed_replays, renews_contract, renews_so, replays, revises_contract, slot_taken, takes_least}
use Rattle.sia_host.specs.Writing.{dropped}
use Rattle.sia_slots.specs.Slots.{NamedOnce, free_below}
use Rattle.sia_slots.proofs.Once.{stays_once}
use Rattle.sia_slots.proofs.Recorded.{block_keeps, formed_keeps, renewed_pass, revert_keeps, revised_pass}

-- the sixth of eight that hold
sixth : (a b c d e f g i : Bool) → (a && b && c && d && e && f && g && i) ≡ true → f ≡ true
sixth a b c d e f g i is =
    right_of_and (a && b && c && d && e) f (left_of_and (a && b && c && d && e && f) g (left_of_and (a && b && c && d && e && f && g) i is))

-- the changes of a revision that follows are fit
revised_fit : (accepts : List ℕ → List ℕ → List ℕ → Bool) (h : Host) (revision : Revision) (renter : List ℕ) (done : List Change) (c : Kept) → revises_contract accepts h revision renter done c ≡ true → changes_fit h c done ≡ true
revised_fit accepts h revision renter done c is =
    let p = payment_in revision in
    sixth (not (was_cleared c)) (not (is_late h c)) (not (is_low c revision.number)) (has_same_counts c.newest p.valid p.missed) (has_same_sums c.newest p.valid p.missed) (changes_fit h c done)
    (is_spelled_as revision_codec revision (expected h c p done)) (signs_revision accepts c.renter_key revision renter) is

-- changes that are fit can be done, and take the least free slots
fit_steps : (h : Host) (c : Kept) (done : List Change) → changes_fit h c done ≡ true → fit_for (length c.sectors) (map step_of done) ≡ true
fit_steps h c done is =
    fit_done (length c.sectors) (map step_of done) (right_of_and (nat_le (length done) ACTIONS) (is_fit (length c.sectors) (map step_of done))
    (left_of_and (nat_le (length done) ACTIONS && is_fit (length c.sectors) (map step_of done)) (takes_least h done) is))

fit_takes : (h : Host) (c : Kept) (done : List Change) → changes_fit h c done ≡ true → filter_map slot_taken done ≡ least_free (live_slots h.state) (length (filter_map slot_taken done))
fit_takes h c done is =
    let taken = filter_map slot_taken done in
    (bytes_eq-Decides taken (least_free (live_slots h.state) (length taken))).0 (right_of_and (nat_le (length done) ACTIONS && is_fit (length c.sectors) (map step_of done)) (takes_least h done) is)

-- a revision
revised_once : (h : Host) (revision : Revision) (renter host : List ℕ) (done : List Change) (c : Kept) → IsSound h.settings.sector h.settings.host_key h.state.contracts → NamedOnce (live_slots h.state) → contract_among revision.parent h.state.contracts ≡ Some c
    → changes_fit h c done ≡ true → NamedOnce (live_slots (with_record h.settings.host_key h.state (records.Revised revision renter host done)))
revised_once h revision renter host done c sound once there fit =
    let live = live_slots h.state in
    let taken = filter_map slot_taken done in
    let n = length taken in
    let least : taken ≡ take n (take n (free_below (length live + n) live)) = fit_takes h c done fit ∙ sym (take-take n n (free_below (length live + n) live) (le_refl n)) in
    (stays_once live (length live + n) n n taken (live_slots (with_record h.settings.host_key h.state (records.Revised revision renter host done))) (dropped c.sectors done) once least
    (revised_pass h.settings.host_key h.state revision renter host done c sound.apart there (fit_steps h c done fit))).0

-- the one contract that a renewal forms
record Forms (tx : Transaction) : Type 0 where
  terms : FileContract
  others : List FileContract
  is : tx.contracts ≡ terms ∷ others

renews_forms : (h : Host) (old : Kept) (tx : Transaction) → renews_so h old tx.contracts ≡ true → Forms tx
renews_forms h old tx = by tx.contracts refl
  where
    by : (contracts : List FileContract) → tx.contracts ≡ contracts → renews_so h old contracts ≡ true → Forms tx
    by [] at is = (cc)
    by (terms ∷ []) at is = record { terms = terms; others = []; is = at }
    by (terms ∷ other ∷ others) at is = (cc)

renewal_forms : (accepts : List ℕ → List ℕ → List ℕ → Bool) (h : Host) (tx : Transaction) (old : Kept) → renews_contract accepts h tx old ≡ true → Forms tx
renewal_forms accepts h tx old is =
    renews_forms h old tx (right_of_and (not (was_cleared old) && not (is_late h old) && clears old.newest tx.revisions && has_coins_alone tx) (renews_so h old tx.contracts)
    (left_of_and (not (was_cleared old) && not (is_late h old) && clears old.newest tx.revisions && has_coins_alone tx && renews_so h old tx.contracts) (is_new accepts h tx) is))

renewed_forms : (accepts : List ℕ → List ℕ → List ℕ → Bool) (h : Host) (tx : Transaction) (revisions : List Revision) → renewed_replays accepts h tx revisions ≡ true → Forms tx
renewed_forms accepts h tx [] is = (cc)
renewed_forms accepts h tx (revision ∷ []) is = by (contract_among revision.parent h.state.contracts) is
  where
    by : (found : Option Kept) → option_map_or (renews_contract accepts h tx) found false ≡ true → Forms tx
    by None none = (cc)
    by (Some old) renews = renewal_forms accepts h tx old renews
renewed_forms accepts h tx (revision ∷ other ∷ others) is = (cc)

-- any record
pub keeps_once : (accepts : List ℕ → List ℕ → List ℕ → Bool) (h : Host) (made : HostRecord) → IsSound h.settings.sector h.settings.host_key h.state.contracts → NamedOnce (live_slots h.state) → replays accepts h made ≡ true
    → NamedOnce (live_slots (with_record h.settings.host_key h.state made))
unfolding replays
keeps_once accepts h (records.Block block) sound once follows = subst NamedOnce (sym (block_keeps h.settings.host_key h.state block).0) once
keeps_once accepts h records.Revert sound once follows = subst NamedOnce (sym (revert_keeps h.settings.host_key h.state).0) once
keeps_once accepts h (records.Formed renter_key tx) sound once follows = subst NamedOnce (sym (formed_keeps h.settings.host_key h.state renter_key tx).0) once
keeps_once accepts h (records.Revised revision renter host done) sound once follows = by (contract_among revision.parent h.state.contracts) refl follows
  where
    by : (found : Option Kept) → contract_among revision.parent h.state.contracts ≡ found → option_map_or (revises_contract accepts h revision renter done) found false ≡ true
        → NamedOnce (live_slots (with_record h.settings.host_key h.state (records.Revised revision renter host done)))
    by None there none = (cc)
    by (Some c) there revises = revised_once h revision renter host done c sound once there (revised_fit accepts h revision renter done c revises)
keeps_once accepts h (records.Renewed tx) sound once follows =
    let forms = renewed_forms accepts h tx tx.revisions follows in
    λ slot. omega (arith, once slot, renewed_pass h.settings.host_key h.state tx forms.terms forms.others sound.apart forms.is slot)
