-- A revision that a host keeps follows on what it knew.
use Rattle.std.proofs.Common.{◌≡◌, ◌∙◌, ◌≤◌, ℕ, Bool, true, false, not, ◌&&◌, ◌||◌, ◌==◌, List, [], ◌∷◌, length, Option, Some, None, MatchOption, Result, Ok, Err, refl, sym, ap, subst, arith}
use Rattle.std.specs.Option.{is_some, option_map_or}
use Rattle.std.proofs.lemmas.Bool.{eqb-true}
use Rattle.std.proofs.lemmas.Slice.Eq.{bytes_eq-Decides}
use Rattle.sia_encoding.specs.Answer.{◌>>=◌, unless}
use Rattle.sia_encoding.specs.Firsts.{broken, ◌or_else◌}
use Rattle.sia_diff.proofs.Counts.{left_of_and, right_of_and}
use Rattle.sia_types.specs.FileContracts.{revision as revision_codec}
use Rattle.sia_types.specs.declared.coins.CoinOutput.{CoinOutput}
use Rattle.sia_types.specs.declared.file_contracts.Revision.{Revision}
use Rattle.sia_price.specs.declared.payment.PayFault.{PayFault}
use Rattle.sia_price.specs.declared.payment.PayFault.TheVariants as pay_fault
use Rattle.sia_price.specs.declared.priced.Cost.{Cost}
use Rattle.sia_price.specs.declared.priced.Priced.{Priced}
use Rattle.sia_price.specs.Costs.{due_of}
use Rattle.sia_price.specs.Payments.{cuts_host, fall, falls_alike, falls_short, has_same_counts, has_same_sums, payment_fault, renter as renter_place, revision_with, robs_void, values_of, with_values}
use Rattle.sia_forms.specs.Checks.{is_spelled_as}
use Rattle.sia_records.specs.declared.change.Change.{Change}
use Rattle.sia_records.specs.declared.host_record.HostRecord.{HostRecord}
use Rattle.sia_records.specs.declared.host_record.HostRecord.TheVariants as records
use Rattle.sia_commands.specs.declared.call.Call.{Call}
use Rattle.sia_commands.specs.declared.codes.TheConstants.{BAD_PAYMENT, BAD_SIGNATURE, CLEARED, LOW_REVISION, STORE_FULL, TOO_LATE, WRONG_STATE}
use Rattle.sia_commands.specs.declared.reply.Reply.{Reply}
use Rattle.sia_commands.specs.declared.step.Room.{Room}
use Rattle.sia_kept.specs.State.{Kept, IsSound, IsStored, contract_among}
use Rattle.sia_kept.proofs.Sound.{found_stores, nothing_fits}
use Rattle.sia_host.specs.Answered.{Host, Reaction, Work, held_now, lacks_room, or_code, refused}
use Rattle.sia_host.specs.Paying.{IsHeld, IsRevised, Payment, cost_now, held_among, is_late, is_low, open_now, paid_revision, revised_unless, revising_fault, signs_revision, unpaid, was_cleared}
use Rattle.sia_host.specs.Replaying.{changes_fit, expected, payment_in, replays, revises_contract}
use Rattle.sia_host.proofs.FormedOut.{refused_none}
use Rattle.sia_host.proofs.Opened.{opened_among}

-- a contract that a session may work with isn't cleared
pub opened_uncleared : (h : Host) (session : ℕ) (c : Kept) → open_now h session ≡ Ok c → was_cleared c ≡ false
opened_uncleared h session c = by (or_code WRONG_STATE (held_now h session) >>= held_among h.state.contracts)
  where
    fine : (k : Kept) (b : Bool) → was_cleared k ≡ b → (unless (broken b CLEARED) >>= (λ _. Ok k)) ≡ Ok c → was_cleared c ≡ false
    fine k true at is = (cc)
    fine k false at is = let same : k ≡ c = (cc) in subst (λ (x : Kept). was_cleared x ≡ false) same at

    by : (holds : Result Kept ℕ) → (holds >>= (λ k. unless (broken (was_cleared k) CLEARED) >>= (λ _. Ok k))) ≡ Ok c → was_cleared c ≡ false
    by (Err code) is = (cc)
    by (Ok k) is = fine k (was_cleared k) refl is

-- values that pay are as many as there were, with the same sums
pays_alike : (old : Revision) (valid missed : List ℕ) (cost : Cost) → payment_fault old valid missed cost ≡ None → (has_same_counts old valid missed ≡ true) × (has_same_sums old valid missed ≡ true)
unfolding payment_fault
pays_alike old valid missed cost = by (has_same_counts old valid missed) (has_same_sums old valid missed)
  where
    by : (a b : Bool) → (broken (not a) pay_fault.Unbalanced or_else broken (not b) pay_fault.Unbalanced
        or_else broken (falls_short old valid (due_of cost)) (pay_fault.Low (due_of cost) (fall old.valid valid renter_place))
        or_else broken (not (falls_alike old valid missed) || cuts_host old missed cost || robs_void old missed) pay_fault.Unbalanced) ≡ None → (a ≡ true) × (b ≡ true)
    by true true is = (refl, refl)
    by true false is = (cc)
    by false b is = (cc)

-- what is known of a request that pays
pub record Paid (h : Host) (c : Kept) (p : Payment) : Type 0 where
  pub early : is_late h c ≡ false
  pub above : is_low c p.number ≡ false
  pub counts : has_same_counts c.newest p.valid p.missed ≡ true
  pub sums : has_same_sums c.newest p.valid p.missed ≡ true

pub paid_so : (h : Host) (c : Kept) (call : Priced) (p : Payment) → unpaid h c call p ≡ None → Paid h c p
paid_so h c call p = by (is_late h c) (is_low c p.number) (payment_fault c.newest p.valid p.missed (cost_now h c call)) refl refl refl
  where
    by : (late low : Bool) (fault : Option PayFault) → is_late h c ≡ late → is_low c p.number ≡ low → payment_fault c.newest p.valid p.missed (cost_now h c call) ≡ fault
        → (broken late TOO_LATE or_else broken low LOW_REVISION or_else broken (is_some fault) BAD_PAYMENT) ≡ None → Paid h c p
    by false false None early above pays is =
        let alike = pays_alike c.newest p.valid p.missed (cost_now h c call) pays in
        record { early = early; above = above; counts = alike.0; sums = alike.1 }
    by false false (Some fault) early above pays is = (cc)
    by false true fault early above pays is = (cc)
    by true low fault early above pays is = (cc)

-- the values of outputs that have these values, as many as there are
values_again : (outputs : List CoinOutput) (values : List ℕ) → length values ≡ length outputs → values_of (with_values outputs values) ≡ values
values_again [] [] many = refl
values_again [] (value ∷ values) many = absurd (let some : 1 ≤ length (value ∷ values) = omega arith in let none : length (value ∷ values) ≡ 0 = many in omega arith)
values_again (output ∷ outputs) [] many = absurd (let some : 1 ≤ length (output ∷ outputs) = omega arith in let none : 0 ≡ length (output ∷ outputs) = many in omega arith)
values_again (output ∷ outputs) (value ∷ values) many = ap (λ vs. value ∷ vs) (values_again outputs values (omega (arith, many)))

-- what a revision that pays shows of its payment
pub payment_again : (c : Kept) (p : Payment) (size : ℕ) (root : List ℕ) → has_same_counts c.newest p.valid p.missed ≡ true → payment_in (paid_revision c p size root) ≡ p
unfolding revision_with
payment_again c p size root counts =
    let valid : length p.valid ≡ length c.newest.valid = eqb-true _ _ (left_of_and (length p.valid == length c.newest.valid) (length p.missed == length c.newest.missed) counts) in
    let missed : length p.missed ≡ length c.newest.missed = eqb-true _ _ (right_of_and (length p.valid == length c.newest.valid) (length p.missed == length c.newest.missed) counts) in
    ap (λ vs. record { number = p.number; valid = vs; missed = values_of (with_values c.newest.missed p.missed) }) (values_again c.newest.valid p.valid valid)
    ∙ ap (λ vs. record { number = p.number; valid = p.valid; missed = vs }) (values_again c.newest.missed p.missed missed)

all_eight : (a b c d e f g i : Bool) → a ≡ true → b ≡ true → c ≡ true → d ≡ true → e ≡ true → f ≡ true → g ≡ true → i ≡ true → (a && b && c && d && e && f && g && i) ≡ true
all_eight a b c d e f g i one two three four five six seven eight = rw (one, two, three, four, five, six, seven, eight) refl

-- a revision that pays, whose changes are fit and which the renter signed, follows
pub paying_follows : (accepts : List ℕ → List ℕ → List ℕ → Bool) (h : Host) (session : ℕ) (c : Kept) (p : Payment) (size : ℕ) (root renter host : List ℕ) (done : List Change) → IsSound h.settings.sector h.settings.host_key h.state.contracts
    → open_now h session ≡ Ok c → Paid h c p → changes_fit h c done ≡ true → paid_revision c p size root ≡ expected h c p done → signs_revision accepts c.renter_key (paid_revision c p size root) renter ≡ true
    → replays accepts h (records.Revised (paid_revision c p size root) renter host done) ≡ true
unfolding replays revision_with
paying_follows accepts h session c p size root renter host done sound opened paid fit made signed =
    let revision = paid_revision c p size root in
    let there : contract_among c.id h.state.contracts ≡ Some c = opened_among h session c opened in
    let stored : IsStored h.settings.sector h.settings.host_key c = found_stores h.settings.sector h.settings.host_key c.id h.state.contracts c sound.stored there in
    let named : contract_among revision.parent h.state.contracts ≡ Some c = ap (λ id. contract_among id h.state.contracts) stored.parent ∙ there in
    let same : payment_in revision ≡ p = payment_again c p size root paid.counts in
    let spelled : is_spelled_as revision_codec revision (expected h c (payment_in revision) done) ≡ true =
    ap (λ (q : Payment). is_spelled_as revision_codec revision (expected h c q done)) same
    ∙ ap (λ (r : Revision). is_spelled_as revision_codec revision r) (sym made) ∙ (bytes_eq-Decides (revision_codec.spelled revision) (revision_codec.spelled revision)).1 refl in
    let uncleared : not (was_cleared c) ≡ true = ap not (opened_uncleared h session c opened) in
    ap (λ found. option_map_or (revises_contract accepts h revision renter done) found false) named
    ∙ all_eight (not (was_cleared c)) (not (is_late h c)) (not (is_low c revision.number)) (has_same_counts c.newest (payment_in revision).valid (payment_in revision).missed) (has_same_sums c.newest (payment_in revision).valid (payment_in revision).missed)
    (changes_fit h c done) (is_spelled_as revision_codec revision (expected h c (payment_in revision) done)) (signs_revision accepts c.renter_key revision renter)
    uncleared (ap not paid.early) (ap not paid.above)
    (ap (λ (q : Payment). has_same_counts c.newest q.valid q.missed) same ∙ paid.counts) (ap (λ (q : Payment). has_same_sums c.newest q.valid q.missed) same ∙ paid.sums)
    fit spelled signed

-- a revision that is kept is signed
signed_so : (accepts : List ℕ → List ℕ → List ℕ → Bool) (room : Room) (key : List ℕ) (revision : Revision) (renter : List ℕ) (made : HostRecord) → revising_fault accepts room key revision renter made ≡ None → signs_revision accepts key revision renter ≡ true
signed_so accepts room key revision renter made = by (lacks_room room made) (signs_revision accepts key revision renter)
  where
    by : (full signed : Bool) → (broken full STORE_FULL or_else broken (not signed) BAD_SIGNATURE) ≡ None → signed ≡ true
    by false true is = refl
    by false false is = (cc)
    by true signed is = (cc)

-- what is shown of a revision once it is signed holds of what is kept
pub revised_out : (Q : HostRecord → Type 0) (accepts : List ℕ → List ℕ → List ℕ → Bool) (Signs : List ℕ → List ℕ → Type 0) (h : Host) (room : Room) (call : Call) (id key : List ℕ) (revision : Revision) (renter : List ℕ) (changes : List Change)
    (said : List ℕ → Reply) (work : Work) (a : Reaction) (made : HostRecord)
    → ((host : List ℕ) → signs_revision accepts key revision renter ≡ true → Q (records.Revised revision renter host changes))
    → IsRevised accepts Signs h room call id key revision renter changes said work a → a.made ≡ Some made → Q made
revised_out Q accepts Signs h room call id key revision renter changes said work a made gives revised =
    by (revising_fault accepts room key revision renter (records.Revised revision renter revised.0 changes)) refl revised.2
  where
    by : (fault : Option ℕ) → revising_fault accepts room key revision renter (records.Revised revision renter revised.0 changes) ≡ fault
        → a ≡ revised_unless h call id (said revised.0) (records.Revised revision renter revised.0 changes) work fault → a.made ≡ Some made → Q made
    by (Some code) at is some = absurd (refused_none h call (Some id) code a made is some)
    by None at is some =
        let told : a.made ≡ Some (records.Revised revision renter revised.0 changes) = ap (λ (r : Reaction). r.made) is in
        let both : Some (records.Revised revision renter revised.0 changes) ≡ Some made = sym told ∙ some in
        let same : records.Revised revision renter revised.0 changes ≡ made = (cc) in
        subst Q same (gives revised.0 (signed_so accepts room key revision renter (records.Revised revision renter revised.0 changes) at))

-- what is shown of a request about the held contract that isn't refused holds where it makes a record
pub held_out : (Q : Type 0) (h : Host) (call : Call) (opened : Result Kept ℕ) (fault : Kept → Option ℕ) (Follows : Kept → Reaction → Type 0) (a : Reaction) (made : HostRecord)
    → ((c : Kept) → opened ≡ Ok c → fault c ≡ None → Follows c a → Q) → IsHeld h call opened fault Follows a → a.made ≡ Some made → Q
held_out Q h call (Err code) fault Follows a made gives is some = absurd (refused_none h call (held_now h call.session) code a made is some)
held_out Q h call (Ok c) fault Follows a made gives is some = by (fault c) refl is
  where
    by : (f : Option ℕ) → fault c ≡ f → MatchOption f (Follows c a) (λ code. a ≡ refused h call (held_now h call.session) code) → Q
    by (Some code) at is = absurd (refused_none h call (held_now h call.session) code a made is some)
    by None at is = gives c refl at is

-- no change is fit, and takes no slot
pub nothing_changed : (h : Host) (c : Kept) → IsStored h.settings.sector h.settings.host_key c → changes_fit h c [] ≡ true
nothing_changed h c stored = rw (nothing_fits (length c.sectors) stored.few) refl
