-- A renewal that a host keeps follows on what it knew.
use Rattle.std.proofs.Common.{◌≡◌, ◌∙◌, ◌-◌, ℕ, Bool, true, false, not, ◌&&◌, ◌==◌, List, [], ◌∷◌, All, length, take, Option, Some, None, MatchOption, Result, Ok, Err, refl, sym, ap, subst}
use Rattle.std.specs.Option.{option_map_or}
use Rattle.std.proofs.Math.Seq.{take-append_seam}
use Rattle.std.proofs.lemmas.List.Elements.{All-head}
use Rattle.sia_encoding.specs.Answer.{◌>>=◌}
use Rattle.sia_encoding.specs.Firsts.{broken}
use Rattle.sia_diff.proofs.Counts.{left_of_and}
use Rattle.sia_types.specs.FileContracts.{revision}
use Rattle.sia_types.specs.Transaction.{transaction}
use Rattle.sia_types.specs.declared.coins.CoinOutput.{CoinOutput}
use Rattle.sia_types.specs.declared.file_contracts.FileContract.{FileContract}
use Rattle.sia_types.specs.declared.file_contracts.Revision.{Revision}
use Rattle.sia_types.specs.declared.settings.Settings.{Settings}
use Rattle.sia_types.specs.declared.signature.Signature.{Signature}
use Rattle.sia_types.specs.declared.transaction.Transaction.{Transaction}
use Rattle.sia_ledger.specs.Refusal.{set_refusal}
use Rattle.sia_forms.specs.declared.funding.Additions.{Additions}
use Rattle.sia_forms.specs.Building.{finished}
use Rattle.sia_forms.specs.Checks.{asked_to_renew, begins_with, contract_answer, has_no_other_part, is_cleared, is_spelled_as, one_contract, pays_parties, renew_answer}
use Rattle.sia_forms.specs.Parties.{both_address}
use Rattle.sia_forms.specs.Renewing.{clearing}
use Rattle.sia_records.specs.declared.host_record.HostRecord.{HostRecord}
use Rattle.sia_records.specs.declared.host_record.HostRecord.TheVariants as records
use Rattle.sia_commands.specs.declared.call.Call.{Call}
use Rattle.sia_commands.specs.declared.codes.TheConstants.{BAD_CONTRACT}
use Rattle.sia_commands.specs.declared.event.Kind.TheVariants as kind
use Rattle.sia_commands.specs.declared.step.Room.{Room}
use Rattle.sia_kept.specs.State.{Kept, IsSound, IsStored, contract_among}
use Rattle.sia_kept.proofs.Apart.{same_bytes}
use Rattle.sia_kept.proofs.Sound.{found_stores}
use Rattle.sia_host.specs.Answered.{Host, Reaction, held_now, lacks_room, refused, settings_now}
use Rattle.sia_host.specs.Forming.{IsProposed, is_formed, keeping_fault}
use Rattle.sia_host.specs.Paying.{is_late, was_cleared}
use Rattle.sia_host.specs.Renewing.{IsRenewSigned, RenewsSigned, renew_judged, renew_kept, renew_unless}
use Rattle.sia_host.specs.Replaying.{has_coins_alone, is_new, renewal_pays, renewed_replays, renews_contract, renews_so, replays}
use Rattle.sia_host.proofs.FormedOut.{both_true, nothing_broken, points_pass, refused_none, whole_fresh}
use Rattle.sia_host.proofs.Opened.{opened_among}
use Rattle.sia_host.proofs.Renewals.{Renews, judged_renews, same_parent}
use Rattle.sia_host.proofs.RevisedOut.{opened_uncleared}

-- the contract of the clearing revision

-- a revision begins with its contract
begins_named : (r : Revision) → length r.parent ≡ 32 → take 32 (revision.spelled r) ≡ r.parent
begins_named r long =
    let seam : take (length r.parent) (revision.spelled r) ≡ r.parent = take-append_seam r.parent _ in
    subst (λ n. take n (revision.spelled r) ≡ r.parent) long seam

-- so revisions that are spelled alike are of one contract, where both name it by a hash
same_named : (one other : Revision) → length one.parent ≡ 32 → length other.parent ≡ 32 → is_spelled_as revision one other ≡ true → one.parent ≡ other.parent
same_named one other long also is =
    sym (begins_named one long) ∙ ap (take 32) (same_bytes (revision.spelled one) (revision.spelled other) is) ∙ begins_named other also

-- the one revision that clears
record Clears (newest : Revision) (revisions : List Revision) : Type 0 where
  only : Revision
  one : revisions ≡ only ∷ []
  spelled : is_spelled_as revision only (clearing newest) ≡ true

clears_by : (newest : Revision) (revisions : List Revision) → is_cleared newest revisions ≡ true → Clears newest revisions
clears_by newest [] is = (cc)
clears_by newest (only ∷ []) is = record { only = only; one = refl; spelled = is }
clears_by newest (one ∷ two ∷ more) is = (cc)

-- the revision of a transaction that is of its type names a contract by a hash
named_by : (limit : ℕ) (tx : Transaction) (only : Revision) → transaction.fits limit tx → tx.revisions ≡ only ∷ [] → length only.parent ≡ 32
named_by limit tx only fits one =
    let all : All (revision.fits limit) (only ∷ []) = subst (All (revision.fits limit)) one fits.1.1.1.0.1 in
    (All-head (revision.fits limit) only [] all).0.0

-- what is accepted

-- outputs that pay both parties pay as a renewal may
pays_renewal : (s : Settings) (risk : ℕ) (valid missed : List CoinOutput) → pays_parties s risk valid missed ≡ true → renewal_pays s valid missed ≡ true
pays_renewal s risk (renter ∷ host ∷ []) (missed_renter ∷ missed_host ∷ void ∷ []) is =
    let value = missed_host.value == host.value - risk in
    left_of_and (renewal_pays s (renter ∷ host ∷ []) (missed_renter ∷ missed_host ∷ void ∷ [])) value
    (left_of_and (renewal_pays s (renter ∷ host ∷ []) (missed_renter ∷ missed_host ∷ void ∷ []) && value) (void.value == risk) is)
pays_renewal s risk [] missed is = (cc)
pays_renewal s risk (renter ∷ []) missed is = (cc)
pays_renewal s risk (renter ∷ host ∷ other ∷ more) missed is = (cc)
pays_renewal s risk (renter ∷ host ∷ []) [] is = (cc)
pays_renewal s risk (renter ∷ host ∷ []) (one ∷ []) is = (cc)
pays_renewal s risk (renter ∷ host ∷ []) (one ∷ two ∷ []) is = (cc)
pays_renewal s risk (renter ∷ host ∷ []) (one ∷ two ∷ three ∷ four ∷ more) is = (cc)

-- what the transaction of a renewal that is accepted says
record RenewedTerms (tx : Transaction) (newest : Revision) (s : Settings) : Type 0 where
  clears : is_cleared newest tx.revisions ≡ true
  coins : has_coins_alone tx ≡ true
  terms : FileContract
  one : tx.contracts ≡ terms ∷ []
  begins : begins_with newest.size newest.root newest.address terms ≡ true
  pays : renewal_pays s terms.valid terms.missed ≡ true

renew_says : (tx : Transaction) (newest : Revision) (s : Settings) (collateral : ℕ) → renew_answer tx newest s ≡ Ok collateral → RenewedTerms tx newest s
unfolding renew_answer
renew_says tx newest s collateral = by (is_cleared newest tx.revisions) (has_no_other_part tx) tx.contracts refl refl refl
  where
    by : (clears fit : Bool) (cs : List FileContract) → is_cleared newest tx.revisions ≡ clears → has_no_other_part tx ≡ fit → tx.contracts ≡ cs
        → (one_contract (clears && fit) cs >>= (λ c. contract_answer s (asked_to_renew s newest c) c)) ≡ Ok collateral → RenewedTerms tx newest s
    by true true [] cleared fit one is = (cc)
    by true true (c ∷ []) cleared fit one is =
        let asked = asked_to_renew s newest c in
        let passed = points_pass s asked c collateral is in
        record {
          clears = cleared;
          coins = left_of_and (has_coins_alone tx) (length tx.signatures == 0) fit;
          terms = c;
          one = one;
          begins = passed.0;
          pays = pays_renewal s asked.risk c.valid c.missed passed.1;
        }
    by true true (c ∷ other ∷ more) cleared fit one is = (cc)
    by true false cs cleared fit one is = (cc)
    by false fit cs cleared other one is = (cc)

-- what follows

all_six : (a b c d e f : Bool) → a ≡ true → b ≡ true → c ≡ true → d ≡ true → e ≡ true → f ≡ true → (a && b && c && d && e && f) ≡ true
all_six a b c d e f one two three four five six = rw (one, two, three, four, five, six) refl

-- the one contract begins as a renewal's does
begins_again : (h : Host) (old : Kept) (tx : Transaction) → IsStored h.settings.sector h.settings.host_key old → RenewedTerms tx old.newest (settings_now h) → renews_so h old tx.contracts ≡ true
begins_again h old tx stored said =
    let begins : begins_with old.newest.size old.newest.root (both_address old.renter_key h.settings.host_key) said.terms ≡ true =
    ap (λ address. begins_with old.newest.size old.newest.root address said.terms) (sym stored.address) ∙ said.begins in
    ap (renews_so h old) said.one ∙ both_true _ _ begins said.pays

-- a whole renewal of this contract, that isn't known and breaks no rule, follows
whole_renews : (accepts : List ℕ → List ℕ → List ℕ → Bool) (h : Host) (session : ℕ) (tx : Transaction) (added : Additions) (renter host : List Signature) (whole : Transaction) → whole ≡ finished tx added renter host
    → (r : Renews h session tx) → IsStored h.settings.sector h.settings.host_key r.old → is_formed h tx added ≡ false → set_refusal accepts h.state.chain whole ≡ None → renews_contract accepts h whole r.old ≡ true
unfolding finished
whole_renews accepts h session tx added renter host whole is r stored new sound =
    let said = renew_says tx r.old.newest (settings_now h) r.collateral r.answered in
    let clears : is_cleared r.old.newest whole.revisions ≡ true = ap (λ (t : Transaction). is_cleared r.old.newest t.revisions) is ∙ said.clears in
    let coins : has_coins_alone whole ≡ true = ap has_coins_alone is ∙ said.coins in
    let begins : renews_so h r.old whole.contracts ≡ true = ap (λ (t : Transaction). renews_so h r.old t.contracts) is ∙ begins_again h r.old tx stored said in
    let fresh : is_new accepts h whole ≡ true = whole_fresh accepts h tx added renter host whole is new sound in
    all_six (not (was_cleared r.old)) (not (is_late h r.old)) (is_cleared r.old.newest whole.revisions) (has_coins_alone whole) (renews_so h r.old whole.contracts) (is_new accepts h whole)
    (ap not (opened_uncleared h session r.old r.opened)) (ap not r.early) clears coins begins fresh

-- the revision of a renewal names the contract that it renews
pub only_named : (h : Host) (session limit : ℕ) (tx : Transaction) → transaction.fits limit tx → (r : Renews h session tx) → IsStored h.settings.sector h.settings.host_key r.old
    → (only : Revision) × (tx.revisions ≡ only ∷ []) × (only.parent ≡ r.old.id)
only_named h session limit tx fits r stored =
    let said = renew_says tx r.old.newest (settings_now h) r.collateral r.answered in
    let found = clears_by r.old.newest tx.revisions said.clears in
    let own : (clearing r.old.newest).parent ≡ r.old.id = same_parent r.old.newest ∙ stored.parent in
    (found.only, found.one, same_named found.only (clearing r.old.newest) (named_by limit tx found.only fits found.one) (ap length own ∙ stored.id) found.spelled ∙ own)

-- so the whole renewal follows
whole_named : (accepts : List ℕ → List ℕ → List ℕ → Bool) (h : Host) (session limit : ℕ) (tx whole : Transaction) → transaction.fits limit tx → whole.revisions ≡ tx.revisions
    → (r : Renews h session tx) → IsStored h.settings.sector h.settings.host_key r.old → renews_contract accepts h whole r.old ≡ true → renewed_replays accepts h whole whole.revisions ≡ true
whole_named accepts h session limit tx whole fits same r stored follows =
    let found = only_named h session limit tx fits r stored in
    let there : contract_among found.0.parent h.state.contracts ≡ Some r.old = ap (λ id. contract_among id h.state.contracts) found.2 ∙ opened_among h session r.old r.opened in
    ap (renewed_replays accepts h whole) (same ∙ found.1) ∙ (ap (λ old. option_map_or (renews_contract accepts h whole) old false) there ∙ follows)

-- the whole transaction has the revisions of the proposal
pub whole_revisions : (tx : Transaction) (added : Additions) (renter host : List Signature) → (finished tx added renter host).revisions ≡ tx.revisions
unfolding finished
whole_revisions tx added renter host = refl

-- what is shown of a renewal that breaks no rule holds of what is kept
kept_gives : (Q : HostRecord → Type 0) (accepts : List ℕ → List ℕ → List ℕ → Bool) (h : Host) (room : Room) (call : Call) (tx : Transaction) (signatures : List Signature) (a : Reaction) (made : HostRecord)
    → (set_refusal accepts h.state.chain tx ≡ None → Q (records.Renewed tx)) → a ≡ renew_kept accepts h room call tx signatures → a.made ≡ Some made → Q made
kept_gives Q accepts h room call tx signatures a made gives = by (keeping_fault (lacks_room room (records.Renewed tx)) (set_refusal accepts h.state.chain tx)) refl
  where
    by : (fault : Option ℕ) → keeping_fault (lacks_room room (records.Renewed tx)) (set_refusal accepts h.state.chain tx) ≡ fault → a ≡ renew_unless h call tx signatures fault → a.made ≡ Some made → Q made
    by (Some code) at is some = absurd (refused_none h call (held_now h call.session) code a made is some)
    by None at is some =
        let told : a.made ≡ Some (records.Renewed tx) = ap (λ (r : Reaction). r.made) is in
        let both : Some (records.Renewed tx) ≡ Some made = sym told ∙ some in
        let same : records.Renewed tx ≡ made = (cc) in
        subst Q same (gives (nothing_broken (lacks_room room (records.Renewed tx)) (set_refusal accepts h.state.chain tx) at))

-- what is shown of each renewal that is accepted, isn't known and breaks no rule holds of what is signed and kept
pub renewed_gives : (Q : HostRecord → Type 0) (accepts : List ℕ → List ℕ → List ℕ → Bool) (Signs : List ℕ → List ℕ → Type 0) (h : Host) (room : Room) (worker session : ℕ) (tx : Transaction) (renter : List Signature) (a : Reaction) (made : HostRecord)
    → ((r : Renews h session tx) (added : Additions) (host : List Signature) → is_formed h tx added ≡ false → set_refusal accepts h.state.chain (finished tx added renter host) ≡ None → Q (records.Renewed (finished tx added renter host)))
    → IsRenewSigned accepts Signs h room worker session tx renter a → a.made ≡ Some made → Q made
renewed_gives Q accepts Signs h room worker session tx renter a made gives = by (renew_judged h session tx) refl
  where
    call : Call
    call = record { worker = worker; session = session; kind = kind.RenewSign }

    signed : (added : Additions) (known : Bool) (r : Renews h session tx) → is_formed h tx added ≡ known
        → MatchOption (broken known BAD_CONTRACT) (RenewsSigned accepts Signs h room call tx renter added a) (λ code. a ≡ refused h call (held_now h session) code) → a.made ≡ Some made → Q made
    signed added true r new is some = absurd (refused_none h call (held_now h session) BAD_CONTRACT a made is some)
    signed added false r new is some = kept_gives Q accepts h room call (finished tx added renter is.0) is.0 a made (gives r added is.0 new) is.2 some

    by : (judged : Result ℕ ℕ) → renew_judged h session tx ≡ judged → IsProposed h call (held_now h session) tx judged (RenewsSigned accepts Signs h room call tx renter) a → a.made ≡ Some made → Q made
    by (Err code) at is some = absurd (refused_none h call (held_now h session) code a made is some)
    by (Ok collateral) at is some = signed is.0 (is_formed h tx is.0) (judged_renews h session tx collateral at) refl is.2 some

-- a contract that is renewed stores what it has
pub renewed_stored : (h : Host) (session : ℕ) (tx : Transaction) (r : Renews h session tx) → IsSound h.settings.sector h.settings.host_key h.state.contracts → IsStored h.settings.sector h.settings.host_key r.old
renewed_stored h session tx r sound = found_stores h.settings.sector h.settings.host_key r.old.id h.state.contracts r.old sound.stored (opened_among h session r.old r.opened)

-- a renewal that is signed and kept, whose transaction is of its type
pub renewed_out : (accepts : List ℕ → List ℕ → List ℕ → Bool) (Signs : List ℕ → List ℕ → Type 0) (h : Host) (room : Room) (worker session limit : ℕ) (tx : Transaction) (renter : List Signature) (a : Reaction) (made : HostRecord)
    → IsSound h.settings.sector h.settings.host_key h.state.contracts → transaction.fits limit tx → IsRenewSigned accepts Signs h room worker session tx renter a → a.made ≡ Some made → replays accepts h made ≡ true
unfolding replays
renewed_out accepts Signs h room worker session limit tx renter a made sound fits =
    renewed_gives (λ m. replays accepts h m ≡ true) accepts Signs h room worker session tx renter a made
    (λ r added host new fine.
    let whole = finished tx added renter host in
    let stored = renewed_stored h session tx r sound in
    whole_named accepts h session limit tx whole fits (whole_revisions tx added renter host) r stored (whole_renews accepts h session tx added renter host whole refl r stored new fine))
