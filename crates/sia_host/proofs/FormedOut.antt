-- A formation that a host keeps follows on what it knew.
use Rattle.std.proofs.Common.{◌≡◌, ◌∙◌, ℕ, Bool, true, false, not, ◌&&◌, ◌==◌, List, [], ◌∷◌, length, Option, Some, None, MatchOption, Result, Ok, Err, refl, sym, ap, subst}
use Rattle.std.specs.Option.{is_none}
use Rattle.sia_encoding.specs.Answer.{◌>>=◌, unless}
use Rattle.sia_encoding.specs.Firsts.{broken, ◌or_else◌}
use Rattle.sia_diff.proofs.Counts.{left_of_and, right_of_and}
use Rattle.sia_types.specs.declared.file_contracts.FileContract.{FileContract}
use Rattle.sia_types.specs.declared.settings.Settings.{Settings}
use Rattle.sia_types.specs.declared.signature.Signature.{Signature}
use Rattle.sia_types.specs.declared.transaction.Transaction.{Transaction}
use Rattle.sia_ids.specs.Transactions.{contract_id}
use Rattle.sia_rhp.specs.declared.request_bodies.FormRequest.{FormRequest}
use Rattle.sia_rules.specs.declared.fault.BlockFault.{BlockFault}
use Rattle.sia_rules.specs.declared.fault.BlockFault.TheVariants as block_fault
use Rattle.sia_ledger.specs.Refusal.{set_refusal}
use Rattle.sia_forms.specs.declared.fault.FormFault.{FormFault}
use Rattle.sia_forms.specs.declared.fault.FormFault.TheVariants as form_fault
use Rattle.sia_forms.specs.declared.funding.Additions.{Additions}
use Rattle.sia_forms.specs.Building.{finished}
use Rattle.sia_forms.specs.Checks.{Asked, asked_to_form, begins_with, collateral_within, contract_answer, form_answer, has_no_other_part, host_value_of, keeps_window, one_contract, pays_parties, terms_fault}
use Rattle.sia_forms.specs.Parties.{both_address, zero_hash}
use Rattle.sia_records.specs.declared.host_record.HostRecord.{HostRecord}
use Rattle.sia_records.specs.declared.host_record.HostRecord.TheVariants as records
use Rattle.sia_commands.specs.declared.call.Call.{Call}
use Rattle.sia_commands.specs.declared.codes.TheConstants.{BAD_CONTRACT}
use Rattle.sia_commands.specs.declared.event.Kind.TheVariants as kind
use Rattle.sia_commands.specs.declared.step.Room.{Room}
use Rattle.sia_kept.specs.declared.session.Session.{Session}
use Rattle.sia_kept.specs.State.{is_among}
use Rattle.sia_host.specs.Answered.{Host, Reaction, idle_now, lacks_room, refused, settings_now}
use Rattle.sia_host.specs.Forming.{FormsSigned, IsFormSigned, IsProposed, by_terms, form_judged, form_kept, form_unless, funded, is_formed, keeping_fault}
use Rattle.sia_host.specs.Replaying.{begins_so, formed_replays, has_coins_alone, is_new, replays}
use Rattle.sia_host.proofs.Sound.{whole_new}

-- a call that is refused makes no record
pub refused_none : (h : Host) (call : Call) (contract : Option (List ℕ)) (code : ℕ) (a : Reaction) (made : HostRecord) → a ≡ refused h call contract code → a.made ≡ Some made → ⊥
refused_none h call contract code a made is some =
    let none : a.made ≡ None = ap (λ (r : Reaction). r.made) is in
    absurd (let same : None ≡ Some made = sym none ∙ some in cc)

-- what is kept breaks no rule
pub nothing_broken : (full : Bool) (fault : Option BlockFault) → keeping_fault full fault ≡ None → fault ≡ None
nothing_broken full None is = refl
nothing_broken true (Some (block_fault.Signature t fault)) is = (cc)
nothing_broken false (Some (block_fault.Signature t fault)) is = (cc)
nothing_broken full (Some _) is = (cc)

-- what the one contract of a formation that is accepted says
pub record FormedTerms (tx : Transaction) (address : List ℕ) (s : Settings) : Type 0 where
  pub fit : ((length tx.revisions == 0) && has_no_other_part tx) ≡ true
  pub terms : FileContract
  pub one : tx.contracts ≡ terms ∷ []
  pub begins : begins_with 0 zero_hash address terms ≡ true
  pub pays : pays_parties s 0 terms.valid terms.missed ≡ true

-- a contract that is answered begins with what is asked, and pays both parties
pub points_pass : (s : Settings) (asked : Asked) (c : FileContract) (collateral : ℕ) → contract_answer s asked c ≡ Ok collateral
    → (begins_with asked.size asked.root asked.address c ≡ true) × (pays_parties s asked.risk c.valid c.missed ≡ true)
unfolding contract_answer terms_fault
points_pass s asked c collateral = by (begins_with asked.size asked.root asked.address c) (pays_parties s asked.risk c.valid c.missed)
  where
    by : (b p : Bool)
        → (unless (broken (not b) (form_fault.BadContract 1) or_else broken (not p) (form_fault.BadContract 2) or_else broken (not (keeps_window s c)) (form_fault.BadContract 3))
        >>= (λ _. collateral_within s asked.least (host_value_of c.valid))) ≡ Ok collateral → (b ≡ true) × (p ≡ true)
    by true true is = (refl, refl)
    by true false is = (cc)
    by false p is = (cc)

form_says : (tx : Transaction) (key : List ℕ) (s : Settings) (collateral : ℕ) → form_answer tx key s ≡ Ok collateral → FormedTerms tx (both_address key s.host_key) s
unfolding form_answer
form_says tx key s collateral = by ((length tx.revisions == 0) && has_no_other_part tx) tx.contracts refl refl
  where
    by : (fit : Bool) (cs : List FileContract) → ((length tx.revisions == 0) && has_no_other_part tx) ≡ fit → tx.contracts ≡ cs
        → (one_contract fit cs >>= (λ c. contract_answer s (asked_to_form s (both_address key s.host_key)) c)) ≡ Ok collateral → FormedTerms tx (both_address key s.host_key) s
    by true [] fit one is = (cc)
    by true (c ∷ []) fit one is =
        let passed = points_pass s (asked_to_form s (both_address key s.host_key)) c collateral is in
        record { fit = fit; terms = c; one = one; begins = passed.0; pays = passed.1 }
    by true (c ∷ other ∷ more) fit one is = (cc)
    by false cs fit one is = (cc)

-- what is judged so
judged_says : (h : Host) (session : ℕ) (request : FormRequest) (collateral : ℕ) → form_judged h session request ≡ Ok collateral → FormedTerms request.transaction (both_address request.renter_key h.settings.host_key) (settings_now h)
judged_says h session request collateral = by (idle_now h session) (form_answer request.transaction request.renter_key (settings_now h)) refl
  where
    by : (live : Result Session ℕ) (answer : Result ℕ FormFault) → form_answer request.transaction request.renter_key (settings_now h) ≡ answer
        → ((live >>= (λ _. by_terms answer)) >>= funded h) ≡ Ok collateral → FormedTerms request.transaction (both_address request.renter_key h.settings.host_key) (settings_now h)
    by (Err code) answer at is = (cc)
    by (Ok live) (Err fault) at is = (cc)
    by (Ok live) (Ok found) at is = form_says request.transaction request.renter_key (settings_now h) found at

all_four : (a b c d : Bool) → a ≡ true → b ≡ true → c ≡ true → d ≡ true → (a && b && c && d) ≡ true
all_four a b c d first second third fourth = rw (first, second, third, fourth) refl

pub both_true : (a b : Bool) → a ≡ true → b ≡ true → (a && b) ≡ true
both_true a b first second = rw (first, second) refl

-- a whole transaction whose contract isn't known and that breaks no rule is new
pub whole_fresh : (accepts : List ℕ → List ℕ → List ℕ → Bool) (h : Host) (tx : Transaction) (added : Additions) (renter host : List Signature) (whole : Transaction) → whole ≡ finished tx added renter host
    → is_formed h tx added ≡ false → set_refusal accepts h.state.chain whole ≡ None → is_new accepts h whole ≡ true
whole_fresh accepts h tx added renter host whole is new sound =
    let apart : is_among (contract_id whole 0) h.state.contracts ≡ false = whole_new h tx added renter host whole new is in
    both_true (not (is_among (contract_id whole 0) h.state.contracts)) (is_none (set_refusal accepts h.state.chain whole)) (ap not apart) (ap is_none sound)

-- such a formation follows
whole_follows : (accepts : List ℕ → List ℕ → List ℕ → Bool) (h : Host) (key : List ℕ) (tx : Transaction) (added : Additions) (renter host : List Signature) (whole : Transaction) → whole ≡ finished tx added renter host
    → FormedTerms tx (both_address key h.settings.host_key) (settings_now h) → is_formed h tx added ≡ false → set_refusal accepts h.state.chain whole ≡ None → formed_replays accepts h key whole ≡ true
unfolding finished
whole_follows accepts h key tx added renter host whole is said new sound =
    let revisions : (length whole.revisions == 0) ≡ true = ap (λ (t : Transaction). length t.revisions == 0) is ∙ left_of_and (length tx.revisions == 0) (has_no_other_part tx) said.fit in
    let others : has_coins_alone whole ≡ true = ap has_coins_alone is ∙ left_of_and (has_coins_alone tx) (length tx.signatures == 0) (right_of_and (length tx.revisions == 0) (has_no_other_part tx) said.fit) in
    let contracts : whole.contracts ≡ said.terms ∷ [] = ap (λ (t : Transaction). t.contracts) is ∙ said.one in
    let begins : begins_so h key whole.contracts ≡ true = ap (begins_so h key) contracts ∙ both_true _ _ said.begins said.pays in
    let fresh : is_new accepts h whole ≡ true = whole_fresh accepts h tx added renter host whole is new sound in
    all_four (length whole.revisions == 0) (has_coins_alone whole) (begins_so h key whole.contracts) (is_new accepts h whole) revisions others begins fresh

-- what is shown of a formation that breaks no rule holds of what is kept
kept_gives : (Q : HostRecord → Type 0) (accepts : List ℕ → List ℕ → List ℕ → Bool) (h : Host) (room : Room) (call : Call) (key : List ℕ) (tx : Transaction) (signatures : List Signature) (a : Reaction) (made : HostRecord)
    → (set_refusal accepts h.state.chain tx ≡ None → Q (records.Formed key tx)) → a ≡ form_kept accepts h room call key tx signatures → a.made ≡ Some made → Q made
kept_gives Q accepts h room call key tx signatures a made gives = by (keeping_fault (lacks_room room (records.Formed key tx)) (set_refusal accepts h.state.chain tx)) refl
  where
    by : (fault : Option ℕ) → keeping_fault (lacks_room room (records.Formed key tx)) (set_refusal accepts h.state.chain tx) ≡ fault → a ≡ form_unless h call key tx signatures fault → a.made ≡ Some made → Q made
    by (Some code) at is some = absurd (refused_none h call None code a made is some)
    by None at is some =
        let formed : a.made ≡ Some (records.Formed key tx) = ap (λ (r : Reaction). r.made) is in
        let both : Some (records.Formed key tx) ≡ Some made = sym formed ∙ some in
        let same : records.Formed key tx ≡ made = (cc) in
        subst Q same (gives (nothing_broken (lacks_room room (records.Formed key tx)) (set_refusal accepts h.state.chain tx) at))

-- what is shown of each formation that is accepted, isn't known and breaks no rule holds of what is signed and kept
pub formed_gives : (Q : HostRecord → Type 0) (accepts : List ℕ → List ℕ → List ℕ → Bool) (Signs : List ℕ → List ℕ → Type 0) (h : Host) (room : Room) (worker session : ℕ) (request : FormRequest) (renter : List Signature) (a : Reaction) (made : HostRecord)
    → ((collateral : ℕ) (added : Additions) (host : List Signature) → form_judged h session request ≡ Ok collateral → is_formed h request.transaction added ≡ false
    → set_refusal accepts h.state.chain (finished request.transaction added renter host) ≡ None → Q (records.Formed request.renter_key (finished request.transaction added renter host)))
    → IsFormSigned accepts Signs h room worker session request renter a → a.made ≡ Some made → Q made
formed_gives Q accepts Signs h room worker session request renter a made gives = by (form_judged h session request) refl
  where
    call : Call
    call = record { worker = worker; session = session; kind = kind.FormSign }

    signed : (added : Additions) (known : Bool) (collateral : ℕ) → is_formed h request.transaction added ≡ known → form_judged h session request ≡ Ok collateral
        → MatchOption (broken known BAD_CONTRACT) (FormsSigned accepts Signs h room call request renter added a) (λ code. a ≡ refused h call None code) → a.made ≡ Some made → Q made
    signed added true collateral new at is some = absurd (refused_none h call None BAD_CONTRACT a made is some)
    signed added false collateral new at is some =
        kept_gives Q accepts h room call request.renter_key (finished request.transaction added renter is.0) is.0 a made (gives collateral added is.0 at new) is.2 some

    by : (judged : Result ℕ ℕ) → form_judged h session request ≡ judged → IsProposed h call None request.transaction judged (FormsSigned accepts Signs h room call request renter) a → a.made ≡ Some made → Q made
    by (Err code) at is some = absurd (refused_none h call None code a made is some)
    by (Ok collateral) at is some = signed is.0 (is_formed h request.transaction is.0) collateral refl at is.2 some

-- a formation that is signed and kept
pub formed_out : (accepts : List ℕ → List ℕ → List ℕ → Bool) (Signs : List ℕ → List ℕ → Type 0) (h : Host) (room : Room) (worker session : ℕ) (request : FormRequest) (renter : List Signature) (a : Reaction) (made : HostRecord)
    → IsFormSigned accepts Signs h room worker session request renter a → a.made ≡ Some made → replays accepts h made ≡ true
unfolding replays
formed_out accepts Signs h room worker session request renter a made =
    formed_gives (λ m. replays accepts h m ≡ true) accepts Signs h room worker session request renter a made
    (λ collateral added host at new sound.
    whole_follows accepts h request.renter_key request.transaction added renter host (finished request.transaction added renter host) refl (judged_says h session request collateral at) new sound)
