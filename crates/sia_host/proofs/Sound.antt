-- A formation that is answered with what the host adds forms a contract that isn't known, and that stores nothing.
use Rattle.std.proofs.Common.{◌≡◌, ◌∙◌, ◌==◌, ◌&&◌, ℕ, Bool, true, false, not, List, [], ◌∷◌, All, codes, length, Result, Ok, Err, refl, sym, subst, ap, arith}
use Rattle.std.specs.Str.{bytes_eq}
use Rattle.std.proofs.lemmas.Bool.{eqb-true}
use Rattle.std.proofs.lemmas.List.Elements.{All-cons, All-nil}
use Rattle.std.proofs.Math.Nat.{mul-zero}
use Rattle.sia_blake.proofs.Bytes.{blake2b_256-length}
use Rattle.sia_encoding.specs.Answer.{◌>>=◌, unless}
use Rattle.sia_encoding.specs.Firsts.{broken, ◌or_else◌}
use Rattle.sia_merkle.specs.Roots.{node_root_of, tree_root}
use Rattle.sia_ids.specs.Transactions.{contract_id, made_text}
use Rattle.sia_types.specs.declared.file_contracts.FileContract.{FileContract}
use Rattle.sia_types.specs.declared.settings.Settings.{Settings}
use Rattle.sia_types.specs.declared.signature.Signature.{Signature}
use Rattle.sia_types.specs.declared.transaction.Transaction.{Transaction}
use Rattle.sia_rhp.specs.declared.request_bodies.FormRequest.{FormRequest}
use Rattle.sia_forms.specs.declared.fault.FormFault.{FormFault}
use Rattle.sia_forms.specs.declared.fault.FormFault.TheVariants as form_fault
use Rattle.sia_forms.specs.declared.funding.Additions.{Additions}
use Rattle.sia_forms.specs.Building.{finished}
use Rattle.sia_forms.specs.Checks.{Asked, asked_to_form, begins_with, collateral_within, contract_answer, form_answer, has_no_other_part, host_value_of, keeps_window, one_contract, pays_parties, terms_fault}
use Rattle.sia_forms.specs.Parties.{both_address, zero_hash}
use Rattle.sia_kept.specs.declared.session.Session.{Session}
use Rattle.sia_kept.specs.State.{Kept, IsStored, first_revision, formed_by, is_among, new_contract}
use Rattle.sia_kept.proofs.Apart.{same_bytes}
use Rattle.sia_host.specs.Answered.{Host, idle_now, settings_now}
use Rattle.sia_host.specs.Forming.{by_terms, form_judged, funded, is_formed, with_additions}
use Rattle.sia_host.specs.Proposals.{IsAddition}

-- signatures don't name a contract
same_id : (tx : Transaction) (added : Additions) (renter host : List Signature) → contract_id (finished tx added renter host) 0 ≡ contract_id (with_additions tx added) 0
unfolding contract_id made_text finished
same_id tx added renter host = refl

-- so a whole transaction forms a contract that isn't known, as it does without signatures
pub whole_new : (h : Host) (tx : Transaction) (added : Additions) (renter host : List Signature) (whole : Transaction)
    → is_formed h tx added ≡ false → whole ≡ finished tx added renter host → is_among (contract_id whole 0) h.state.contracts ≡ false
whole_new h tx added renter host whole new is =
    let id : contract_id whole 0 ≡ contract_id (with_additions tx added) 0 = ap (λ t. contract_id t 0) is ∙ same_id tx added renter host in
    subst (λ i. is_among i h.state.contracts ≡ false) (sym id) new

-- what is added to a proposal doesn't make a known contract of it
pub added_new : (h : Host) (tx : Transaction) (judged : Result ℕ ℕ) (added : Additions) → IsAddition h tx judged added → is_formed h tx added ≡ false
added_new h tx (Err code) added is = elim is [ ]
added_new h tx (Ok collateral) added is = is.1

-- a contract that is answered begins with what is asked
pub begins_as_asked : (s : Settings) (asked : Asked) (c : FileContract) (collateral : ℕ) → contract_answer s asked c ≡ Ok collateral → begins_with asked.size asked.root asked.address c ≡ true
unfolding contract_answer terms_fault
begins_as_asked s asked c collateral = by (begins_with asked.size asked.root asked.address c)
  where
    by : (b : Bool)
        → (unless (broken (not b) (form_fault.BadContract 1) or_else broken (not (pays_parties s asked.risk c.valid c.missed)) (form_fault.BadContract 2) or_else broken (not (keeps_window s c)) (form_fault.BadContract 3))
        >>= (λ _. collateral_within s asked.least (host_value_of c.valid))) ≡ Ok collateral → b ≡ true
    by true is = refl
    by false is = (cc)

-- the one contract of a transaction begins with so many bytes, this root and this unlock hash
pub record Begun (tx : Transaction) (size : ℕ) (root address : List ℕ) : Type 0 where
  pub terms : FileContract
  pub one : tx.contracts ≡ terms ∷ []
  pub sized : terms.size ≡ size
  pub rooted : terms.root ≡ root
  pub addressed : terms.address ≡ address

pub begun_so : (tx : Transaction) (size : ℕ) (root address : List ℕ) (c : FileContract) → tx.contracts ≡ c ∷ [] → begins_with size root address c ≡ true → Begun tx size root address
begun_so tx size root address c one is = by (c.size == size) (bytes_eq c.root root) (c.number == 0) (bytes_eq c.address address) refl refl refl is
  where
    by : (a b n d : Bool) → (c.size == size) ≡ a → bytes_eq c.root root ≡ b → bytes_eq c.address address ≡ d → (a && b && n && d) ≡ true → Begun tx size root address
    by true true true true sized rooted addressed is =
        record { terms = c; one = one; sized = eqb-true c.size size sized; rooted = same_bytes c.root root rooted; addressed = same_bytes c.address address addressed }
    by true true true false sized rooted addressed is = (cc)
    by true true false d sized rooted addressed is = (cc)
    by true false n d sized rooted addressed is = (cc)
    by false b n d sized rooted addressed is = (cc)

form_begins : (tx : Transaction) (key : List ℕ) (s : Settings) (collateral : ℕ) → form_answer tx key s ≡ Ok collateral → Begun tx 0 zero_hash (both_address key s.host_key)
unfolding form_answer
form_begins tx key s collateral = by ((length tx.revisions == 0) && has_no_other_part tx) tx.contracts refl
  where
    by : (fit : Bool) (cs : List FileContract) → tx.contracts ≡ cs → (one_contract fit cs >>= (λ c. contract_answer s (asked_to_form s (both_address key s.host_key)) c)) ≡ Ok collateral → Begun tx 0 zero_hash (both_address key s.host_key)
    by true [] one is = (cc)
    by true (c ∷ []) one is = begun_so tx 0 zero_hash (both_address key s.host_key) c one (begins_as_asked s (asked_to_form s (both_address key s.host_key)) c collateral is)
    by true (c ∷ other ∷ more) one is = (cc)
    by false cs one is = (cc)

judged_begins : (h : Host) (session : ℕ) (request : FormRequest) (collateral : ℕ) → form_judged h session request ≡ Ok collateral → Begun request.transaction 0 zero_hash (both_address request.renter_key h.settings.host_key)
judged_begins h session request collateral = by (idle_now h session) (form_answer request.transaction request.renter_key (settings_now h)) refl
  where
    by : (live : Result Session ℕ) (answer : Result ℕ FormFault) → form_answer request.transaction request.renter_key (settings_now h) ≡ answer
        → ((live >>= (λ _. by_terms answer)) >>= funded h) ≡ Ok collateral → Begun request.transaction 0 zero_hash (both_address request.renter_key h.settings.host_key)
    by (Err code) answer at is = (cc)
    by (Ok live) (Err fault) at is = (cc)
    by (Ok live) (Ok found) at is = form_begins request.transaction request.renter_key (settings_now h) found at

pub no_root : node_root_of [] ≡ zero_hash
unfolding node_root_of tree_root
no_root = refl

-- a contract's identifier is a hash
pub length-contract_id : (tx : Transaction) → length (contract_id tx 0) ≡ 32
unfolding contract_id
length-contract_id tx = blake2b_256-length (made_text (codes "file contract") tx 0)

-- a contract that stores nothing
pub empty_stored : (sector : ℕ) (host_key renter_key : List ℕ) (tx : Transaction) (terms : FileContract) → terms.size ≡ 0 → terms.root ≡ zero_hash → terms.address ≡ both_address renter_key host_key
    → IsStored sector host_key (new_contract host_key renter_key tx [] terms)
unfolding new_contract first_revision
empty_stored sector host_key renter_key tx terms size root address =
    record { id = length-contract_id tx; parent = refl; address = address; few = omega arith; size = size ∙ sym (mul-zero sector); root = root ∙ sym no_root }

-- the contract of a formation that is answered with what the host adds stores nothing yet
pub formed_stored : (h : Host) (session : ℕ) (request : FormRequest) (added : Additions) (whole : Transaction)
    → IsAddition h request.transaction (form_judged h session request) added → whole.contracts ≡ request.transaction.contracts
    → All (IsStored h.settings.sector h.settings.host_key) (formed_by h.settings.host_key request.renter_key whole [] whole.contracts)
formed_stored h session request added whole = by (form_judged h session request) refl
  where
    Stores : Kept → Type 0
    Stores = IsStored h.settings.sector h.settings.host_key

    by : (judged : Result ℕ ℕ) → form_judged h session request ≡ judged → IsAddition h request.transaction judged added → whole.contracts ≡ request.transaction.contracts
        → All Stores (formed_by h.settings.host_key request.renter_key whole [] whole.contracts)
    by (Err code) at is same = elim is [ ]
    by (Ok collateral) at is same =
        let begun = judged_begins h session request collateral at in
        let one = new_contract h.settings.host_key request.renter_key whole [] begun.terms in
        subst (λ cs. All Stores (formed_by h.settings.host_key request.renter_key whole [] cs)) (sym (same ∙ begun.one))
        (All-cons Stores one [] (empty_stored h.settings.sector h.settings.host_key request.renter_key whole begun.terms begun.sized begun.rooted begun.addressed) (All-nil Stores))

-- the whole transaction has its contracts
pub whole_contracts : (tx : Transaction) (added : Additions) (renter host : List Signature) (whole : Transaction) → whole ≡ finished tx added renter host → whole.contracts ≡ tx.contracts
unfolding finished
whole_contracts tx added renter host whole is = ap (λ (t : Transaction). t.contracts) is
