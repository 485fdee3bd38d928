-- Who makes a record that names a known contract holds that contract, and the contract stays known.
use Rattle.std.proofs.Common.{◌≡◌, ◌∙◌, ◌*◌, ℕ, Bool, true, false, ◌||◌, List, [], ◌∷◌, ◌++◌, length, Option, Some, None, Result, Ok, Err, if◌then◌else◌, refl, sym, ap, subst}
use Rattle.std.specs.List.{list_any}
use Rattle.std.specs.Option.{is_some}
use Rattle.std.specs.Str.{bytes_eq}
use Rattle.sia_encoding.specs.Answer.{◌>>=◌, unless}
use Rattle.sia_encoding.specs.Firsts.{broken}
use Rattle.sia_merkle.specs.Roots.{node_root_of}
use Rattle.sia_types.specs.Transaction.{transaction}
use Rattle.sia_types.specs.declared.file_contracts.Revision.{Revision}
use Rattle.sia_types.specs.declared.signature.Signature.{Signature}
use Rattle.sia_types.specs.declared.transaction.Transaction.{Transaction}
use Rattle.sia_ids.specs.Transactions.{contract_id}
use Rattle.sia_price.specs.Payments.{revision_with}
use Rattle.sia_forms.specs.declared.funding.Additions.{Additions}
use Rattle.sia_forms.specs.Building.{finished}
use Rattle.sia_records.specs.declared.change.Change.{Change}
use Rattle.sia_records.specs.declared.host_record.HostRecord.{HostRecord}
use Rattle.sia_records.specs.declared.host_record.HostRecord.TheVariants as records
use Rattle.sia_commands.specs.declared.call.Call.{Call}
use Rattle.sia_commands.specs.declared.codes.TheConstants.{CLEARED, WRONG_STATE}
use Rattle.sia_commands.specs.declared.command.Command.{Command}
use Rattle.sia_commands.specs.declared.event.Kind.TheVariants as kind
use Rattle.sia_commands.specs.declared.reply.Reply.{Reply}
use Rattle.sia_commands.specs.declared.step.Room.{Room}
use Rattle.sia_kept.specs.State.{Kept, IsSound, after_renewal, changed_at, cleared_by, contract_among, contracts_after, formed_by, is_among, renewed_by, revised_contract}
use Rattle.sia_kept.proofs.Apart.{among_changed, found_id, same_bytes}
use Rattle.sia_host.specs.Answered.{Host, Reaction, Work, held_now, no_work, or_code}
use Rattle.sia_host.specs.Answers.{IsAnswer}
use Rattle.sia_host.specs.Forming.{is_formed}
use Rattle.sia_host.specs.Holding.{names}
use Rattle.sia_host.specs.Paying.{IsRevised, Payment, held_among, open_now, paid_revision, was_cleared}
use Rattle.sia_host.specs.Reading.{read_fault, read_payment, read_said, roots_fault, roots_payment, roots_said}
use Rattle.sia_host.specs.Replaying.{IsTyped}
use Rattle.sia_host.specs.Writing.{write_fault, write_payment, write_signed, write_work, written_changes, written_revision, written_roots}
use Rattle.sia_host.proofs.AnswersOut.{made_by}
use Rattle.sia_host.proofs.Callers.{call_of}
use Rattle.sia_host.proofs.CommandsOut.{applied_gives, opened_stores, reverted_gives}
use Rattle.sia_host.proofs.FormedOut.{formed_gives}
use Rattle.sia_host.proofs.Renewals.{Renews}
use Rattle.sia_host.proofs.RenewalsOut.{only_named, renewed_gives, renewed_stored, whole_revisions}
use Rattle.sia_host.proofs.RevisedOut.{held_out, revised_out}
use Rattle.sia_host.proofs.Sound.{whole_new}
use Rattle.sia_host.proofs.Writable.{same_contract}

-- the contract of a session

found_own : (id : List ℕ) (contracts : List Kept) (found : Option Kept) (c : Kept) → contract_among id contracts ≡ found → or_code WRONG_STATE found ≡ Ok c → Some id ≡ Some c.id
found_own id contracts None c at is = (cc)
found_own id contracts (Some k) c at is =
    let same : k ≡ c = (cc) in
    ap Some (sym (found_id id contracts c (at ∙ ap Some same)))

held_own : (contracts : List Kept) (held : Option (List ℕ)) (c : Kept) → (or_code WRONG_STATE held >>= held_among contracts) ≡ Ok c → held ≡ Some c.id
held_own contracts None c is = (cc)
held_own contracts (Some id) c is = found_own id contracts (contract_among id contracts) c refl is

-- a session that works with a contract holds it
opened_held : (h : Host) (session : ℕ) (c : Kept) → open_now h session ≡ Ok c → held_now h session ≡ Some c.id
opened_held h session c = by (or_code WRONG_STATE (held_now h session) >>= held_among h.state.contracts) refl
  where
    by : (holds : Result Kept ℕ) → (or_code WRONG_STATE (held_now h session) >>= held_among h.state.contracts) ≡ holds
        → (holds >>= (λ k. unless (broken (was_cleared k) CLEARED) >>= (λ _. Ok k))) ≡ Ok c → held_now h session ≡ Some c.id
    by (Err code) at is = (cc)
    by (Ok k) at is =
        let same : k ≡ c = same_contract (broken (was_cleared k) CLEARED) k c is in
        held_own h.state.contracts (held_now h session) c (at ∙ ap Ok same)

-- records that name it

-- a record that names a contract is by a session that holds it
abbrev Owns : Host → ℕ → List ℕ → HostRecord → Type 0
Owns h session contract made = names contract made ≡ true → held_now h session ≡ Some contract

-- a revision that pays
paid_owns : (h : Host) (session : ℕ) (contract : List ℕ) (c : Kept) (p : Payment) (size : ℕ) (root renter host : List ℕ) (done : List Change) → IsSound h.settings.sector h.settings.host_key h.state.contracts
    → open_now h session ≡ Ok c → Owns h session contract (records.Revised (paid_revision c p size root) renter host done)
unfolding revision_with
paid_owns h session contract c p size root renter host done sound opened named =
    let stored = opened_stores h session c sound opened in
    opened_held h session c opened ∙ ap Some (sym stored.parent ∙ same_bytes c.newest.parent contract named)

revised_owns : (accepts : List ℕ → List ℕ → List ℕ → Bool) (Signs : List ℕ → List ℕ → Type 0) (h : Host) (room : Room) (call : Call) (session : ℕ) (contract : List ℕ) (c : Kept) (p : Payment) (size : ℕ) (root renter : List ℕ)
    (done : List Change) (said : List ℕ → Reply) (work : Work) (a : Reaction) (made : HostRecord) → IsSound h.settings.sector h.settings.host_key h.state.contracts → open_now h session ≡ Ok c
    → IsRevised accepts Signs h room call c.id c.renter_key (paid_revision c p size root) renter done said work a → a.made ≡ Some made → Owns h session contract made
revised_owns accepts Signs h room call session contract c p size root renter done said work a made sound opened =
    revised_out (Owns h session contract) accepts Signs h room call c.id c.renter_key (paid_revision c p size root) renter done said work a made
    (λ host signed. paid_owns h session contract c p size root renter host done sound opened)

-- a formation forms a contract that isn't known
unknown_named : (h : Host) (tx : Transaction) (added : Additions) (renter host : List Signature) (contract : List ℕ) → is_among contract h.state.contracts ≡ true → is_formed h tx added ≡ false
    → bytes_eq (contract_id (finished tx added renter host) 0) contract ≡ true → ⊥
unknown_named h tx added renter host contract known new named =
    absurd (
    let whole = finished tx added renter host in
    let none : is_among (contract_id whole 0) h.state.contracts ≡ false = whole_new h tx added renter host whole new refl in
    let here : is_among contract h.state.contracts ≡ false = subst (λ id. is_among id h.state.contracts ≡ false) (same_bytes (contract_id whole 0) contract named) none in
    let both : true ≡ false = sym known ∙ here in
    cc)

-- one revision names what is named
one_names : (contract : List ℕ) (revisions : List Revision) (only : Revision) → revisions ≡ only ∷ [] → list_any (λ (r : Revision). bytes_eq r.parent contract) revisions ≡ true → only.parent ≡ contract
one_names contract revisions only one named = same_bytes only.parent contract (by (bytes_eq only.parent contract) (ap (list_any (λ (r : Revision). bytes_eq r.parent contract)) (sym one) ∙ named))
  where
    by : (b : Bool) → (b || false) ≡ true → b ≡ true
    by true is = refl
    by false is = (cc)

-- a renewal renews the one that its session holds
renewed_owns : (h : Host) (session limit : ℕ) (tx : Transaction) (contract : List ℕ) (r : Renews h session tx) (added : Additions) (renter host : List Signature) → IsSound h.settings.sector h.settings.host_key h.state.contracts
    → transaction.fits limit tx → is_among contract h.state.contracts ≡ true → is_formed h tx added ≡ false → Owns h session contract (records.Renewed (finished tx added renter host))
renewed_owns h session limit tx contract r added renter host sound fits known new = by (bytes_eq (contract_id (finished tx added renter host) 0) contract) refl
  where
    by : (b : Bool) → bytes_eq (contract_id (finished tx added renter host) 0) contract ≡ b → (b || list_any (λ (v : Revision). bytes_eq v.parent contract) (finished tx added renter host).revisions) ≡ true → held_now h session ≡ Some contract
    by true at named = absurd (unknown_named h tx added renter host contract known new at)
    by false at named =
        let found = only_named h session limit tx fits r (renewed_stored h session tx r sound) in
        let parent : found.0.parent ≡ contract = one_names contract (finished tx added renter host).revisions found.0 (whole_revisions tx added renter host ∙ found.1) named in
        opened_held h session r.old r.opened ∙ ap Some (sym found.2 ∙ parent)

-- who makes a record that names a known contract holds it, and is the session of its call
pub record_held : (accepts : List ℕ → List ℕ → List ℕ → Bool) (Signs : List ℕ → List ℕ → Type 0) (h : Host) (room : Room) (worker session : ℕ) (asked : Command) (a : Reaction) (made : HostRecord) (contract : List ℕ)
    → IsSound h.settings.sector h.settings.host_key h.state.contracts → IsTyped asked → is_among contract h.state.contracts ≡ true → IsAnswer accepts Signs h room worker session asked a → a.made ≡ Some made
    → names contract made ≡ true → (held_now h session ≡ Some contract) × ((call_of h worker session asked).session ≡ session)
record_held accepts Signs h room worker session asked a made contract sound typed known is some named =
    made_by ((held_now h session ≡ Some contract) × ((call_of h worker session asked).session ≡ session)) accepts Signs h room worker session asked a made (record {
      formed = (λ request renter at signed. absurd (
          formed_gives (λ m. names contract m ≡ true → ⊥) accepts Signs h room worker session request renter a made
          (λ collateral added host judged new fine. unknown_named h request.transaction added renter host contract known new) signed some named));
      written = (λ write renter at signed.
          let call : Call = record { worker = worker; session = session; kind = kind.WriteSign } in (
            held_out (held_now h session ≡ Some contract) h call (open_now h session) (write_fault h room write)
                (λ c b. IsRevised accepts Signs h room call c.id c.renter_key (written_revision h write c) renter (written_changes room write) write_signed (write_work room write c) b) a made
                (λ c opened fine revised. revised_owns accepts Signs h room call session contract c (write_payment write.request) (h.settings.sector * length (written_roots c write)) (node_root_of (written_roots c write)) renter (written_changes room write)
                write_signed (write_work room write c) a made sound opened revised some named) signed some,
            ap (λ k. (call_of h worker session k).session) at,
          ));
      read = (λ read at served.
          let call : Call = record { worker = worker; session = session; kind = kind.Read } in (
            held_out (held_now h session ≡ Some contract) h call (open_now h session) (read_fault h read)
                (λ c b. IsRevised accepts Signs h room call c.id c.renter_key (paid_revision c (read_payment read.request) c.newest.size c.newest.root) read.request.signature [] (read_said read) no_work b) a made
                (λ c opened fine revised. revised_owns accepts Signs h room call session contract c (read_payment read.request) c.newest.size c.newest.root read.request.signature [] (read_said read) no_work a made sound opened revised some named) served some,
            ap (λ k. (call_of h worker session k).session) at,
          ));
      roots = (λ request at told.
          let call : Call = record { worker = worker; session = session; kind = kind.Roots } in (
            held_out (held_now h session ≡ Some contract) h call (open_now h session) (roots_fault h request)
                (λ c b. IsRevised accepts Signs h room call c.id c.renter_key (paid_revision c (roots_payment request) c.newest.size c.newest.root) request.signature [] (roots_said c request) no_work b) a made
                (λ c opened fine revised. revised_owns accepts Signs h room call session contract c (roots_payment request) c.newest.size c.newest.root request.signature [] (roots_said c request) no_work a made sound opened revised some named) told some,
            ap (λ k. (call_of h worker session k).session) at,
          ));
      renewed = (λ tx renter at signed. let fits = subst IsTyped at typed in (
        renewed_gives (Owns h session contract) accepts Signs h room worker session tx renter a made
            (λ r added host new fine. renewed_owns h session fits.0 tx contract r added renter host sound fits.1 known new) signed some named,
        ap (λ k. (call_of h worker session k).session) at,
      ));
      applied = (λ block at applied. absurd (applied_gives (λ m. names contract m ≡ true → ⊥) accepts h room worker block a made (λ fine no. absurd (let same : false ≡ true = no in cc)) applied some named));
      reverted = (λ at reverted. absurd (reverted_gives (λ m. names contract m ≡ true → ⊥) h room worker a made (λ fine no. absurd (let same : false ≡ true = no in cc)) reverted some named));
    }) is some

-- contracts stay

among_front : (id : List ℕ) (xs ys : List Kept) → is_among id xs ≡ true → is_among id (xs ++ ys) ≡ true
among_front id [] ys is = (cc)
among_front id (x ∷ xs) ys is = by (bytes_eq x.id id) is (among_front id xs ys)
  where
    by : (b : Bool) → is_some (if b then Some x else contract_among id xs) ≡ true → (is_among id xs ≡ true → is_among id (xs ++ ys) ≡ true) → is_some (if b then Some x else contract_among id (xs ++ ys)) ≡ true
    by true is later = refl
    by false is later = later is

among_renewed : (id host_key : List ℕ) (tx : Transaction) (contracts : List Kept) (revisions : List Revision) → is_among id contracts ≡ true → is_among id (after_renewal host_key tx contracts revisions) ≡ true
among_renewed id host_key tx contracts [] is = is
among_renewed id host_key tx contracts (revision ∷ others) is =
    among_front id (changed_at revision.parent (cleared_by tx revision) contracts) (renewed_by host_key tx (contract_among revision.parent contracts))
    (among_changed id revision.parent (cleared_by tx revision) (λ c. refl) contracts ∙ is)

-- a known contract stays known
pub stays_known : (id host_key : List ℕ) (contracts : List Kept) (made : HostRecord) → is_among id contracts ≡ true → is_among id (contracts_after host_key contracts made) ≡ true
stays_known id host_key contracts (records.Block block) is = is
stays_known id host_key contracts records.Revert is = is
stays_known id host_key contracts (records.Formed renter_key tx) is = among_front id contracts (formed_by host_key renter_key tx [] tx.contracts) is
stays_known id host_key contracts (records.Revised revision renter host changes) is = among_changed id revision.parent (revised_contract revision renter host changes) (λ c. refl) contracts ∙ is
stays_known id host_key contracts (records.Renewed tx) is = among_renewed id host_key tx contracts tx.revisions is
