-- What is asked of a due contract, and the job that is made of it.
use Rattle.std.proofs.Common.{◌≡◌, ◌≢◌, ℕ, zero, suc, ◌+◌, ◌*◌, ◌/◌, ◌<◌, ◌≤◌, ◌&&◌, Bool, true, false, List, [], ◌∷◌, All, length, if◌then◌else◌, Option, Some, None, IfSome, IsTrue, refl, sym, ap, ◌∙◌, subst, arith, get_or}
use Rattle.std.specs.Prelude.{nat_le, not, ◌==◌, ◌||◌, slice_get}
use Rattle.std.specs.Option.{option_map, option_map_or}
use Rattle.std.proofs.lemmas.Bool.{eqb-false, leb-true}
use Rattle.std.proofs.lemmas.List.{length-map}
use Rattle.std.proofs.lemmas.List.Elements.{All-cons, All-head, All-nil, All-tail}
use Rattle.std.proofs.Math.Nat.{mul-zero}
use Rattle.std.specs.Str.{bytes_eq}
use Rattle.sia_merkle.specs.Roots.{leaf_count}
use Rattle.sia_prover.specs.Proofs.{chosen_leaf, sector_proof}
use Rattle.sia_types.specs.declared.terms.Terms.{Terms}
use Rattle.sia_types.specs.declared.transaction.Transaction.{Transaction}
use Rattle.sia_ids.specs.Identifiers.{block_id}
use Rattle.sia_ledger.specs.Chain.{Chain, height}
use Rattle.sia_ledger.specs.Holdings.{id_at, ids, terms_of}
use Rattle.sia_records.specs.Stored.{no_sector}
use Rattle.sia_commands.specs.OutJobs.{proof_alone, proved_by}
use Rattle.sia_kept.specs.State.{Kept, IsStored, root_in, roots_of}
use Rattle.sia_host.specs.declared.outbox.Due.{Due}
use Rattle.sia_host.specs.Answered.{Host, next_height}
use Rattle.sia_host.specs.Jobs.{due_contracts, due_job, due_job_by, is_above, is_due, is_due_by, next_after, trigger_of}
use Rattle.sia_host.specs.Least.{is_up_to, least_by, lesser}
use Rattle.sia_host.specs.Outbox.{due_by, due_now}
use Rattle.sia_host.proofs.Walked.{walk_ends}

-- a storage proof by the trigger and the number of sectors
abbrev made_by : (ℕ → List ℕ) → Host → Kept → List ℕ → ℕ → Transaction
made_by bytes h c trigger count =
    let place = chosen_leaf trigger c.id count h.settings.sector / leaf_count h.settings.sector in
    proof_alone (sector_proof (bytes (get_or c.sectors place no_sector).slot) place (roots_of c) trigger c.id)

-- what is handed out of a due contract is made, with the bytes of the slot, the job of that contract
pub due_is_made : (bytes : ℕ → List ℕ) (h : Host) (c : Kept) (due : Due) → due_now h c ≡ Some due → due_job bytes h c ≡ Some (proved_by due.asked (bytes due.slot))
unfolding due_job_by proved_by
due_is_made bytes h c due = by_terms (terms_of h.state.chain c.id)
  where
    same : (trigger : List ℕ) → made_by bytes h c trigger (length c.sectors) ≡ made_by bytes h c trigger (length (roots_of c))
    same trigger = ap (made_by bytes h c trigger) (sym (length-map c.sectors root_in))

    made : (terms : Terms) → due_by h c terms ≡ due → made_by bytes h c (trigger_of h terms) (length c.sectors) ≡ proved_by due.asked (bytes due.slot)
    made terms is = same (trigger_of h terms) ∙ ap (λ (d : Due). proved_by d.asked (bytes d.slot)) is

    by_terms : (terms : Option Terms) → option_map (due_by h c) terms ≡ Some due → option_map (due_job_by bytes h c) terms ≡ Some (proved_by due.asked (bytes due.slot))
    by_terms None is = (cc)
    by_terms (Some terms) is = let same : due_by h c terms ≡ due = (cc) in ap Some (made terms same)

-- a due contract that is found

-- what holds of both holds of the lesser
lesser_fits : {X : Type 0} (P : X → Type 0) (id : X → List ℕ) (y : X) (found : Option X) (x : X) → P y → (found ≡ Some x → P x) → lesser id y found ≡ Some x → P x
lesser_fits P id y None x here later is = let same : y ≡ x = (cc) in subst P same here
lesser_fits P id y (Some other) x here later is = choose (is_up_to (id y) (id other)) is
  where
    choose : (b : Bool) → (if b then Some y else Some other) ≡ Some x → P x
    choose true is = let same : y ≡ x = (cc) in subst P same here
    choose false is = later is

-- what holds of each that fits holds of the least that fits
least_fits : {X : Type 0} (P : X → Type 0) (id : X → List ℕ) (fits : X → Bool) (xs : List X) (x : X) → All (λ y. fits y ≡ true → P y) xs → least_by id fits xs ≡ Some x → P x
unfolding least_by
least_fits P id fits [] x all is = (cc)
least_fits P id fits (y ∷ ys) x all is = by (fits y) refl (least_fits P id fits ys x (All-tail (λ z. fits z ≡ true → P z) y ys all)) is
  where
    by : (b : Bool) → fits y ≡ b → (least_by id fits ys ≡ Some x → P x) → (if b then lesser id y (least_by id fits ys) else least_by id fits ys) ≡ Some x → P x
    by true fit later is = lesser_fits P id y (least_by id fits ys) x (All-head (λ z. fits z ≡ true → P z) y ys all fit) later is
    by false fit later is = later is

and_left : (a b : Bool) → (a && b) ≡ true → a ≡ true
and_left true b is = refl
and_left false b is = (cc)

-- each is due where it fits, and stores what it has
each_due : (h : Host) (p : Kept → Bool) (xs : List Kept) → All (IsStored h.settings.sector h.settings.host_key) xs → All (λ c. (is_due h c && p c) ≡ true → (is_due h c ≡ true) × IsStored h.settings.sector h.settings.host_key c) xs
each_due h p [] all = All-nil (λ c. (is_due h c && p c) ≡ true → (is_due h c ≡ true) × IsStored h.settings.sector h.settings.host_key c)
each_due h p (c ∷ cs) all =
    All-cons (λ k. (is_due h k && p k) ≡ true → (is_due h k ≡ true) × IsStored h.settings.sector h.settings.host_key k) c cs
    (λ fit. (and_left (is_due h c) (p c) fit, All-head (IsStored h.settings.sector h.settings.host_key) c cs all)) (each_due h p cs (All-tail (IsStored h.settings.sector h.settings.host_key) c cs all))

-- the next due contract is due, and stores what it has
pub next_is_due : (h : Host) (id : List ℕ) (first : Bool) (c : Kept) → All (IsStored h.settings.sector h.settings.host_key) h.state.contracts → next_after id first (due_contracts h) ≡ Some c → (is_due h c ≡ true) × IsStored h.settings.sector h.settings.host_key c
unfolding due_contracts
next_is_due h id first c all is =
    let behind = λ (x : Kept). first || is_above x.id id in
    let least = λ (x : Kept). is_due h x && behind x in
    least_fits (λ (x : Kept). (is_due h x ≡ true) × IsStored h.settings.sector h.settings.host_key x) (λ (x : Kept). x.id) least h.state.contracts c (each_due h behind h.state.contracts all)
    (walk_ends (λ (x : Kept). x.id) behind (is_due h) h.state.contracts (least_by (λ (x : Kept). x.id) least h.state.contracts) refl ∙ is)

-- so it is, if there is one
pub found_due : (h : Host) (id : List ℕ) (first : Bool) (found : Option Kept) → All (IsStored h.settings.sector h.settings.host_key) h.state.contracts → found ≡ next_after id first (due_contracts h) → IfSome found (λ c. IsTrue (is_due h c) × IsStored h.settings.sector h.settings.host_key c)
found_due h id first None all is = tt
found_due h id first (Some c) all is = next_is_due h id first c all (sym is)

-- by the terms by which it runs
pub due_by_terms : (h : Host) (c : Kept) (terms : Terms) → is_due h c ≡ true → terms_of h.state.chain c.id ≡ Some terms → is_due_by h c terms ≡ true
due_by_terms h c terms due runs = subst (λ found. option_map_or (is_due_by h c) found false ≡ true) runs due

due_parts : (size start next : ℕ) (e f g : Bool) → (not (size == 0) && nat_le start next && e && f && g) ≡ true → (0 < size) × (start ≤ next)
due_parts size start next e f g is = cases (size == 0) (nat_le start next) refl refl is
  where
    cases : (a b : Bool) → (size == 0) ≡ a → nat_le start next ≡ b → (not a && b && e && f && g) ≡ true → (0 < size) × (start ≤ next)
    cases true b none under is = (cc)
    cases false false none under is = (cc)
    cases false true none under is = (omega (arith, eqb-false size 0 none), leb-true start next under)

-- it stores some sectors, and the chain has come to its window
pub due_has : (h : Host) (c : Kept) (terms : Terms) → is_due_by h c terms ≡ true → IsStored h.settings.sector h.settings.host_key c → (0 < length c.sectors) × (terms.start ≤ height h.state.chain + 1)
due_has h c terms due stored =
    let parts = due_parts c.newest.size terms.start (next_height h) (nat_le (next_height h) terms.end) (terms.size == c.newest.size) (bytes_eq terms.root c.newest.root) due in
    (some (length c.sectors) refl (rw stored.size at parts.0), parts.1)
  where
    some : (n : ℕ) → length c.sectors ≡ n → 0 < h.settings.sector * length c.sectors → 0 < n
    some zero none above =
        let none_stored : h.settings.sector * length c.sectors ≡ 0 = ap (λ n. h.settings.sector * n) none ∙ mul-zero h.settings.sector in
        absurd (omega (arith, above, none_stored))
    some (suc n) many above = omega arith

-- there is a block at each height that the chain has come to
pub has_block : (chain : Chain) (at : ℕ) → at ≤ height chain → id_at chain at ≢ None
has_block chain at within none = has at (ids chain) (omega (arith, within, length-map chain.blocks block_id)) none
  where
    has : (i : ℕ) (xs : List (List ℕ)) → i < length xs → slice_get xs i ≢ None
    has i [] below none = omega (arith, below)
    has zero (x ∷ xs) below none = (cc)
    has (suc i) (x ∷ xs) below none = has i xs (omega (arith, below)) none
