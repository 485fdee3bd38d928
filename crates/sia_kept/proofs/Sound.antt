-- Hosts stay sound: a contract that begins has an identifier of its own, and the newest revision of each stores its sectors.
use Rattle.std.proofs.Common.{◌≡◌, ◌∙◌, ◌≤◌, ℕ, Bool, true, false, List, [], ◌∷◌, ◌++◌, All, length, Option, Some, None, if◌then◌else◌, refl, sym, subst, ap}
use Rattle.std.specs.Prelude.{nat_le}
use Rattle.std.specs.List.{filter, range_with_len}
use Rattle.std.specs.Option.{option_to_list}
use Rattle.std.specs.Str.{bytes_eq}
use Rattle.std.proofs.lemmas.List.{append-nil}
use Rattle.std.proofs.lemmas.Bool.{le-leb}
use Rattle.std.proofs.lemmas.List.Elements.{All-append, All-cons, All-head, All-nil, All-tail}
use Rattle.sia_encoding.specs.declared.limits.TheConstants.{CONTRACT_SECTORS, TOUCHED_PLACES}
use Rattle.sia_diff.specs.DiffSteps.{counted_steps, is_fit, is_touched, touch_count, touched_places}
use Rattle.sia_ids.specs.Transactions.{contract_id}
use Rattle.sia_types.specs.declared.file_contracts.FileContract.{FileContract}
use Rattle.sia_types.specs.declared.file_contracts.Revision.{Revision}
use Rattle.sia_types.specs.declared.transaction.Transaction.{Transaction}
use Rattle.sia_records.specs.declared.change.Change.{Change}
use Rattle.sia_records.specs.Stored.{Stored, stored_after}
use Rattle.sia_kept.specs.State.{Kept, AreApart, IsSound, IsStored, after_renewal, changed_at, cleared_by, contract_among, formed_by, is_among, new_contract, renewed_by, revised_contract}
use Rattle.sia_kept.proofs.Apart.{among_changed, apart_changed, apart_more, same_bytes, unchanged}

-- the contract that a transaction forms has the transaction's identifier
formed_apart : (host_key renter_key : List ℕ) (tx : Transaction) (sectors : List Stored) (terms : List FileContract) (contracts : List Kept)
    → AreApart contracts → is_among (contract_id tx 0) contracts ≡ false → AreApart (contracts ++ formed_by host_key renter_key tx sectors terms)
unfolding new_contract
formed_apart host_key renter_key tx sectors [] contracts are new = subst AreApart (sym (append-nil contracts)) are
formed_apart host_key renter_key tx sectors (terms ∷ others) contracts are new = apart_more contracts (new_contract host_key renter_key tx sectors terms) are new

-- a host stays sound with it, where it stores what it has
pub sound_formed : (sector : ℕ) (host_key renter_key : List ℕ) (tx : Transaction) (old new : List Kept) (kept : Option Kept)
    → IsSound sector host_key old → is_among (contract_id tx 0) old ≡ false → All (IsStored sector host_key) (formed_by host_key renter_key tx [] tx.contracts)
    → option_to_list kept ≡ formed_by host_key renter_key tx [] tx.contracts → new ≡ old ++ option_to_list kept → IsSound sector host_key new
sound_formed sector host_key renter_key tx old new kept sound none stores is grown =
    let same : new ≡ old ++ formed_by host_key renter_key tx [] tx.contracts = grown ∙ ap (λ xs. old ++ xs) is in
    record {
      size = sound.size;
      apart = subst AreApart (sym same) (formed_apart host_key renter_key tx [] tx.contracts old sound.apart none);
      stored = subst (λ xs. All (IsStored sector host_key) xs) (sym same) (All-append (IsStored sector host_key) old (formed_by host_key renter_key tx [] tx.contracts) sound.stored stores);
    }

-- each contract stores what it has, where the one that is changed does
stored_changed : (sector : ℕ) (host_key id : List ℕ) (f : Kept → Kept) (xs : List Kept) → AreApart xs → All (IsStored sector host_key) xs
    → ((c : Kept) → contract_among id xs ≡ Some c → IsStored sector host_key (f c)) → All (IsStored sector host_key) (changed_at id f xs)
stored_changed sector host_key id f [] are all so = All-nil (IsStored sector host_key)
stored_changed sector host_key id f (x ∷ xs) are all so = cases (bytes_eq x.id id) refl (stored_changed sector host_key id f xs are.1 (All-tail (IsStored sector host_key) x xs all)) so
  where
    cases : (b : Bool) → bytes_eq x.id id ≡ b → (((c : Kept) → contract_among id xs ≡ Some c → IsStored sector host_key (f c)) → All (IsStored sector host_key) (changed_at id f xs))
        → ((c : Kept) → (if b then Some x else contract_among id xs) ≡ Some c → IsStored sector host_key (f c)) → All (IsStored sector host_key) ((if b then f x else x) ∷ changed_at id f xs)
    cases true at rest so =
        let none : is_among id xs ≡ false = subst (λ z. is_among z xs ≡ false) (same_bytes x.id id at) are.0 in
        All-cons (IsStored sector host_key) (f x) (changed_at id f xs) (so x refl) (subst (λ ys. All (IsStored sector host_key) ys) (sym (unchanged id f xs none)) (All-tail (IsStored sector host_key) x xs all))
    cases false at rest so = All-cons (IsStored sector host_key) x (changed_at id f xs) (All-head (IsStored sector host_key) x xs all) (rest so)

-- a host stays sound with a revision that stores what it makes of its contract's sectors
pub sound_revised : (sector : ℕ) (host_key : List ℕ) (revision : Revision) (renter host : List ℕ) (changes : List Change) (old : List Kept) → IsSound sector host_key old
    → ((c : Kept) → contract_among revision.parent old ≡ Some c → IsStored sector host_key (revised_contract revision renter host changes c))
    → IsSound sector host_key (changed_at revision.parent (revised_contract revision renter host changes) old)
sound_revised sector host_key revision renter host changes old sound so =
    let f = revised_contract revision renter host changes in
    record { size = sound.size; apart = apart_changed revision.parent f (λ c. refl) old sound.apart; stored = stored_changed sector host_key revision.parent f old sound.apart sound.stored so }

-- a renewal of this contract leaves what stores the sectors: the old one nothing, and the new one those that pass on
pub record PassesOn (sector : ℕ) (host_key : List ℕ) (tx : Transaction) (revision : Revision) (c : Kept) : Type 0 where
  pub cleared : IsStored sector host_key (cleared_by tx revision c)
  pub renewed : All (IsStored sector host_key) (formed_by host_key c.renter_key tx c.sectors tx.contracts)

-- a host stays sound with a renewal whose contract isn't known, and that passes the sectors on
pub sound_renewed : (sector : ℕ) (host_key : List ℕ) (tx : Transaction) (old : List Kept) (revision : Revision) → IsSound sector host_key old → is_among (contract_id tx 0) old ≡ false
    → ((c : Kept) → contract_among revision.parent old ≡ Some c → PassesOn sector host_key tx revision c)
    → IsSound sector host_key (after_renewal host_key tx old (revision ∷ []))
sound_renewed sector host_key tx old revision sound none passes = by (contract_among revision.parent old) refl
  where
    apart : AreApart (changed_at revision.parent (cleared_by tx revision) old)
    apart = apart_changed revision.parent (cleared_by tx revision) (λ c. refl) old sound.apart

    new : is_among (contract_id tx 0) (changed_at revision.parent (cleared_by tx revision) old) ≡ false
    new = among_changed (contract_id tx 0) revision.parent (cleared_by tx revision) (λ c. refl) old ∙ none

    stored : All (IsStored sector host_key) (changed_at revision.parent (cleared_by tx revision) old)
    stored = stored_changed sector host_key revision.parent (cleared_by tx revision) old sound.apart sound.stored (λ c is. (passes c is).cleared)

    by : (found : Option Kept) → contract_among revision.parent old ≡ found → IsSound sector host_key (changed_at revision.parent (cleared_by tx revision) old ++ renewed_by host_key tx found)
    by None is = subst (IsSound sector host_key) (sym (append-nil (changed_at revision.parent (cleared_by tx revision) old))) (record { size = sound.size; apart = apart; stored = stored })
    by (Some c) is = record {
      size = sound.size;
      apart = formed_apart host_key c.renter_key tx c.sectors tx.contracts (changed_at revision.parent (cleared_by tx revision) old) apart new;
      stored = All-append (IsStored sector host_key) (changed_at revision.parent (cleared_by tx revision) old) (formed_by host_key c.renter_key tx c.sectors tx.contracts) stored (passes c is).renewed;
    }

-- the contract that is found stores what it has
pub found_stores : (sector : ℕ) (host_key id : List ℕ) (xs : List Kept) (c : Kept) → All (IsStored sector host_key) xs → contract_among id xs ≡ Some c → IsStored sector host_key c
found_stores sector host_key id [] c all is = (cc)
found_stores sector host_key id (x ∷ xs) c all is = cases (bytes_eq x.id id) (found_stores sector host_key id xs c (All-tail (IsStored sector host_key) x xs all)) is
  where
    cases : (b : Bool) → (contract_among id xs ≡ Some c → IsStored sector host_key c) → (if b then Some x else contract_among id xs) ≡ Some c → IsStored sector host_key c
    cases true later is = let same : x ≡ c = (cc) in subst (λ k. IsStored sector host_key k) same (All-head (IsStored sector host_key) x xs all)
    cases false later is = later is

-- a revision that changes no sector

none_touched : (count : ℕ) (places : List ℕ) → filter (is_touched count []) places ≡ []
unfolding is_touched touch_count counted_steps
none_touched count [] = refl
none_touched count (place ∷ places) = none_touched count places

-- no change is fit
pub nothing_fits : (count : ℕ) → count ≤ CONTRACT_SECTORS → is_fit count [] ≡ true
unfolding is_fit counted_steps touched_places
nothing_fits count few = rw (le-leb count CONTRACT_SECTORS few) (ap (λ places. nat_le (length places) TOUCHED_PLACES) (none_touched count (range_with_len 0 count)))

-- what stores the sectors stores them after no change
pub stored_same : (sector : ℕ) (host_key : List ℕ) (revision : Revision) (renter host : List ℕ) (c : Kept) → IsStored sector host_key (record c { newest = revision }) → IsStored sector host_key (revised_contract revision renter host [] c)
unfolding stored_after
stored_same sector host_key revision renter host c stored = record { id = stored.id; parent = stored.parent; address = stored.address; few = stored.few; size = stored.size; root = stored.root }
