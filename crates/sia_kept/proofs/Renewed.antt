-- The contract of a renewal is cleared, and the new one stands behind the others.
use Rattle.std.proofs.Common.{◌≡◌, ◌∙◌, ◌<◌, ℕ, suc, true, false, List, [], ◌∷◌, ◌++◌, length, map, get_or, set, Option, Some, None, Result, Ok, Err, OnOk, refl, sym, ap, arith}
use Rattle.std.specs.Prelude.{nat_lt, slice_get}
use Rattle.std.specs.List.{position, position_or_len}
use Rattle.std.specs.Option.{option_to_list}
use Rattle.std.specs.Str.{bytes_eq}
use Rattle.std.proofs.lemmas.List.{append-nil, get_or_read}
use Rattle.std.proofs.lemmas.List.Quantifiers.{position-Some}
use Rattle.sia_types.specs.declared.file_contracts.FileContract.{FileContract}
use Rattle.sia_types.specs.declared.file_contracts.Revision.{Revision}
use Rattle.sia_types.specs.declared.transaction.Transaction.{Transaction}
use Rattle.sia_records.specs.Stored.{Stored}
use Rattle.sia_kept.specs.State.{Kept, AreApart, after_renewal, changed_at, cleared_by, contract_among, formed_by, new_contract, renewed_by, signature_for}
use Rattle.sia_kept.proofs.Apart.{changed_one, found_one, same_bytes}
use Rattle.sia_kept.proofs.Revised.{none_before, unfound}

-- a contract that begins, with these sectors
begun_with : (host_key renter_key : List ℕ) (tx : Transaction) (sectors : List Stored) (terms : List FileContract)
    → map (λ (c : Kept). record c { sectors = sectors }) (formed_by host_key renter_key tx [] terms) ≡ formed_by host_key renter_key tx sectors terms
unfolding new_contract
begun_with host_key renter_key tx sectors [] = refl
begun_with host_key renter_key tx sectors (one ∷ others) = refl

-- the contract that is formed has the sectors that pass on
passed_on : (host_key renter_key : List ℕ) (tx : Transaction) (sectors : List Stored) (kept : Option Kept) → option_to_list kept ≡ formed_by host_key renter_key tx [] tx.contracts
    → map (λ (c : Kept). record c { sectors = sectors }) (option_to_list kept) ≡ formed_by host_key renter_key tx sectors tx.contracts
passed_on host_key renter_key tx sectors kept is = ap (map (λ (c : Kept). record c { sectors = sectors })) is ∙ begun_with host_key renter_key tx sectors tx.contracts

-- with no revision nothing is renewed
pub no_revision : (host_key : List ℕ) (tx : Transaction) (xs : List Kept) (revisions : List Revision) → slice_get revisions 0 ≡ None → xs ≡ after_renewal host_key tx xs revisions
no_revision host_key tx xs [] is = refl
no_revision host_key tx xs (one ∷ others) is = (cc)

-- where none has the identifier, none is found
none_among : (id : List ℕ) (xs : List Kept) (d : Kept) → ((k : ℕ) → k < length xs → bytes_eq (get_or xs k d).id id ≡ false) → contract_among id xs ≡ None
none_among id [] d all = refl
none_among id (x ∷ xs) d all = rw (all 0 (omega arith)) (none_among id xs d (λ k below. all (suc k) (omega (arith, below))))

unfound_among : (id : List ℕ) (xs : List Kept) → position (λ (c : Kept). bytes_eq c.id id) xs ≡ None → contract_among id xs ≡ None
unfound_among id [] is = refl
unfound_among id (x ∷ xs) is = none_among id (x ∷ xs) x (none_before id (x ∷ xs) x (nat_lt (position_or_len (λ (c : Kept). bytes_eq c.id id) (x ∷ xs)) (length (x ∷ xs))) refl is)

-- what a revision at the head makes of the contracts
abbrev by_revision : List ℕ → Transaction → List Kept → Revision → List Kept
by_revision host_key tx xs revision = changed_at revision.parent (cleared_by tx revision) xs ++ renewed_by host_key tx (contract_among revision.parent xs)

first_one : (host_key : List ℕ) (tx : Transaction) (xs : List Kept) (revisions : List Revision) (revision : Revision) → slice_get revisions 0 ≡ Some revision → after_renewal host_key tx xs revisions ≡ by_revision host_key tx xs revision
first_one host_key tx xs [] revision is = (cc)
first_one host_key tx xs (one ∷ others) revision is = let same : one ≡ revision = (cc) in ap (by_revision host_key tx xs) same

-- with no contract of the revision nothing is renewed
pub no_contract : (host_key : List ℕ) (tx : Transaction) (xs : List Kept) (revisions : List Revision) (revision : Revision) → slice_get revisions 0 ≡ Some revision
    → position (λ (c : Kept). bytes_eq c.id revision.parent) xs ≡ None → xs ≡ after_renewal host_key tx xs revisions
no_contract host_key tx xs revisions revision at is =
    let none : renewed_by host_key tx (contract_among revision.parent xs) ≡ [] = ap (renewed_by host_key tx) (unfound_among revision.parent xs is) in
    let same : by_revision host_key tx xs revision ≡ xs =
    ap (λ ys. changed_at revision.parent (cleared_by tx revision) xs ++ ys) none ∙ append-nil (changed_at revision.parent (cleared_by tx revision) xs) ∙ sym (unfound revision.parent (cleared_by tx revision) xs is) in
    sym (first_one host_key tx xs revisions revision at ∙ same)

-- a contract after its clearing, with these signatures
abbrev cleared_with : Revision → List (List ℕ) → Kept → Kept
cleared_with revision signatures c = record c { newest = revision; signatures = signatures; sectors = [] }

-- a contract is cleared at its place
cleared_at : (tx : Transaction) (revision : Revision) (signatures : List (List ℕ)) (xs : List Kept) (i : ℕ) (d : Kept) → AreApart xs → i < length xs → bytes_eq (get_or xs i d).id revision.parent ≡ true
    → signatures ≡ signature_for revision.parent 0 tx.signatures ∷ signature_for revision.parent 1 tx.signatures ∷ []
    → set xs i (cleared_with revision signatures (get_or xs i d)) ≡ changed_at revision.parent (cleared_by tx revision) xs
cleared_at tx revision signatures xs i d are below is both =
    let own : (get_or xs i d).id ≡ revision.parent = same_bytes (get_or xs i d).id revision.parent is in
    let signed : signatures ≡ signature_for (get_or xs i d).id 0 tx.signatures ∷ signature_for (get_or xs i d).id 1 tx.signatures ∷ [] =
    both ∙ ap (λ id. signature_for id 0 tx.signatures ∷ signature_for id 1 tx.signatures ∷ []) (sym own) in
    ap (λ s. set xs i (cleared_with revision s (get_or xs i d))) signed ∙ sym (changed_one revision.parent (cleared_by tx revision) xs i d are below is)

renewed_in : (host_key : List ℕ) (tx : Transaction) (revision : Revision) (signatures : List (List ℕ)) (xs now : List Kept) (i : ℕ) (d : Kept) → AreApart xs
    → position (λ (c : Kept). bytes_eq c.id revision.parent) xs ≡ Some i
    → signatures ≡ signature_for revision.parent 0 tx.signatures ∷ signature_for revision.parent 1 tx.signatures ∷ []
    → now ≡ set xs i (cleared_with revision signatures (get_or xs i d)) ++ formed_by host_key (get_or xs i d).renter_key tx (get_or xs i d).sectors tx.contracts
    → now ≡ by_revision host_key tx xs revision
renewed_in host_key tx revision signatures xs now i d are is both done =
    let there = position-Some (λ (c : Kept). bytes_eq c.id revision.parent) xs i d is in
    let old : contract_among revision.parent xs ≡ Some (get_or xs i d) = found_one revision.parent xs i d are there.0 there.1 in
    done
    ∙ ap (λ ys. ys ++ formed_by host_key (get_or xs i d).renter_key tx (get_or xs i d).sectors tx.contracts) (cleared_at tx revision signatures xs i d are there.0 there.1 both)
    ∙ ap (λ found. changed_at revision.parent (cleared_by tx revision) xs ++ renewed_by host_key tx found) (sym old)

renewed_by_place : (host_key : List ℕ) (tx : Transaction) (revision : Revision) (signatures : List (List ℕ)) (xs now : List Kept) (i : ℕ) → AreApart xs
    → position (λ (c : Kept). bytes_eq c.id revision.parent) xs ≡ Some i
    → signatures ≡ signature_for revision.parent 0 tx.signatures ∷ signature_for revision.parent 1 tx.signatures ∷ []
    → ((d : Kept) → now ≡ set xs i (cleared_with revision signatures (get_or xs i d)) ++ formed_by host_key (get_or xs i d).renter_key tx (get_or xs i d).sectors tx.contracts)
    → now ≡ by_revision host_key tx xs revision
renewed_by_place host_key tx revision signatures [] now i are is both done = (cc)
renewed_by_place host_key tx revision signatures (x ∷ xs) now i are is both done = renewed_in host_key tx revision signatures (x ∷ xs) now i x are is both (done x)

-- what follows where memory didn't run out; the newest revision is a copy of the transaction's
pub renewed_on : {E : Type 0} (result : Result Unit E) (host_key : List ℕ) (tx : Transaction) (revision newest : Revision) (signatures : List (List ℕ)) (xs now : List Kept) (i : ℕ)
    → AreApart xs → slice_get tx.revisions 0 ≡ Some revision → newest ≡ revision → position (λ (c : Kept). bytes_eq c.id revision.parent) xs ≡ Some i
    → signatures ≡ signature_for revision.parent 0 tx.signatures ∷ signature_for revision.parent 1 tx.signatures ∷ []
    → OnOk result ((d : Kept) → now ≡ set xs i (cleared_with newest signatures (get_or xs i d)) ++ formed_by host_key (get_or xs i d).renter_key tx (get_or xs i d).sectors tx.contracts)
    → OnOk result (now ≡ after_renewal host_key tx xs tx.revisions)
renewed_on (Ok done) host_key tx revision newest signatures xs now i are at same is both all =
    renewed_by_place host_key tx revision signatures xs now i are is both
    (λ d. all d ∙ ap (λ r. set xs i (cleared_with r signatures (get_or xs i d)) ++ formed_by host_key (get_or xs i d).renter_key tx (get_or xs i d).sectors tx.contracts) same)
    ∙ sym (first_one host_key tx xs tx.revisions revision at)
renewed_on (Err e) host_key tx revision newest signatures xs now i are at same is both all = tt

-- the contract that stands at a place is cleared there, and the one that is formed has its sectors
pub renewed_in_place : (host_key key : List ℕ) (tx : Transaction) (newest : Revision) (signatures : List (List ℕ)) (items now : List Kept) (i : ℕ) (old other cleared : Kept) (sectors : List Stored) (formed : Option Kept)
    → i < length items → old ≡ get_or items i old → other ≡ get_or items i other → key ≡ other.renter_key → cleared ≡ cleared_with newest signatures old → sectors ≡ old.sectors
    → option_to_list formed ≡ formed_by host_key key tx [] tx.contracts
    → now ≡ set items i cleared ++ map (λ (c : Kept). record c { sectors = sectors }) (option_to_list formed)
    → (d : Kept) → now ≡ set items i (cleared_with newest signatures (get_or items i d)) ++ formed_by host_key (get_or items i d).renter_key tx (get_or items i d).sectors tx.contracts
renewed_in_place host_key key tx newest signatures items now i old other cleared sectors formed below is its keyed clears gives begun done d =
    let here : old ≡ get_or items i d = get_or_read items i old below is d in
    let there : other ≡ get_or items i d = get_or_read items i other below its d in
    let own : key ≡ (get_or items i d).renter_key = keyed ∙ ap (λ (c : Kept). c.renter_key) there in
    let stored : sectors ≡ (get_or items i d).sectors = gives ∙ ap (λ (c : Kept). c.sectors) here in
    let front : set items i cleared ≡ set items i (cleared_with newest signatures (get_or items i d)) = ap (set items i) (clears ∙ ap (cleared_with newest signatures) here) in
    let back : map (λ (c : Kept). record c { sectors = sectors }) (option_to_list formed) ≡ formed_by host_key key tx sectors tx.contracts = passed_on host_key key tx sectors formed begun in
    done
    ∙ ap (λ xs. xs ++ map (λ (c : Kept). record c { sectors = sectors }) (option_to_list formed)) front
    ∙ ap (λ ys. set items i (cleared_with newest signatures (get_or items i d)) ++ ys)
    (back ∙ ap (λ k. formed_by host_key k tx sectors tx.contracts) own ∙ ap (λ ss. formed_by host_key (get_or items i d).renter_key tx ss tx.contracts) stored)
