-- The slots and the sectors of all contracts, where one of them is changed.
use Rattle.std.proofs.Common.{◌≡◌, ◌∙◌, ℕ, ◌+◌, Bool, true, false, if◌then◌else◌, List, [], ◌∷◌, ◌++◌, append-nil, All, Contains, map, Option, Some, None, refl, sym, ap, subst, arith}
use Rattle.std.specs.List.{flat_map}
use Rattle.std.specs.Option.{is_some}
use Rattle.std.specs.Str.{bytes_eq}
use Rattle.std.proofs.lemmas.Grind.{flat_map-append}
use Rattle.std.proofs.lemmas.List.Elements.{All-append, All-cons, All-head, All-nil, All-tail, Contains-append_left, Contains-append_right}
use Rattle.sia_types.specs.declared.file_contracts.FileContract.{FileContract}
use Rattle.sia_types.specs.declared.file_contracts.Revision.{Revision}
use Rattle.sia_types.specs.declared.transaction.Transaction.{Transaction}
use Rattle.sia_records.specs.Stored.{Stored}
use Rattle.sia_kept.specs.State.{AreApart, Kept, after_renewal, changed_at, cleared_by, contract_among, formed_by, is_among, new_contract, renewed_by}
use Rattle.sia_kept.proofs.Apart.{same_bytes, unchanged}
use Rattle.sia_slots.specs.Slots.{times}
use Rattle.sia_slots.proofs.Passing.{slots_of}
use Rattle.sia_slots.proofs.Times.{times_append}

-- the slots of contracts
abbrev pub live_in : List Kept → List ℕ
live_in contracts = flat_map (λ (c : Kept). map (λ (s : Stored). s.slot) c.sectors) contracts

-- the sectors of contracts
abbrev pub stored_in : List Kept → List Stored
stored_in contracts = flat_map (λ (c : Kept). c.sectors) contracts

-- what isn't found isn't among them
not_among : (id : List ℕ) (xs : List Kept) → contract_among id xs ≡ None → is_among id xs ≡ false
not_among id xs none = ap is_some none

-- slots

-- the slots of contracts, one of which is changed: the others keep theirs
pub changed_pass : (slot taken freed : ℕ) (id : List ℕ) (f : Kept → Kept) (xs : List Kept) (c : Kept) → AreApart xs → contract_among id xs ≡ Some c
    → times slot (slots_of c.sectors) + taken ≡ times slot (slots_of (f c).sectors) + freed → times slot (live_in xs) + taken ≡ times slot (live_in (changed_at id f xs)) + freed
changed_pass slot taken freed id f [] c are is here = (cc)
changed_pass slot taken freed id f (x ∷ xs) c are is here = by (bytes_eq x.id id) refl (λ found. changed_pass slot taken freed id f xs c are.1 found here) is
  where
    by : (b : Bool) → bytes_eq x.id id ≡ b → (contract_among id xs ≡ Some c → times slot (live_in xs) + taken ≡ times slot (live_in (changed_at id f xs)) + freed)
        → (if b then Some x else contract_among id xs) ≡ Some c → times slot (live_in (x ∷ xs)) + taken ≡ times slot (live_in ((if b then f x else x) ∷ changed_at id f xs)) + freed
    by true at later found =
        let one : x ≡ c = (cc) in
        let mine : times slot (slots_of x.sectors) + taken ≡ times slot (slots_of (f x).sectors) + freed =
        subst (λ (k : Kept). times slot (slots_of k.sectors) + taken ≡ times slot (slots_of (f k).sectors) + freed) (sym one) here in
        let none : is_among id xs ≡ false = subst (λ z. is_among z xs ≡ false) (same_bytes x.id id at) are.0 in
        let rest : times slot (live_in (changed_at id f xs)) ≡ times slot (live_in xs) = ap (λ ys. times slot (live_in ys)) (unchanged id f xs none) in
        omega (arith, mine, rest, times_append slot (slots_of x.sectors) (live_in xs), times_append slot (slots_of (f x).sectors) (live_in (changed_at id f xs)))
    by false at later found =
        omega (arith, later found, times_append slot (slots_of x.sectors) (live_in xs), times_append slot (slots_of x.sectors) (live_in (changed_at id f xs)))

-- what a transaction forms has the slots that pass to it
formed_slots : (host_key renter_key : List ℕ) (tx : Transaction) (sectors : List Stored) (terms : FileContract) (others : List FileContract) → live_in (formed_by host_key renter_key tx sectors (terms ∷ others)) ≡ slots_of sectors
unfolding new_contract
formed_slots host_key renter_key tx sectors terms others = append-nil (slots_of sectors)

-- and a formation has none
pub formed_live : (host_key renter_key : List ℕ) (tx : Transaction) (contracts : List Kept) → live_in (contracts ++ formed_by host_key renter_key tx [] tx.contracts) ≡ live_in contracts
unfolding new_contract
formed_live host_key renter_key tx contracts = flat_map-append (λ (c : Kept). slots_of c.sectors) contracts (formed_by host_key renter_key tx [] tx.contracts) ∙ by tx.contracts
  where
    by : (terms : List FileContract) → live_in contracts ++ live_in (formed_by host_key renter_key tx [] terms) ≡ live_in contracts
    by [] = append-nil (live_in contracts)
    by (one ∷ others) = append-nil (live_in contracts)

-- by a renewal the slots pass on
pub renewed_live : (slot : ℕ) (host_key : List ℕ) (tx : Transaction) (contracts : List Kept) (revisions : List Revision) (terms : FileContract) (others : List FileContract) → AreApart contracts → tx.contracts ≡ terms ∷ others
    → times slot (live_in contracts) ≡ times slot (live_in (after_renewal host_key tx contracts revisions))
renewed_live slot host_key tx contracts [] terms others apart forms = refl
renewed_live slot host_key tx contracts (revision ∷ more) terms others apart forms = by (contract_among revision.parent contracts) refl
  where
    front : List Kept
    front = changed_at revision.parent (cleared_by tx revision) contracts

    by : (found : Option Kept) → contract_among revision.parent contracts ≡ found → times slot (live_in contracts) ≡ times slot (live_in (front ++ renewed_by host_key tx found))
    by None is =
        let same : front ≡ contracts = unchanged revision.parent (cleared_by tx revision) contracts (not_among revision.parent contracts is) in
        ap (λ xs. times slot (live_in xs)) (sym (append-nil front ∙ same))
    by (Some c) is =
        let new : live_in (formed_by host_key c.renter_key tx c.sectors tx.contracts) ≡ slots_of c.sectors =
        ap (λ ts. live_in (formed_by host_key c.renter_key tx c.sectors ts)) forms ∙ formed_slots host_key c.renter_key tx c.sectors terms others in
        let parts : live_in (front ++ formed_by host_key c.renter_key tx c.sectors tx.contracts) ≡ live_in front ++ slots_of c.sectors =
        flat_map-append (λ (k : Kept). slots_of k.sectors) front (formed_by host_key c.renter_key tx c.sectors tx.contracts) ∙ ap (λ xs. live_in front ++ xs) new in
        let none : times slot (slots_of c.sectors) + 0 ≡ 0 + times slot (slots_of c.sectors) = omega arith in
        let cleared : times slot (live_in contracts) + 0 ≡ times slot (live_in front) + times slot (slots_of c.sectors) =
        changed_pass slot 0 (times slot (slots_of c.sectors)) revision.parent (cleared_by tx revision) contracts c apart is none in
        let all : times slot (live_in (front ++ formed_by host_key c.renter_key tx c.sectors tx.contracts)) ≡ times slot (live_in front) + times slot (slots_of c.sectors) =
        ap (times slot) parts ∙ times_append slot (live_in front) (slots_of c.sectors) in
        omega (arith, cleared, all)

-- the slots of a contract are among them
pub found_live : (slot : ℕ) (id : List ℕ) (xs : List Kept) (c : Kept) → contract_among id xs ≡ Some c → Contains (slots_of c.sectors) slot → Contains (live_in xs) slot
found_live slot id [] c is has = (cc)
found_live slot id (x ∷ xs) c is has = by (bytes_eq x.id id) (λ found. found_live slot id xs c found has) is
  where
    by : (b : Bool) → (contract_among id xs ≡ Some c → Contains (live_in xs) slot) → (if b then Some x else contract_among id xs) ≡ Some c → Contains (live_in (x ∷ xs)) slot
    by true later found =
        let one : c ≡ x = (cc) in
        Contains-append_left (slots_of x.sectors) (live_in xs) slot (subst (λ (k : Kept). Contains (slots_of k.sectors) slot) one has)
    by false later found = Contains-append_right (slots_of x.sectors) (live_in xs) slot (later found)

-- sectors

-- what holds of each of two lists' elements holds of the first one's, and of the second one's
all_left : {X : Type 0} (P : X → Type 0) (xs ys : List X) → All P (xs ++ ys) → All P xs
all_left P [] ys all = All-nil P
all_left P (x ∷ xs) ys all = All-cons P x xs (All-head P x (xs ++ ys) all) (all_left P xs ys (All-tail P x (xs ++ ys) all))

all_right : {X : Type 0} (P : X → Type 0) (xs ys : List X) → All P (xs ++ ys) → All P ys
all_right P [] ys all = all
all_right P (x ∷ xs) ys all = all_right P xs ys (All-tail P x (xs ++ ys) all)

-- what holds of all sectors holds of those of a contract
pub found_sectors : (P : Stored → Type 0) (id : List ℕ) (xs : List Kept) (c : Kept) → contract_among id xs ≡ Some c → All P (stored_in xs) → All P c.sectors
found_sectors P id [] c is all = (cc)
found_sectors P id (x ∷ xs) c is all = by (bytes_eq x.id id) (λ found. found_sectors P id xs c found (all_right P x.sectors (stored_in xs) all)) is
  where
    by : (b : Bool) → (contract_among id xs ≡ Some c → All P c.sectors) → (if b then Some x else contract_among id xs) ≡ Some c → All P c.sectors
    by true later found = let one : x ≡ c = (cc) in subst (λ (k : Kept). All P k.sectors) one (all_left P x.sectors (stored_in xs) all)
    by false later found = later found

-- it holds of all where one contract is changed, and of its sectors then
pub changed_sectors : (P : Stored → Type 0) (id : List ℕ) (f : Kept → Kept) (xs : List Kept) → AreApart xs → All P (stored_in xs)
    → ((c : Kept) → contract_among id xs ≡ Some c → All P (f c).sectors) → All P (stored_in (changed_at id f xs))
changed_sectors P id f [] are all so = All-nil P
changed_sectors P id f (x ∷ xs) are all so = by (bytes_eq x.id id) refl (changed_sectors P id f xs are.1 (all_right P x.sectors (stored_in xs) all)) so
  where
    by : (b : Bool) → bytes_eq x.id id ≡ b → (((c : Kept) → contract_among id xs ≡ Some c → All P (f c).sectors) → All P (stored_in (changed_at id f xs)))
        → ((c : Kept) → (if b then Some x else contract_among id xs) ≡ Some c → All P (f c).sectors) → All P (stored_in ((if b then f x else x) ∷ changed_at id f xs))
    by true at rest so =
        let none : is_among id xs ≡ false = subst (λ z. is_among z xs ≡ false) (same_bytes x.id id at) are.0 in
        let behind : All P (stored_in (changed_at id f xs)) = subst (λ ys. All P (stored_in ys)) (sym (unchanged id f xs none)) (all_right P x.sectors (stored_in xs) all) in
        All-append P (f x).sectors (stored_in (changed_at id f xs)) (so x refl) behind
    by false at rest so = All-append P x.sectors (stored_in (changed_at id f xs)) (all_left P x.sectors (stored_in xs) all) (rest so)

-- a formation brings none
pub formed_sectors : (host_key renter_key : List ℕ) (tx : Transaction) (contracts : List Kept) → stored_in (contracts ++ formed_by host_key renter_key tx [] tx.contracts) ≡ stored_in contracts
unfolding new_contract
formed_sectors host_key renter_key tx contracts = flat_map-append (λ (c : Kept). c.sectors) contracts (formed_by host_key renter_key tx [] tx.contracts) ∙ by tx.contracts
  where
    by : (terms : List FileContract) → stored_in contracts ++ stored_in (formed_by host_key renter_key tx [] terms) ≡ stored_in contracts
    by [] = append-nil (stored_in contracts)
    by (one ∷ others) = append-nil (stored_in contracts)

-- what a transaction forms has the sectors that pass to it
formed_by_has : (P : Stored → Type 0) (host_key renter_key : List ℕ) (tx : Transaction) (sectors : List Stored) (terms : List FileContract) → All P sectors → All P (stored_in (formed_by host_key renter_key tx sectors terms))
unfolding new_contract
formed_by_has P host_key renter_key tx sectors [] all = All-nil P
formed_by_has P host_key renter_key tx sectors (one ∷ others) all = subst (λ xs. All P xs) (sym (append-nil sectors)) all

-- and a renewal no others
pub renewed_sectors : (P : Stored → Type 0) (host_key : List ℕ) (tx : Transaction) (contracts : List Kept) (revisions : List Revision) → AreApart contracts → All P (stored_in contracts)
    → All P (stored_in (after_renewal host_key tx contracts revisions))
renewed_sectors P host_key tx contracts [] apart all = all
renewed_sectors P host_key tx contracts (revision ∷ more) apart all = by (contract_among revision.parent contracts) refl
  where
    front : List Kept
    front = changed_at revision.parent (cleared_by tx revision) contracts

    old : All P (stored_in front)
    old = changed_sectors P revision.parent (cleared_by tx revision) contracts apart all (λ c is. All-nil P)

    by : (found : Option Kept) → contract_among revision.parent contracts ≡ found → All P (stored_in (front ++ renewed_by host_key tx found))
    by None is = subst (λ xs. All P (stored_in xs)) (sym (append-nil front)) old
    by (Some c) is =
        let new = formed_by_has P host_key c.renter_key tx c.sectors tx.contracts (found_sectors P revision.parent contracts c is all) in
        subst (λ xs. All P xs) (sym (flat_map-append (λ (k : Kept). k.sectors) front (formed_by host_key c.renter_key tx c.sectors tx.contracts)))
        (All-append P (stored_in front) (stored_in (formed_by host_key c.renter_key tx c.sectors tx.contracts)) old new)
