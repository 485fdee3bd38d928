-- The contract of a revision is changed alone.
use Rattle.std.proofs.Common.{◌≡◌, ◌∙◌, ◌<◌, ◌≤◌, ℕ, suc, Bool, true, false, List, [], ◌∷◌, length, map, get_or, set, Option, Some, None, Result, Ok, Err, OnOk, IsTrue, refl, sym, ap, arith}
use Rattle.std.specs.Prelude.{nat_lt, if◌then◌else◌}
use Rattle.std.specs.List.{position, position_or_len}
use Rattle.std.specs.Str.{bytes_eq}
use Rattle.std.proofs.lemmas.Bool.{ltb-false}
use Rattle.std.proofs.lemmas.List.Quantifiers.{position-Some}
use Rattle.std.proofs.lemmas.List.Sums.{fails_before_first}
use Rattle.sia_types.specs.declared.file_contracts.Revision.{Revision}
use Rattle.sia_diff.specs.DiffSteps.{is_fit}
use Rattle.sia_records.specs.declared.change.Change.{Change}
use Rattle.sia_records.specs.Stored.{step_of, stored_after}
use Rattle.sia_kept.specs.State.{Kept, AreApart, changed_at, contract_among, revised_contract}
use Rattle.sia_kept.proofs.Apart.{changed_one, found_one}

-- where none has the identifier, none is changed
none_changed : (id : List ℕ) (f : Kept → Kept) (xs : List Kept) (d : Kept) → ((k : ℕ) → k < length xs → bytes_eq (get_or xs k d).id id ≡ false) → changed_at id f xs ≡ xs
none_changed id f [] d all = refl
none_changed id f (x ∷ xs) d all = rw (all 0 (omega arith)) (ap (λ ys. x ∷ ys) (none_changed id f xs d (λ k below. all (suc k) (omega (arith, below)))))

pub none_before : (id : List ℕ) (xs : List Kept) (d : Kept) (b : Bool) → nat_lt (position_or_len (λ (c : Kept). bytes_eq c.id id) xs) (length xs) ≡ b
    → (if b then Some (position_or_len (λ (c : Kept). bytes_eq c.id id) xs) else None) ≡ None → (k : ℕ) → k < length xs → bytes_eq (get_or xs k d).id id ≡ false
none_before id xs d true at is k below = (cc)
none_before id xs d false at is k below = fails_before_first (λ (c : Kept). bytes_eq c.id id) xs k d (omega (arith, ltb-false (position_or_len (λ (c : Kept). bytes_eq c.id id) xs) (length xs) at, below))

pub unfound : (id : List ℕ) (f : Kept → Kept) (xs : List Kept) → position (λ (c : Kept). bytes_eq c.id id) xs ≡ None → xs ≡ changed_at id f xs
unfound id f [] is = refl
unfound id f (x ∷ xs) is = sym (none_changed id f (x ∷ xs) x (none_before id (x ∷ xs) x (nat_lt (position_or_len (λ (c : Kept). bytes_eq c.id id) (x ∷ xs)) (length (x ∷ xs))) refl is))

-- the place that is found is within the list
pub found_within : (id : List ℕ) (xs : List Kept) (i : ℕ) → position (λ (c : Kept). bytes_eq c.id id) xs ≡ Some i → i < length xs
found_within id [] i is = (cc)
found_within id (x ∷ xs) i is = (position-Some (λ (c : Kept). bytes_eq c.id id) (x ∷ xs) i x is).0

found_in : (id : List ℕ) (f : Kept → Kept) (xs now : List Kept) (i : ℕ) (d : Kept) → AreApart xs → position (λ (c : Kept). bytes_eq c.id id) xs ≡ Some i → now ≡ set xs i (f (get_or xs i d)) → now ≡ changed_at id f xs
found_in id f xs now i d are is done =
    let there = position-Some (λ (c : Kept). bytes_eq c.id id) xs i d is in
    done ∙ sym (changed_one id f xs i d are there.0 there.1)

-- the contract at the place that is found is changed alone
pub found : (id : List ℕ) (f : Kept → Kept) (xs now : List Kept) (i : ℕ) → AreApart xs → position (λ (c : Kept). bytes_eq c.id id) xs ≡ Some i → ((d : Kept) → now ≡ set xs i (f (get_or xs i d))) → now ≡ changed_at id f xs
found id f [] now i are is done = (cc)
found id f (x ∷ xs) now i are is done = found_in id f (x ∷ xs) now i x are is (done x)

-- with both signatures, and its sectors changed
pub revised : (revision : Revision) (renter host : List ℕ) (signatures : List (List ℕ)) (changes : List Change) (xs now : List Kept) → signatures ≡ renter ∷ host ∷ []
    → now ≡ changed_at revision.parent (λ (c : Kept). record c { newest = revision; signatures = signatures; sectors = stored_after c.sectors changes }) xs → now ≡ changed_at revision.parent (revised_contract revision renter host changes) xs
revised revision renter host signatures changes xs now are is = is ∙ ap (λ s. changed_at revision.parent (λ (c : Kept). record c { newest = revision; signatures = s; sectors = stored_after c.sectors changes }) xs) are

-- what follows of it where memory didn't run out
pub revised_on : {E : Type 0} (result : Result Unit E) (revision : Revision) (renter host : List ℕ) (signatures : List (List ℕ)) (changes : List Change) (xs now : List Kept) (i : ℕ)
    → AreApart xs → position (λ (c : Kept). bytes_eq c.id revision.parent) xs ≡ Some i → signatures ≡ renter ∷ host ∷ []
    → OnOk result ((d : Kept) → now ≡ set xs i (record (get_or xs i d) { newest = revision; signatures = signatures; sectors = stored_after (get_or xs i d).sectors changes }))
    → OnOk result (now ≡ changed_at revision.parent (revised_contract revision renter host changes) xs)
revised_on (Ok done) revision renter host signatures changes xs now i are is both at =
    revised revision renter host signatures changes xs now both (found revision.parent (λ (c : Kept). record c { newest = revision; signatures = signatures; sectors = stored_after c.sectors changes }) xs now i are is at)
revised_on (Err e) revision renter host signatures changes xs now i are is both at = tt

-- the changes fit the contract that is found
pub fit_found : (revision : Revision) (changes : List Change) (xs : List Kept) (i : ℕ) (d : Kept) → AreApart xs → position (λ (c : Kept). bytes_eq c.id revision.parent) xs ≡ Some i
    → ((c : Kept) → contract_among revision.parent xs ≡ Some c → IsTrue (is_fit (length c.sectors) (map step_of changes))) → IsTrue (is_fit (length (get_or xs i d).sectors) (map step_of changes))
fit_found revision changes xs i d are is fit =
    let there = position-Some (λ (c : Kept). bytes_eq c.id revision.parent) xs i d is in
    fit (get_or xs i d) (found_one revision.parent xs i d are there.0 there.1)
