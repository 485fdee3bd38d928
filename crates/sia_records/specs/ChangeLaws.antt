-- The law of changes. No public clause speaks of these lemmas but by it; they stand here since the laws of records are made of them.
use Rattle.std.proofs.Common.{◌≡◌, ℕ, ◌==◌, Bool, true, false, List, if◌then◌else◌, Option, Some, refl, sym, ap, ◌∙◌}
use Rattle.std.proofs.lemmas.Bool.{eqb-true}
use Rattle.sia_encoding.specs.Codec.{Lawful}
use Rattle.sia_encoding.specs.ItemLaws.{hash_law, number_law}
use Rattle.sia_encoding.specs.RecordLaws.{◌&&&◌, named_law, choice_law, variant_law}
use Rattle.sia_records.specs.declared.change.Change.{Change}
use Rattle.sia_records.specs.declared.change.Change.TheVariants as changes
use Rattle.sia_records.specs.Changes.{ChangeKind, Append, Trim, Swap, Set, change_number, change_kind_with, kind_of_change, append_kept, trim_kept, swap_kept, set_kept, change_behind, change}

if_kind : (n m : ℕ) (l k : ChangeKind) (r : Option ChangeKind) → change_number l ≡ m → (if n == m then Some l else r) ≡ Some k → (r ≡ Some k → change_number k ≡ n) → change_number k ≡ n
if_kind n m l k r number is other = cases (n == m) refl is
  where
    cases : (b : Bool) → (n == m) ≡ b → (if b then Some l else r) ≡ Some k → change_number k ≡ n
    cases true same is = let kinds : l ≡ k = cc in ap change_number (sym kinds) ∙ number ∙ sym (eqb-true n m same)
    cases false same is = other is

named_so : (n : ℕ) (k : ChangeKind) → change_kind_with n ≡ Some k → change_number k ≡ n
named_so n k is = if_kind n 0 Append k _ refl is (λ is. if_kind n 1 Trim k _ refl is (λ is. if_kind n 2 Swap k _ refl is (λ is. if_kind n 3 Set k _ refl is (λ is. cc))))

found_so : (k : ChangeKind) → change_kind_with (change_number k) ≡ Some k
found_so Append = refl
found_so Trim = refl
found_so Swap = refl
found_so Set = refl

same_kind : (k : ChangeKind) (limit : ℕ) (c : Change) → (change_behind k).fits limit c → kind_of_change c ≡ k
same_kind Append limit (changes.Append root slot) fits = refl
same_kind Trim limit (changes.Trim count) fits = refl
same_kind Swap limit (changes.Swap one other) fits = refl
same_kind Set limit (changes.Set place root slot) fits = refl
same_kind _ limit _ fits = absurd fits

append_again : (c : Change) (p : List ℕ × ℕ) → append_kept c ≡ Some p → changes.Append p.0 p.1 ≡ c
append_again (changes.Append root slot) p is = let same : (root, slot) ≡ p = cc in ap (λ (q : List ℕ × ℕ). changes.Append q.0 q.1) (sym same)
append_again _ p is = (cc)

trim_again : (c : Change) (p : ℕ) → trim_kept c ≡ Some p → changes.Trim p ≡ c
trim_again (changes.Trim count) p is = (cc)
trim_again _ p is = (cc)

swap_again : (c : Change) (p : ℕ × ℕ) → swap_kept c ≡ Some p → changes.Swap p.0 p.1 ≡ c
swap_again (changes.Swap one other) p is = let same : (one, other) ≡ p = cc in ap (λ (q : ℕ × ℕ). changes.Swap q.0 q.1) (sym same)
swap_again _ p is = (cc)

set_again : (c : Change) (p : ℕ × (List ℕ × ℕ)) → set_kept c ≡ Some p → changes.Set p.0 p.1.0 p.1.1 ≡ c
set_again (changes.Set place root slot) p is = let same : (place, (root, slot)) ≡ p = cc in ap (λ (q : ℕ × (List ℕ × ℕ)). changes.Set q.0 q.1.0 q.1.1) (sym same)
set_again _ p is = (cc)

fields_law : (k : ChangeKind) → Lawful (change_behind k)
fields_law Append = variant_law (λ p. changes.Append p.0 p.1) append_kept (λ p. refl) append_again (hash_law &&& number_law)
fields_law Trim = variant_law (λ p. changes.Trim p) trim_kept (λ p. refl) trim_again number_law
fields_law Swap = variant_law (λ p. changes.Swap p.0 p.1) swap_kept (λ p. refl) swap_again (number_law &&& number_law)
fields_law Set = variant_law (λ p. changes.Set p.0 p.1.0 p.1.1) set_kept (λ p. refl) set_again (number_law &&& hash_law &&& number_law)

-- what is read as a change is spelled so, and what is spelled so is read
pub change_law : Lawful change
change_law = choice_law kind_of_change change_behind same_kind (named_law change_number change_kind_with found_so named_so number_law) fields_law
