-- The law of actions. No public clause speaks of these lemmas but by it; they stand here since the laws of records are made of them.
use Rattle.std.proofs.Common.{◌≡◌, ℕ, ◌==◌, Bool, true, false, List, if◌then◌else◌, Option, Some, refl, sym, ap, ◌∙◌}
use Rattle.std.proofs.lemmas.Bool.{eqb-true}
use Rattle.sia_encoding.specs.Codec.{Lawful}
use Rattle.sia_encoding.specs.ItemLaws.{byte_string_law, number_law}
use Rattle.sia_encoding.specs.RecordLaws.{◌&&&◌, named_law, choice_law, variant_law}
use Rattle.sia_rhp.specs.declared.action.Action.{Action}
use Rattle.sia_rhp.specs.declared.action.Action.TheVariants as actions
use Rattle.sia_rhp.specs.Actions.{Kind, Append, Trim, Swap, Update, kind_number, kind_with, kind_of, append_parts, trim_parts, swap_parts, update_parts, fields_of, action}

if_kind : (n m : ℕ) (l k : Kind) (r : Option Kind) → kind_number l ≡ m → (if n == m then Some l else r) ≡ Some k → (r ≡ Some k → kind_number k ≡ n) → kind_number k ≡ n
if_kind n m l k r number is other = cases (n == m) refl is
  where
    cases : (b : Bool) → (n == m) ≡ b → (if b then Some l else r) ≡ Some k → kind_number k ≡ n
    cases true same is = let kinds : l ≡ k = cc in ap kind_number (sym kinds) ∙ number ∙ sym (eqb-true n m same)
    cases false same is = other is

named_so : (n : ℕ) (k : Kind) → kind_with n ≡ Some k → kind_number k ≡ n
named_so n k is = if_kind n 0 Append k _ refl is (λ is. if_kind n 1 Trim k _ refl is (λ is. if_kind n 2 Swap k _ refl is (λ is. if_kind n 3 Update k _ refl is (λ is. cc))))

found_so : (k : Kind) → kind_with (kind_number k) ≡ Some k
found_so Append = refl
found_so Trim = refl
found_so Swap = refl
found_so Update = refl

same_kind : (k : Kind) (limit : ℕ) (a : Action) → (fields_of k).fits limit a → kind_of a ≡ k
same_kind Append limit (actions.Append bytes) fits = refl
same_kind Trim limit (actions.Trim count) fits = refl
same_kind Swap limit (actions.Swap one other) fits = refl
same_kind Update limit (actions.Update place offset bytes) fits = refl
same_kind _ limit _ fits = absurd fits

append_again : (a : Action) (p : List ℕ) → append_parts a ≡ Some p → actions.Append p ≡ a
append_again (actions.Append bytes) p is = (cc)
append_again _ p is = (cc)

trim_again : (a : Action) (p : ℕ) → trim_parts a ≡ Some p → actions.Trim p ≡ a
trim_again (actions.Trim count) p is = (cc)
trim_again _ p is = (cc)

swap_again : (a : Action) (p : ℕ × ℕ) → swap_parts a ≡ Some p → actions.Swap p.0 p.1 ≡ a
swap_again (actions.Swap one other) p is = let same : (one, other) ≡ p = cc in ap (λ (q : ℕ × ℕ). actions.Swap q.0 q.1) (sym same)
swap_again _ p is = (cc)

update_again : (a : Action) (p : ℕ × (ℕ × List ℕ)) → update_parts a ≡ Some p → actions.Update p.0 p.1.0 p.1.1 ≡ a
update_again (actions.Update place offset bytes) p is = let same : (place, (offset, bytes)) ≡ p = cc in ap (λ (q : ℕ × (ℕ × List ℕ)). actions.Update q.0 q.1.0 q.1.1) (sym same)
update_again _ p is = (cc)

fields_law : (k : Kind) → Lawful (fields_of k)
fields_law Append = variant_law (λ p. actions.Append p) append_parts (λ p. refl) append_again byte_string_law
fields_law Trim = variant_law (λ p. actions.Trim p) trim_parts (λ p. refl) trim_again number_law
fields_law Swap = variant_law (λ p. actions.Swap p.0 p.1) swap_parts (λ p. refl) swap_again (number_law &&& number_law)
fields_law Update = variant_law (λ p. actions.Update p.0 p.1.0 p.1.1) update_parts (λ p. refl) update_again (number_law &&& number_law &&& byte_string_law)

-- what is read as an action is spelled so, and what is spelled so is read
pub action_law : Lawful action
action_law = choice_law kind_of fields_of same_kind (named_law kind_number kind_with found_so named_so number_law) fields_law
