-- Looking identifiers up in two lists of facts.
use Rattle.std.proofs.Common.{◌≡◌, ℕ, List, [], ◌∷◌, ◌++◌, refl, ap, sym, ◌∙◌}
use Rattle.std.specs.Prelude.{Option, Some, None, if◌then◌else◌}
use Rattle.std.specs.Option.{option_or}
use Rattle.std.specs.Str.{bytes_eq}
use Rattle.sia_ledger.specs.declared.fact.Fact.{Fact}
use Rattle.sia_ledger.specs.declared.fact.Deed.{Deed}
use Rattle.sia_ledger.specs.Facts.{last_deed}

or_assoc : {X : Type 0} (a b c : Option X) → option_or (option_or a b) c ≡ option_or a (option_or b c)
or_assoc None b c = refl
or_assoc (Some x) b c = refl

or_none_right : {X : Type 0} (a : Option X) → a ≡ option_or a None
or_none_right None = refl
or_none_right (Some x) = refl

last-append : (xs ys : List Fact) (id : List ℕ) → last_deed (xs ++ ys) id ≡ option_or (last_deed ys id) (last_deed xs id)
last-append [] ys id = or_none_right (last_deed ys id)
last-append (x ∷ xs) ys id = ap (λ found. option_or found (if bytes_eq x.id id then Some x.deed else None)) (last-append xs ys id) ∙ or_assoc (last_deed ys id) (last_deed xs id) (if bytes_eq x.id id then Some x.deed else None)

-- what a later list says comes first
pub last-append-some : (xs ys : List Fact) (id : List ℕ) (what : Deed) → Some what ≡ last_deed ys id → Some what ≡ last_deed (xs ++ ys) id
last-append-some xs ys id what e = sym (last-append xs ys id ∙ ap (λ found. option_or found (last_deed xs id)) (sym e))

-- where it says nothing, the earlier one does
pub last-append-none : (xs ys : List Fact) (id : List ℕ) → None ≡ last_deed ys id → last_deed xs id ≡ last_deed (xs ++ ys) id
last-append-none xs ys id e = sym (last-append xs ys id ∙ ap (λ found. option_or found (last_deed xs id)) (sym e))
