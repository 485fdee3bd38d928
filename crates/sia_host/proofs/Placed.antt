-- What stands at a place of a list.
use Rattle.std.proofs.Common.{◌≡◌, ℕ, zero, suc, List, [], ◌∷◌, get_or, Some, None, refl, sym}
use Rattle.std.specs.Prelude.{slice_get}
use Rattle.std.proofs.lemmas.Option.{get_or_from_slice_get}

-- something
pub found_at : {X : Type 0} (xs : List X) (i : ℕ) (x d : X) → slice_get xs i ≡ Some x → x ≡ get_or xs i d
found_at xs i x d is = sym (get_or_from_slice_get xs i x d is)

-- nothing
pub missed_at : {X : Type 0} (xs : List X) (i : ℕ) (d : X) → slice_get xs i ≡ None → d ≡ get_or xs i d
missed_at [] zero d is = refl
missed_at [] (suc i) d is = refl
missed_at (x ∷ xs) zero d is = (cc)
missed_at (x ∷ xs) (suc i) d is = missed_at xs i d is
