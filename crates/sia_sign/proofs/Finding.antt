-- Finding in a list that is made of two.
use Rattle.std.proofs.Common.{◌≡◌, Bool, true, false, cond, List, [], ◌∷◌, ◌++◌, find, Option, Some, None, refl, sym, ap, ◌∙◌}
use Rattle.std.specs.Option.{option_map, option_or}

find_append : {X : Type 0} (p : X → Bool) (xs ys : List X) → find p (xs ++ ys) ≡ option_or (find p xs) (find p ys)
find_append p [] ys = refl
find_append p (x ∷ xs) ys =
    elim (p x) as (λ b. cond b (Some x) (find p (xs ++ ys)) ≡ option_or (cond b (Some x) (find p xs)) (find p ys))
    [ true ↦ refl | false ↦ find_append p xs ys ]

mapped_first : {X V : Type 0} (view : X → V) (a b : Option X) (v : V) → Some v ≡ option_map view a → Some v ≡ option_map view (option_or a b)
mapped_first view None b v is = cc
mapped_first view (Some x) b v is = is

mapped_second : {X V : Type 0} (view : X → V) (a b : Option X) → None ≡ option_map view a → option_map view b ≡ option_map view (option_or a b)
mapped_second view None b is = refl
mapped_second view (Some x) b is = cc

-- what is found in the first list is found
pub found_first : {X V : Type 0} (view : X → V) (p : X → Bool) (xs ys : List X) (v : V) → Some v ≡ option_map view (find p xs) → Some v ≡ option_map view (find p (xs ++ ys))
found_first view p xs ys v is = mapped_first view (find p xs) (find p ys) v is ∙ ap (option_map view) (sym (find_append p xs ys))

-- else what is found in the second is
pub found_second : {X V : Type 0} (view : X → V) (p : X → Bool) (xs ys : List X) → None ≡ option_map view (find p xs) → option_map view (find p ys) ≡ option_map view (find p (xs ++ ys))
found_second view p xs ys is = mapped_second view (find p xs) (find p ys) is ∙ ap (option_map view) (sym (find_append p xs ys))
