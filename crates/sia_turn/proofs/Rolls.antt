-- The list of all views: one view changed, one added, and sums.
use Rattle.std.proofs.Common.{◌≡◌, ◌≢◌, ◌⊎◌, ℕ, zero, suc, ◌+◌, ◌<◌, ◌≤◌, List, [], ◌∷◌, ◌++◌, length, set, refl, sym, ap, ◌∙◌, subst, inl, inr, ⊎_elim, arith}
use mathlib.Core.Option.{some, some-injective, some-ne-none}
use lib.ListN.{get_elem?}
use Rattle.atomic_table.proofs.Lists.{at_set}
use Rattle.sia_turn.specs.Turning.{total}

module _ {A : Type 0} where
  pub one_at : (xs : List A) (i j : ℕ) (a b : A) → i ≡ j → get_elem? xs i ≡ some a → get_elem? xs j ≡ some b → a ≡ b
  one_at xs i j a b same e f = some-injective a b (sym e ∙ (ap (get_elem? xs) same ∙ f))

  pub set_there : (xs : List A) (i : ℕ) (a b : A) → get_elem? xs i ≡ some a → get_elem? (set xs i b) i ≡ some b
  set_there [] i a b e = absurd (some-ne-none a (sym e))
  set_there (x ∷ xs) zero a b e = refl
  set_there (x ∷ xs) (suc i) a b e = set_there xs i a b e

  pub snoc_there : (xs : List A) (a b : A) (i : ℕ) → get_elem? (xs ++ a ∷ []) i ≡ some b → (get_elem? xs i ≡ some b) ⊎ ((i ≡ length xs) × (a ≡ b))
  snoc_there [] a b zero e = inr (refl, some-injective a b e)
  snoc_there [] a b (suc i) e = absurd (some-ne-none b (sym e))
  snoc_there (x ∷ xs) a b zero e = inl e
  snoc_there (x ∷ xs) a b (suc i) e = ⊎_elim inl (λ t. inr (ap suc t.0, t.1)) (snoc_there xs a b i e)

  pub there_below : (xs : List A) (i : ℕ) (a : A) → get_elem? xs i ≡ some a → i < length xs
  there_below [] i a e = absurd (some-ne-none a (sym e))
  there_below (x ∷ xs) zero a e = omega arith
  there_below (x ∷ xs) (suc i) a e = let lt = there_below xs i a e in omega arith

  pub below_there : (xs : List A) (i : ℕ) → i < length xs → (a : A) × (get_elem? xs i ≡ some a)
  below_there [] i lt = absurd (omega arith)
  below_there (x ∷ xs) zero lt = (x, refl)
  below_there (x ∷ xs) (suc i) lt = below_there xs i (omega arith)

  module _ (F : ℕ → A → Type 0) where
    -- what holds of the changed one and of the others
    pub each_set : (xs : List A) (i : ℕ) (b : A) → F i b → ((j : ℕ) (c : A) → j ≢ i → get_elem? xs j ≡ some c → F j c) → (j : ℕ) (c : A) → get_elem? (set xs i b) j ≡ some c → F j c
    each_set xs i b mine others j c e = ⊎_elim
        (λ (t : (j ≡ i) × (b ≡ c)). subst (λ (y : ℕ × A). F y.0 y.1) (λ k. (sym t.0 k, t.1 k)) mine)
        (λ (t : (j ≢ i) × (get_elem? xs j ≡ some c)). others j c t.0 t.1)
        (at_set xs i j b c e)

    -- what holds of the new one and of the others
    pub each_snoc : (xs : List A) (b : A) → F (length xs) b → ((j : ℕ) (c : A) → get_elem? xs j ≡ some c → F j c) → (j : ℕ) (c : A) → get_elem? (xs ++ b ∷ []) j ≡ some c → F j c
    each_snoc xs b mine others j c e = ⊎_elim
        (λ old. others j c old)
        (λ (t : (j ≡ length xs) × (b ≡ c)). subst (λ (y : ℕ × A). F y.0 y.1) (λ k. (sym t.0 k, t.1 k)) mine)
        (snoc_there xs b c j e)

  module _ (f : A → ℕ) where
    pub total_set : (xs : List A) (i : ℕ) (a b : A) → get_elem? xs i ≡ some a → total f (set xs i b) + f a ≡ total f xs + f b
    total_set [] i a b e = absurd (some-ne-none a (sym e))
    total_set (x ∷ xs) zero a b e = let same : f x ≡ f a = ap f (some-injective x a e) in omega arith
    total_set (x ∷ xs) (suc i) a b e = let rest = total_set xs i a b e in omega arith

    pub total_snoc : (xs : List A) (a : A) → total f (xs ++ a ∷ []) ≡ total f xs + f a
    total_snoc [] a = omega arith
    total_snoc (x ∷ xs) a = let rest = total_snoc xs a in omega arith

    total_one : (xs : List A) (i : ℕ) (a : A) → get_elem? xs i ≡ some a → f a ≤ total f xs
    total_one [] i a e = absurd (some-ne-none a (sym e))
    total_one (x ∷ xs) zero a e = let same : f x ≡ f a = ap f (some-injective x a e) in omega arith
    total_one (x ∷ xs) (suc i) a e = let rest = total_one xs i a e in omega arith

    pub total_two : (xs : List A) (i j : ℕ) (a b : A) → j ≢ i → get_elem? xs i ≡ some a → get_elem? xs j ≡ some b → f a + f b ≤ total f xs
    total_two [] i j a b off e g = absurd (some-ne-none a (sym e))
    total_two (x ∷ xs) zero zero a b off e g = absurd (off refl)
    total_two (x ∷ xs) zero (suc j) a b off e g = let same : f x ≡ f a = ap f (some-injective x a e) in let rest = total_one xs j b g in omega arith
    total_two (x ∷ xs) (suc i) zero a b off e g = let same : f x ≡ f b = ap f (some-injective x b g) in let rest = total_one xs i a e in omega arith
    total_two (x ∷ xs) (suc i) (suc j) a b off e g = let rest = total_two xs i j a b (λ s. off (ap suc s)) e g in omega arith

  pub total_under : (f g : A → ℕ) (xs : List A) → ((i : ℕ) (a : A) → get_elem? xs i ≡ some a → f a ≤ g a) → total f xs ≤ total g xs
  total_under f g [] le = omega arith
  total_under f g (x ∷ xs) le = let here = le 0 x refl in let rest = total_under f g xs (λ i a e. le (suc i) a e) in omega arith
