-- What a pass holds: the slot, before and after its value is exchanged.
use Rattle.std.proofs.Common.{◌≡◌, ℕ, List, [], ◌∷◌, Option, None, Some, IfSome, sym, ap, ◌∙◌, subst, ⊎_elim, false, true≢false}
use Rattle.atomic_table.specs.Table.{Me, rest}
use Rattle.sia_turn.specs.declared.view.Stage.TheVariants.{Outside}
use Rattle.sia_turn.specs.declared.view.View.{View}
use Rattle.sia_turn.specs.Views.{entered, is_inside, IsHeld}
use Rattle.sia_turn.specs.Moves.{Takes, Enters}

module _ {T : Type 0} where
  value_or : Option T → List (ℕ × Option T) → Option T
  value_or d [] = d
  value_or d (x ∷ xs) = x.1

  value_is : (x r : Option T) (xs rs : List (ℕ × Option T)) → (0, x) ∷ xs ≡ (0, r) ∷ rs → x ≡ r
  unfolding value_or
  value_is x r xs rs e = ap (value_or r) e

  -- the slot was taken first
  pub first_held : (held others : List (ℕ × Option T)) (x : ℕ × Option T) → held ≡ x ∷ others → held ≡ x ∷ rest held
  first_held held others x e = e ∙ ap (λ (xs : List (ℕ × Option T)). x ∷ xs) (sym (ap rest e))

module _ {T E : Type 0} where
  -- the value was taken out of the slot
  pub enters : (stands : T → List E → Type 0) (t : ℕ) (m taken after : Me (Option T) (View E)) (r : Option T) → m.1 ≡ [] → Takes stands t m taken → taken.1 ≡ (0, r) ∷ rest taken.1 → after ≡ (taken.0, (0, None) ∷ rest taken.1)
      → IfSome r (λ y. Enters stands y m after)
  enters stands t m taken after r none_held took held is =
      let x = took.0 in
      let log = took.1 in
      let same : Some x ≡ r = value_is (Some x) r m.1 (rest taken.1) (sym (ap (λ (u : Me (Option T) (View E)). u.1) took.2) ∙ held) in
      let now : after ≡ (entered t log m.0, (0, None) ∷ []) =
      is ∙ (ap (λ (u : Me (Option T) (View E)). (u.0, (0, None) ∷ rest u.1)) took.2 ∙ ap (λ (xs : List (ℕ × Option T)). (entered t log m.0, (0, None) ∷ xs)) none_held) in
      subst (λ (o : Option T). IfSome o (λ y. Enters stands y m after)) same (t, log, now, took.3, took.4, took.5)

  -- a pass that isn't inside is outside
  pub held_outside : (me : Me (Option T) (View E)) → IsHeld me → is_inside me.0.stage ≡ false → me.0.stage ≡ Outside
  held_outside me held off = ⊎_elim (λ outside. outside.0) (λ inside. absurd (true≢false (sym (ap is_inside inside.1) ∙ off))) held.1
