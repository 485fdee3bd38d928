-- What stays so of tickets, of the slot and of each pass, while views change.
use Rattle.std.proofs.Common.{◌≡◌, ◌≢◌, ℕ, ◌+◌, ◌%◌, ◌^◌, ◌<◌, List, [], ◌∷◌, ◌++◌, length, set, Option, None, Some, refl, sym, ap, ◌∙◌, subst, ⊎_elim, arith}
use mathlib.Core.Logic.{dite}
use mathlib.Core.Option.{Option as Maybe, none, some, some-injective, some-ne-none}
use native.Mathlib.Decide.{ℕ_discrete}
use lib.ListN.{get_elem?}
use Rattle.atomic_table.proofs.Lists.{at_set, at_longer, set_else}
use Rattle.sia_turn.specs.declared.view.Stage.{Stage}
use Rattle.sia_turn.specs.declared.view.Stage.TheVariants.{Outside, Waiting, Inside, Opening}
use Rattle.sia_turn.specs.declared.view.View.{View}
use Rattle.sia_turn.specs.Turning.{ticket, tickets, HasValue, IsOpening, InTurn, AreApart, SomeIs, IsSlot}
use Rattle.sia_turn.proofs.Rolls.{one_at, set_there, snoc_there, each_set}

-- a word counts on
pub counts_on : (n : ℕ) → (n % 2 ^ 64 + 1) % 2 ^ 64 ≡ (n + 1) % 2 ^ 64
counts_on n = omega arith

pub outside_no_ticket : (s : Stage) (t : ℕ) → s ≡ Outside → ticket s ≡ some t → ⊥
outside_no_ticket s t o e = some-ne-none t (sym e ∙ ap ticket o)

pub ticket_counts : (s : Stage) (t : ℕ) → ticket s ≡ some t → tickets s ≡ 1
ticket_counts Outside t e = absurd (some-ne-none t (sym e))
ticket_counts (Waiting u) t e = refl
ticket_counts (Inside u) t e = refl
ticket_counts (Opening u) t e = refl

module _ {E : Type 0} where
  -- a ticket that is out was drawn
  pub ticket_drawn : (log : List E) (drawn served : ℕ) (seen : List E) (s : Stage) (t : ℕ) → InTurn log drawn served seen s → ticket s ≡ some t → t < drawn
  ticket_drawn log drawn served seen Outside t k e = absurd (some-ne-none t (sym e))
  ticket_drawn log drawn served seen (Waiting u) t k e = let same : u ≡ t = some-injective u t e in let lt = k.1 in omega arith
  ticket_drawn log drawn served seen (Inside u) t k e = let same : u ≡ t = some-injective u t e in let lt = k.1 in omega arith
  ticket_drawn log drawn served seen (Opening u) t k e = let same : u ≡ t = some-injective u t e in let lt = k.1 in omega arith

  -- what is in turn stays so when one more ticket is drawn
  pub in_turn_drawn : (log : List E) (drawn served : ℕ) (seen : List E) (s : Stage) → InTurn log drawn served seen s → InTurn log (drawn + 1) served seen s
  in_turn_drawn log drawn served seen Outside k = tt
  in_turn_drawn log drawn served seen (Waiting t) k = let lt = k.1 in (k.0, omega arith)
  in_turn_drawn log drawn served seen (Inside t) k = let lt = k.1 in (k.0, omega arith, k.2)
  in_turn_drawn log drawn served seen (Opening t) k = let lt = k.1 in (k.0, omega arith, k.2)

  -- another's ticket, which isn't served now, is still in turn when one more is served and the list grows
  pub in_turn_served : (log now : List E) (drawn served : ℕ) (seen : List E) (s : Stage) → (ticket s ≡ some served → ⊥) → InTurn log drawn served seen s → InTurn now drawn (served + 1) seen s
  in_turn_served log now drawn served seen Outside off k = tt
  in_turn_served log now drawn served seen (Waiting t) off k = let le = k.0 in let far : t ≢ served = λ e. off (ap some e) in (omega arith, k.1)
  in_turn_served log now drawn served seen (Inside t) off k = absurd (off (ap some k.0))
  in_turn_served log now drawn served seen (Opening t) off k = absurd (off (ap some k.0))

  -- who has the value, or may put the first one in, has the ticket that is served
  pub value_served : (log : List E) (drawn served : ℕ) (seen : List E) (s : Stage) → HasValue s → InTurn log drawn served seen s → ticket s ≡ some served
  value_served log drawn served seen s v k = let e = v.1 in let here = subst (InTurn log drawn served seen) e k in ap ticket e ∙ ap some here.0

  pub opens_served : (log : List E) (drawn served : ℕ) (seen : List E) (s : Stage) → IsOpening s → InTurn log drawn served seen s → ticket s ≡ some served
  opens_served log drawn served seen s o k = let e = o.1 in let here = subst (InTurn log drawn served seen) e k in ap ticket e ∙ ap some here.0

  -- the new ticket of one pass is no other's
  apart_set : (views : List (View E)) (id : ℕ) (w : View E) → AreApart views
      → ((t : ℕ) → ticket w.stage ≡ some t → (j : ℕ) (u : View E) → j ≢ id → get_elem? views j ≡ some u → ticket u.stage ≡ some t → ⊥) → AreApart (set views id w)
  apart_set views id w apart fresh i j x y t ei ej ti tj = ⊎_elim
      (λ (a : (i ≡ id) × (w ≡ x)). ⊎_elim
      (λ (b : (j ≡ id) × (w ≡ y)). a.0 ∙ sym b.0)
      (λ (b : (j ≢ id) × (get_elem? views j ≡ some y)). absurd (fresh t (ap (λ (u : View E). ticket u.stage) a.1 ∙ ti) j y b.0 b.1 tj))
      (at_set views id j w y ej))
      (λ (a : (i ≢ id) × (get_elem? views i ≡ some x)). ⊎_elim
      (λ (b : (j ≡ id) × (w ≡ y)). absurd (fresh t (ap (λ (u : View E). ticket u.stage) b.1 ∙ tj) i x a.0 a.1 ti))
      (λ (b : (j ≢ id) × (get_elem? views j ≡ some y)). apart i j x y t a.1 b.1 ti tj)
      (at_set views id j w y ej))
      (at_set views id i w x ei)

  pub apart_fresh : (views : List (View E)) (id : ℕ) (w : View E) (t : ℕ) → ticket w.stage ≡ some t → ((j : ℕ) (u : View E) → get_elem? views j ≡ some u → ticket u.stage ≡ some t → ⊥) → AreApart views → AreApart (set views id w)
  apart_fresh views id w t new fresh apart = apart_set views id w apart (λ t' e j u _ at k. fresh j u at (k ∙ sym e ∙ new))

  pub apart_same : (views : List (View E)) (id : ℕ) (v w : View E) → get_elem? views id ≡ some v → ticket w.stage ≡ ticket v.stage → AreApart views → AreApart (set views id w)
  apart_same views id v w at same apart = apart_set views id w apart (λ t e j u off there k. off (apart j id u v t there at k (sym same ∙ e)))

  pub apart_without : (views : List (View E)) (id : ℕ) (w : View E) → w.stage ≡ Outside → AreApart views → AreApart (set views id w)
  apart_without views id w outside apart = apart_set views id w apart (λ t e. absurd (outside_no_ticket w.stage t outside e))

  pub apart_snoc : (views : List (View E)) (w : View E) → w.stage ≡ Outside → AreApart views → AreApart (views ++ w ∷ [])
  apart_snoc views w outside apart i j x y t ei ej ti tj = ⊎_elim
      (λ a. ⊎_elim
      (λ b. apart i j x y t a b ti tj)
      (λ (b : (j ≡ length views) × (w ≡ y)). absurd (outside_no_ticket w.stage t outside (ap (λ (u : View E). ticket u.stage) b.1 ∙ tj)))
      (snoc_there views w y j ej))
      (λ (a : (i ≡ length views) × (w ≡ x)). absurd (outside_no_ticket w.stage t outside (ap (λ (u : View E). ticket u.stage) a.1 ∙ ti)))
      (snoc_there views w x i ei)

  -- two seats with one ticket have one view
  pub one_ticket : (views : List (View E)) (i j : ℕ) (v w : View E) (t : ℕ) → AreApart views → get_elem? views i ≡ some v → get_elem? views j ≡ some w → ticket v.stage ≡ some t → ticket w.stage ≡ some t → v ≡ w
  one_ticket views i j v w t apart ei ej ti tj = one_at views i j v w (apart i j v w t ei ej ti tj) ei ej

  some_set : (P : Stage → Type 0) (views : List (View E)) (id : ℕ) (v w : View E) → get_elem? views id ≡ some v → (P v.stage → P w.stage) → SomeIs P views → SomeIs P (set views id w)
  some_set P views id v w at keeps s = dite (ℕ_discrete s.0 id)
      (λ same. (id, w, set_there views id v w at, keeps (subst (λ (u : View E). P u.stage) (one_at views s.0 id s.1 v same s.2 at) s.3)))
      (λ off. (s.0, s.1, set_else views id s.0 w off ∙ s.2, s.3))

  module _ {T : Type 0} (stands : T → List E → Type 0) where
    -- the slot is as it was, where one view changes between stages of one kind
    pub slot_set : (log : List E) (views : List (View E)) (id : ℕ) (v w : View E) (home : Maybe (Option T)) → get_elem? views id ≡ some v → (HasValue v.stage → HasValue w.stage)
        → (IsOpening v.stage → IsOpening w.stage) → (IsOpening w.stage → IsOpening v.stage) → IsSlot stands log views home → IsSlot stands log (set views id w) home
    slot_set log views id v w none at value opens back s = some_set HasValue views id v w at value s
    slot_set log views id v w (some None) at value opens back s = some_set IsOpening views id v w at opens s
    slot_set log views id v w (some (Some x)) at value opens back s = (s.0, each_set (λ j u. IsOpening u.stage → ⊥) views id w (λ o. s.1 id v at (back o)) (λ j u off there. s.1 j u there))

    pub slot_snoc : (log : List E) (views : List (View E)) (w : View E) (home : Maybe (Option T)) → (IsOpening w.stage → ⊥) → IsSlot stands log views home → IsSlot stands log (views ++ w ∷ []) home
    slot_snoc log views w none off s = (s.0, s.1, at_longer views (w ∷ []) s.0 s.1 s.2, s.3)
    slot_snoc log views w (some None) off s = (s.0, s.1, at_longer views (w ∷ []) s.0 s.1 s.2, s.3)
    slot_snoc log views w (some (Some x)) off s = (s.0, λ j u there. ⊎_elim (λ old. s.1 j u old) (λ (t : (j ≡ length views) × (w ≡ u)). subst (λ (y : View E). IsOpening y.stage → ⊥) t.1 off) (snoc_there views w u j there))

    -- where no pass is inside or opens, the slot has a value
    pub slot_filled : (log : List E) (views : List (View E)) (home : Maybe (Option T)) → ((j : ℕ) (u : View E) → get_elem? views j ≡ some u → HasValue u.stage → ⊥) → ((j : ℕ) (u : View E) → get_elem? views j ≡ some u → IsOpening u.stage → ⊥)
        → IsSlot stands log views home → (x : T) × (home ≡ some (Some x)) × stands x log
    slot_filled log views none value opens s = absurd (value s.0 s.1 s.2 s.3)
    slot_filled log views (some None) value opens s = absurd (opens s.0 s.1 s.2 s.3)
    slot_filled log views (some (Some x)) value opens s = (x, refl, s.0)

    -- where a pass opens and none is inside, the slot is empty
    pub slot_empty : (log : List E) (views : List (View E)) (home : Maybe (Option T)) → ((j : ℕ) (u : View E) → get_elem? views j ≡ some u → HasValue u.stage → ⊥) → SomeIs IsOpening views
        → IsSlot stands log views home → home ≡ some None
    slot_empty log views none value opens s = absurd (value s.0 s.1 s.2 s.3)
    slot_empty log views (some None) value opens s = refl
    slot_empty log views (some (Some x)) value opens s = absurd (s.1 opens.0 opens.1 opens.2 opens.3)
