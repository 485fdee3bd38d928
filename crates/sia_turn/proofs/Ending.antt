-- The turn at its start and at its end.
use Rattle.std.proofs.Common.{◌≡◌, ◌≢◌, ℕ, zero, suc, ◌+◌, ◌≤◌, List, [], ◌∷◌, Option, None, Some, refl, sym, ap, ◌∙◌, subst, arith}
use Rattle.std.specs.Prelude.{IsSomeAnd}
use mathlib.Core.Logic.{dite}
use mathlib.Core.Option.{Option as Maybe, some, some-injective, some-ne-none}
use native.Mathlib.Decide.{ℕ_discrete}
use lib.ListN.{get_elem?}
use Rattle.atomic_table.specs.Table.{State, opening, Final, Seen}
use Rattle.sia_turn.specs.declared.view.Stage.TheVariants.{Outside}
use Rattle.sia_turn.specs.declared.view.View.{View}
use Rattle.sia_turn.specs.Entries.{Covers, OwnsAll}
use Rattle.sia_turn.specs.Views.{first_view}
use Rattle.sia_turn.specs.Turning.{total, tickets, seats_of, IsKnown, AreApart, Turning}
use Rattle.sia_turn.proofs.EntryLemmas.{starts_empty, own_none}
use Rattle.sia_turn.proofs.Rolls.{one_at, below_there, total_two}
use Rattle.sia_turn.proofs.Standing.{slot_filled}

module _ {T E : Type 0} (stands : T → List E → Type 0) (seats : ℕ) where
  abbrev Rule : State (Option T) (View E) → Type 0
  Rule = Turning stands seats

  first_known : (j : ℕ) (v : View E) → get_elem? (first_view {E = E} seats ∷ []) j ≡ some v → IsKnown [] (λ _. 0) 1 0 j v
  first_known zero v e = subst (λ (u : View E). IsKnown [] (λ _. 0) 1 0 0 u) (some-injective _ v e) (record {
    seen = starts_empty [];
    other = starts_empty [];
    own = λ p x c. absurd (own_none [] p x refl c);
    all = λ p x there mine. absurd (cc);
    once = λ i j d ij lt. absurd (omega arith);
    turn = (refl, omega arith, refl);
    light = omega arith;
    spent = λ none_left. absurd (omega arith);
  })
  first_known (suc j) v e = absurd (some-ne-none v (sym e))

  first_apart : AreApart (first_view {E = E} seats ∷ [])
  first_apart zero zero v w t ei ej ti tj = refl
  first_apart zero (suc j) v w t ei ej ti tj = absurd (some-ne-none w (sym ej))
  first_apart (suc i) j v w t ei ej ti tj = absurd (some-ne-none v (sym ei))

  pub starts : 1 ≤ seats → seats ≤ 66 → Rule (opening (1 ∷ 0 ∷ []) (None ∷ []) (first_view seats))
  starts some_seat most = record {
    log = [];
    owner = λ _. 0;
    drawn = 1;
    served = 0;
    home = some None;
    words = refl;
    homes = refl;
    between = omega arith;
    few = omega arith;
    most = most;
    within = λ p e there. absurd (cc);
    known = first_known;
    apart = first_apart;
    slot = (0, first_view seats, refl, (0, refl));
  }

  -- the last pass has all seats, so no other has a part, a ticket or an entry
  module _ (s : State (Option T) (View E)) (h : Rule s) (id : ℕ) (v : View E) (at : get_elem? s.views id ≡ some v) (whole : v.parts + v.rest ≡ seats) where
    others_spent : (j : ℕ) (u : View E) → j ≢ id → get_elem? s.views j ≡ some u → u.parts ≡ 0
    others_spent j u off there = let sum : seats_of v + seats_of u ≤ total seats_of s.views = total_two seats_of s.views id j v u off at there in let few = h.few in omega arith

    no_ticket_out : v.stage ≡ Outside → (j : ℕ) (u : View E) → get_elem? s.views j ≡ some u → tickets u.stage ≡ 1 → ⊥
    no_ticket_out outside j u there one = dite (ℕ_discrete j id)
        (λ same. let e : u ≡ v = one_at s.views j id u v same there at in let n : tickets u.stage ≡ 0 = ap (λ (x : View E). tickets x.stage) e ∙ ap tickets outside in absurd (omega arith))
        (λ off. let none_left = others_spent j u off there in let light = (h.known j u there).light in absurd (omega arith))

    all_own : Covers v.own h.log
    all_own p e there =
        let seat = below_there s.views (h.owner p) (h.within p e there) in
        let k = h.known (h.owner p) seat.0 seat.1 in
        dite (ℕ_discrete (h.owner p) id)
        (λ same. (h.known id v at).all p e there same)
        (λ off. absurd (own_none seat.0.own p e (k.spent (others_spent (h.owner p) seat.0 off seat.1)).0 (k.all p e there refl)))

  -- what comes out of the slot is the value
  pub ends : (id : ℕ) (v : View E) (ws : List ℕ) (xs : List (Option T)) (r : Option T) → v.stage ≡ Outside → v.parts + v.rest ≡ seats → Final (Seen Rule id v) ws xs → get_elem? xs 0 ≡ some r
      → IsSomeAnd r (λ x. OwnsAll stands x v.seen v.own)
  ends id v ws xs r outside whole f comes =
      let s = f.0 in
      let h = f.1.0 in
      let at = f.1.1 in
      let k = h.known id v at in
      let free = no_ticket_out s h id v at whole outside in
      let filled = slot_filled stands h.log s.views h.home
      (λ j u there has. free j u there (ap tickets has.1))
      (λ j u there opens. free j u there (ap tickets opens.1))
      h.slot in
      let there : get_elem? xs 0 ≡ some (Some filled.0) = f.4 0 (Some filled.0) (ap (λ (hs : List (Maybe (Option T))). get_elem? hs 0) h.homes ∙ ap some filled.1) in
      subst (λ (o : Option T). IsSomeAnd o (λ x. OwnsAll stands x v.seen v.own)) (some-injective (Some filled.0) r (sym there ∙ comes))
      (record { log = h.log; stands_for = filled.2; begins = k.seen; placed = λ p e c. (k.own p e c).0; covered = all_own s h id v at whole; once = k.once })
