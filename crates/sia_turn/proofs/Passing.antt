-- The slot is given back with added entries, and one more ticket is served.
use Rattle.std.proofs.Common.{◌≡◌, ◌≢◌, ℕ, ◌+◌, ◌%◌, ◌^◌, ◌<◌, List, [], ◌∷◌, ◌++◌, length, set, Option, Some, refl, sym, ap, ◌∙◌, subst, ⊎_elim, arith}
use Rattle.std.proofs.lemmas.List.{length-set}
use Rattle.std.proofs.lemmas.List.Elements.{Contains-append_cases, Contains-append_left, Contains-append_right}
use Rattle.std.specs.Prelude.{slice_set, slice_index, slice_get, Contains}
use mathlib.Core.Option.{Option as Maybe, none, some}
use lib.ListN.{get_elem?}
use Rattle.atomic_table.specs.Table.{State, Me, step, gives, put_back, Allows, rest}
use Rattle.sia_turn.specs.declared.view.Stage.TheVariants.{Inside}
use Rattle.sia_turn.specs.declared.view.View.{View}
use Rattle.sia_turn.specs.Entries.{StartsWith, numbered}
use Rattle.sia_turn.specs.Views.{gone}
use Rattle.sia_turn.specs.Turning.{total, ticket, tickets, IsOpening, out, seats_of, InTurn, IsKnown, Turning}
use Rattle.sia_turn.specs.Moves.{GivesBack}
use Rattle.sia_turn.proofs.EntryLemmas.{starts_itself, starts_longer, slice_get_front, slice_get_behind, slice_get_parts, slice_get_below, numbered_has, numbered_at, numbered_once, once_both}
use Rattle.sia_turn.proofs.Rolls.{there_below, total_set, each_set}
use Rattle.sia_turn.proofs.Standing.{counts_on, in_turn_served, opens_served, apart_without}
use Rattle.sia_turn.proofs.Owners.{added, added_behind, added_before}

module _ {E : Type 0} where
  -- another pass, while id adds entries and its ticket was served
  another : (log more : List E) (owner : ℕ → ℕ) (drawn served id j : ℕ) (u : View E) → j ≢ id → (ticket u.stage ≡ some served → ⊥) → IsKnown log owner drawn served j u
      → IsKnown (log ++ more) (added owner (length log) id) drawn (served + 1) j u
  another log more owner drawn served id j u off unserved k = record {
    seen = starts_longer log u.seen more k.seen;
    other = starts_longer log u.other more k.other;
    own = λ p e c. let o = k.own p e c in (slice_get_front log more p e o.0, added_before owner (length log) id p (slice_get_below log p e o.0) ∙ o.1);
    all = λ p e there mine. ⊎_elim
        (λ (a : (p < length log) × (slice_get log p ≡ Some e)). k.all p e a.1 (sym (added_before owner (length log) id p a.0) ∙ mine))
        (λ (b : (i : ℕ) × (p ≡ length log + i) × (slice_get more i ≡ Some e)). let at = b.1 in absurd (off (sym mine ∙ added_behind owner (length log) id p (omega arith))))
        (slice_get_parts log more p e there);
    once = k.once;
    turn = in_turn_served log (log ++ more) drawn served u.seen u.stage unserved k.turn;
    light = k.light;
    spent = k.spent;
  }

  -- the pass itself, which had seen all
  itself : (log more : List E) (owner : ℕ → ℕ) (drawn served id : ℕ) (v : View E) → v.seen ≡ log → 0 < v.parts → IsKnown log owner drawn served id v → IsKnown (log ++ more) (added owner (length log) id) drawn (served + 1) id (gone more v)
  itself log more owner drawn served id v all live k =
      let new : List (ℕ × E) = numbered (length v.seen) more in
      let n : length v.seen ≡ length log = ap length all in
      record {
        seen = subst (λ (seen : List E). StartsWith (log ++ more) (seen ++ more)) (sym all) (starts_itself (log ++ more));
        other = starts_longer log v.other more k.other;
        own = λ p e c. ⊎_elim
            (λ (a : Contains v.own (p, e)). let o = k.own p e a in (slice_get_front log more p e o.0, added_before owner (length log) id p (slice_get_below log p e o.0) ∙ o.1))
            (λ (b : Contains new (p, e)).
            let r = numbered_at (length v.seen) more p e b in
            let at = r.1 in
            let place : p ≡ length log + r.0 = omega arith in
            (subst (λ (q : ℕ). slice_get (log ++ more) q ≡ Some e) (sym place) (slice_get_behind log more r.0 e r.2), added_behind owner (length log) id p (omega arith)))
            (Contains-append_cases v.own new (p, e) c);
        all = λ p e there mine. ⊎_elim
            (λ (a : (p < length log) × (slice_get log p ≡ Some e)). Contains-append_left v.own new (p, e) (k.all p e a.1 (sym (added_before owner (length log) id p a.0) ∙ mine)))
            (λ (b : (i : ℕ) × (p ≡ length log + i) × (slice_get more i ≡ Some e)).
            let at = b.1 in
            let place : length v.seen + b.0 ≡ p = omega arith in
            Contains-append_right v.own new (p, e) (subst (λ (q : ℕ). Contains new (q, e)) place (numbered_has (length v.seen) more b.0 e b.2)))
            (slice_get_parts log more p e there);
        once = once_both v.own new k.once (numbered_once (length v.seen) more) (λ p a b c d.
            let r = numbered_at (length v.seen) more p b d in
            let at = r.1 in
            let lt = slice_get_below log p a (k.own p a c).0 in
            omega arith);
        turn = tt;
        light = omega arith;
        spent = λ none_left. absurd (omega arith);
      }

module _ {T E : Type 0} (stands : T → List E → Type 0) (seats : ℕ) where
  abbrev Rule : State (Option T) (View E) → Type 0
  Rule = Turning stands seats

  pub passes : (more : List E) (slots id : ℕ) (me : Me (Option T) (View E)) (t : ℕ) (x : T) → me.0.stage ≡ Inside t → me.1 ≡ (0, Some x) ∷ [] → stands x (me.0.seen ++ more)
      → Allows Rule slots id me 1 (λ n. (n + 1) % 2 ^ 64) (GivesBack more (step slots 1 1 0 none) me)
  passes more slots id me t x inside holds new s h len at small =
      let v = me.0 in
      let w = gone more v in
      let k = h.known id v at in
      let turn = subst (InTurn h.log h.drawn h.served v.seen) inside k.turn in
      let lt = turn.1 in
      let light = k.light in
      let one : out v ≡ 1 = ap tickets inside in
      let mine : ticket v.stage ≡ some h.served = ap ticket inside ∙ ap some turn.0 in
      let unserved : (j : ℕ) (u : View E) → j ≢ id → get_elem? s.views j ≡ some u → ticket u.stage ≡ some h.served → ⊥ = λ j u off there e. off (h.apart j id u v h.served there at e mine) in
      let sum : total out (set s.views id w) + out v ≡ total out s.views + 0 = total_set out s.views id v w at in
      let seats_sum : total seats_of (set s.views id w) + seats_of v ≡ total seats_of s.views + seats_of v = total_set seats_of s.views id v w at in
      let between = h.between in
      let few = h.few in
      let log = h.log ++ more in
      let owner = added h.owner (length h.log) id in (
        w,
        gives,
        tt,
        record {
          log = log;
          owner = owner;
          drawn = h.drawn;
          served = h.served + 1;
          home = some (Some x);
          words = ap (λ (ws : List ℕ). slice_set ws 1 ((slice_index ws 1 + 1) % 2 ^ 64)) h.words ∙ ap (λ (n : ℕ). h.drawn % 2 ^ 64 ∷ n ∷ []) (counts_on h.served);
          homes = ap (λ (c : List (ℕ × Option T)). put_back s.homes c) holds ∙ ap (λ (hs : List (Maybe (Option T))). slice_set hs 0 (some (Some x))) h.homes;
          between = omega arith;
          few = omega arith;
          most = h.most;
          within = λ p e there. ⊎_elim
              (λ (a : (p < length h.log) × (slice_get h.log p ≡ Some e)). let lt' = h.within p e a.1 in let same = added_before h.owner (length h.log) id p a.0 in omega (arith, length-set s.views id w))
              (λ (b : (i : ℕ) × (p ≡ length h.log + i) × (slice_get more i ≡ Some e)). let at' = b.1 in let same = added_behind h.owner (length h.log) id p (omega arith) in let lt' = there_below s.views id v at in omega (arith, length-set s.views id w))
              (slice_get_parts h.log more p e there);
          known = each_set (IsKnown log owner h.drawn (h.served + 1)) s.views id w
              (itself h.log more h.owner h.drawn h.served id v turn.2 (omega arith) k)
              (λ j u off there. another h.log more h.owner h.drawn h.served id j u off (unserved j u off there) (h.known j u there));
          apart = apart_without s.views id w refl h.apart;
          slot = (
            subst (λ (seen : List E). stands x (seen ++ more)) turn.2 new,
            each_set (λ j u. IsOpening u.stage → ⊥) s.views id w (λ o. let e = o.1 in absurd (cc))
                (λ j u off there o. unserved j u off there (opens_served h.log h.drawn h.served u.seen u.stage o (h.known j u there).turn)),
          );
        },
        (refl, ap rest holds),
      )
