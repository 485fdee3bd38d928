-- One pass becomes two, two become one, and then their lists are compared.
use Rattle.std.proofs.Common.{◌≡◌, ◌≢◌, ℕ, ◌+◌, ◌-◌, ◌<◌, Bool, true, false, List, [], ◌∷◌, ◌++◌, length, set, Option, refl, sym, ap, ◌∙◌, subst, ⊎_elim, length-append, arith}
use Rattle.std.proofs.lemmas.List.{length-set}
use Rattle.std.proofs.lemmas.List.Elements.{Contains-append_cases, Contains-append_left, Contains-append_right}
use Rattle.std.specs.Prelude.{Contains, if◌then◌else◌, nat_le}
use mathlib.Core.Option.{none, some}
use lib.ListN.{get_elem?}
use Rattle.atomic_table.specs.Table.{State, Me, step, keeps, Allows, Splits, Joins}
use Rattle.atomic_table.proofs.Lists.{at_set, set_else}
use Rattle.sia_turn.specs.declared.view.Stage.{Stage}
use Rattle.sia_turn.specs.declared.view.Stage.TheVariants.{Outside}
use Rattle.sia_turn.specs.declared.view.View.{View}
use Rattle.sia_turn.specs.Entries.{StartsWith}
use Rattle.sia_turn.specs.Views.{lender, newcomer, joined, spent, longer}
use Rattle.sia_turn.specs.Turning.{total, tickets, out, seats_of, InTurn, IsKnown, Turning}
use Rattle.sia_turn.specs.Moves.{Meets}
use Rattle.sia_turn.proofs.EntryLemmas.{starts_empty, starts_shorter, once_both, own_none}
use Rattle.sia_turn.proofs.Rolls.{there_below, total_set, total_snoc, each_set, each_snoc}
use Rattle.sia_turn.proofs.Standing.{apart_same, apart_without, apart_snoc, slot_set, slot_snoc}
use Rattle.sia_turn.proofs.Owners.{handed, handed_other, handed_else, handed_from, handed_to, handed_below}
use Rattle.sia_turn.proofs.Taking.{stays}

module _ {E : Type 0} where
  -- both of two lists begin the log, in either order
  either_starts : (log xs ys : List E) (b : Bool) → StartsWith log xs → StartsWith log ys → StartsWith log (if b then xs else ys)
  either_starts log xs ys true a b = a
  either_starts log xs ys false a b = b

  -- a pass that takes another in
  taker : (log : List E) (owner : ℕ → ℕ) (drawn served id other : ℕ) (v w : View E) → other ≢ id → v.stage ≡ Outside → 0 < v.parts → IsKnown log owner drawn served id v → IsKnown log owner drawn served other w
      → IsKnown log (handed owner id other) drawn served id (joined v w)
  taker log owner drawn served id other v w off outside live k l = record {
    seen = either_starts log v.seen w.seen (nat_le (length w.seen) (length v.seen)) k.seen l.seen;
    other = either_starts log w.seen v.seen (nat_le (length w.seen) (length v.seen)) l.seen k.seen;
    own = λ p e c. ⊎_elim
        (λ (a : Contains v.own (p, e)). let o = k.own p e a in (o.0, handed_else owner id other p (λ same. off (sym same ∙ o.1)) ∙ o.1))
        (λ (b : Contains w.own (p, e)). let o = l.own p e b in (o.0, handed_other owner id other p o.1))
        (Contains-append_cases v.own w.own (p, e) c);
    all = λ p e there mine. ⊎_elim
        (λ (a : owner p ≡ id). Contains-append_left v.own w.own (p, e) (k.all p e there a))
        (λ (b : owner p ≡ other). Contains-append_right v.own w.own (p, e) (l.all p e there b))
        (handed_to owner id other p mine);
    once = once_both v.own w.own k.once l.once (λ p a b c d. off (sym (l.own p b d).1 ∙ (k.own p a c).1));
    turn = in_turn_outside v.stage outside;
    light = let none_out : tickets v.stage ≡ 0 = ap tickets outside in omega arith;
    spent = λ none_left. absurd (omega arith);
  }
    where
      in_turn_outside : (s : Stage) → s ≡ Outside → InTurn log drawn served (longer v.seen w.seen) s
      in_turn_outside s e = subst (InTurn log drawn served (longer v.seen w.seen)) (sym e) tt

  -- the pass that was taken in, of which nothing is left
  taken : (log : List E) (owner : ℕ → ℕ) (drawn served id other : ℕ) → other ≢ id → IsKnown log (handed owner id other) drawn served other spent
  taken log owner drawn served id other off = record {
    seen = starts_empty log;
    other = starts_empty log;
    own = λ p e c. absurd (own_none [] p e refl c);
    all = λ p e there mine. absurd ((handed_from owner id other p other off mine).1 refl);
    once = λ i j d ij lt. absurd (omega arith);
    turn = tt;
    light = omega arith;
    spent = λ _. (refl, refl);
  }

  -- any other pass
  bystander : (log : List E) (owner : ℕ → ℕ) (drawn served id other j : ℕ) (u : View E) → j ≢ id → j ≢ other → IsKnown log owner drawn served j u → IsKnown log (handed owner id other) drawn served j u
  bystander log owner drawn served id other j u off off' k = record {
    seen = k.seen;
    other = k.other;
    own = λ p e c. let o = k.own p e c in (o.0, handed_else owner id other p (λ same. off' (sym o.1 ∙ same)) ∙ o.1);
    all = λ p e there mine. k.all p e there (handed_from owner id other p j off mine).0;
    once = k.once;
    turn = k.turn;
    light = k.light;
    spent = k.spent;
  }

module _ {T E : Type 0} (stands : T → List E → Type 0) (seats : ℕ) where
  abbrev Rule : State (Option T) (View E) → Type 0
  Rule = Turning stands seats

  pub meets : (slots id : ℕ) (me : Me (Option T) (View E)) → Allows Rule slots id me 1 (λ n. n) (Meets (step slots 1 0 0 none) me)
  meets slots id me s h len at small =
      let v = me.0 in
      let k = h.known id v at in
      (v, keeps, tt, stays stands seats s 1 id me h at, (refl, (λ le. starts_shorter h.log v.seen v.other k.seen k.other le), k.once))

  pub splits : (id : ℕ) (v : View E) → 0 < v.rest → Splits Rule id v (lender v) (newcomer v)
  splits id v room s h at =
      let l = lender v in
      let n : View E = newcomer v in
      let vs = set s.views id l in
      let k = h.known id v at in
      let sum : total out vs + out v ≡ total out s.views + out v = total_set out s.views id v l at in
      let sum' : total out (vs ++ n ∷ []) ≡ total out vs + 0 = total_snoc out vs n in
      let seats_sum : total seats_of vs + (v.parts + v.rest) ≡ total seats_of s.views + (v.parts + (v.rest - 1)) = total_set seats_of s.views id v l at in
      let seats_sum' : total seats_of (vs ++ n ∷ []) ≡ total seats_of vs + (1 + 0) = total_snoc seats_of vs n in
      let between = h.between in
      let few = h.few in
      let longer_by_one : length (vs ++ n ∷ []) ≡ length s.views + 1 = omega (arith, length-append vs (n ∷ []), length-set s.views id l) in
      record {
        log = h.log;
        owner = h.owner;
        drawn = h.drawn;
        served = h.served;
        home = h.home;
        words = h.words;
        homes = h.homes;
        between = omega arith;
        few = omega arith;
        most = h.most;
        within = λ p e there. let lt = h.within p e there in omega arith;
        known = each_snoc (IsKnown h.log h.owner h.drawn h.served) vs n
            (record {
              seen = k.seen;
              other = starts_empty h.log;
              own = λ p e c. absurd (own_none [] p e refl c);
              all = λ p e there mine. let lt = h.within p e there in absurd (omega (arith, length-set s.views id l));
              once = λ i j d ij lt. absurd (omega arith);
              turn = tt;
              light = omega arith;
              spent = λ none_left. absurd (omega arith);
            })
            (each_set (IsKnown h.log h.owner h.drawn h.served) s.views id l
            (record { seen = k.seen; other = k.other; own = k.own; all = k.all; once = k.once; turn = k.turn; light = k.light; spent = λ none_left. let gone = (k.spent none_left).1 in absurd (omega arith) })
            (λ j u off there. h.known j u there));
        apart = apart_snoc vs n refl (apart_same s.views id v l at refl h.apart);
        slot = slot_snoc stands h.log vs n h.home (λ o. let e = o.1 in absurd (cc)) (slot_set stands h.log s.views id v l h.home at (λ x. x) (λ x. x) (λ x. x) h.slot);
      }

  pub joins : (id : ℕ) (v : View E) (other : ℕ) (w : View E) → v.stage ≡ Outside → w.stage ≡ Outside → 0 < v.parts → Joins Rule id v other w (joined v w) spent
  joins id v other w outside outside' live s h at off there =
      let b = joined v w in
      let z : View E = spent in
      let vs = set s.views id b in
      let there' : get_elem? s.views other ≡ some w = sym (set_else s.views id other b off) ∙ there in
      let k = h.known id v at in
      let l = h.known other w there' in
      let owner = handed h.owner id other in
      let none_out : out v ≡ 0 = ap tickets outside in
      let none_out' : out w ≡ 0 = ap tickets outside' in
      let sum : total out vs + out v ≡ total out s.views + out v = total_set out s.views id v b at in
      let sum' : total out (set vs other z) + out w ≡ total out vs + 0 = total_set out vs other w z there in
      let seats_sum : total seats_of vs + (v.parts + v.rest) ≡ total seats_of s.views + ((v.parts + w.parts) + (v.rest + w.rest)) = total_set seats_of s.views id v b at in
      let seats_sum' : total seats_of (set vs other z) + (w.parts + w.rest) ≡ total seats_of vs + (0 + 0) = total_set seats_of vs other w z there in
      let between = h.between in
      let few = h.few in
      let as_long : length (set vs other z) ≡ length s.views = length-set vs other z ∙ length-set s.views id b in
      record {
        log = h.log;
        owner = owner;
        drawn = h.drawn;
        served = h.served;
        home = h.home;
        words = h.words;
        homes = h.homes;
        between = omega arith;
        few = omega arith;
        most = h.most;
        within = λ p e stands_there.
            let lt = h.within p e stands_there in
            let below = there_below s.views id v at in
            subst (λ (n : ℕ). owner p < n) (sym as_long) (handed_below h.owner id other p (length s.views) below lt);
        known = each_set (IsKnown h.log owner h.drawn h.served) vs other z
            (taken h.log h.owner h.drawn h.served id other off)
            (λ j u off' at'. ⊎_elim
            (λ (t : (j ≡ id) × (b ≡ u)). subst (λ (y : ℕ × View E). IsKnown h.log owner h.drawn h.served y.0 y.1) (λ i. (sym t.0 i, t.1 i)) (taker h.log h.owner h.drawn h.served id other v w off outside live k l))
            (λ (t : (j ≢ id) × (get_elem? s.views j ≡ some u)). bystander h.log h.owner h.drawn h.served id other j u t.0 off' (h.known j u t.1))
            (at_set s.views id j b u at'));
        apart = apart_without vs other z refl (apart_same s.views id v b at refl h.apart);
        slot = slot_set stands h.log vs other w z h.home there (λ x. let e = sym outside' ∙ x.1 in absurd (cc)) (λ x. let e = sym outside' ∙ x.1 in absurd (cc)) (λ x. let e = x.1 in absurd (cc))
            (slot_set stands h.log s.views id v b h.home at (λ x. x) (λ x. x) (λ x. x) h.slot);
      }
