-- A ticket is drawn, the served word is looked at, and the slot is taken.
use Rattle.std.proofs.Common.{◌≡◌, ◌≢◌, ℕ, ◌+◌, ◌%◌, ◌^◌, ◌<◌, ◌≤◌, List, [], ◌∷◌, set, Option, None, Some, refl, sym, ap, ◌∙◌, subst, arith}
use Rattle.std.proofs.lemmas.List.{length-set, set-get_or}
use Rattle.std.specs.Prelude.{slice_set, slice_index}
use mathlib.Core.Logic.{dite}
use mathlib.Core.Option.{Option as Maybe, none, some}
use native.Mathlib.Decide.{ℕ_discrete}
use lib.ListN.{get_elem?}
use Rattle.atomic_table.specs.Table.{State, Me, step, Act, keeps, takes, Valid, stepped, carried_after, Allows}
use Rattle.atomic_table.proofs.Lists.{set_again, one_turn}
use Rattle.sia_turn.specs.declared.view.Stage.TheVariants.{Outside, Waiting, Opening}
use Rattle.sia_turn.specs.declared.view.View.{View}
use Rattle.sia_turn.specs.Views.{waiting, entered}
use Rattle.sia_turn.specs.Turning.{total, ticket, tickets, HasValue, IsOpening, out, seats_of, InTurn, IsKnown, Turning}
use Rattle.sia_turn.specs.Moves.{Draws, Looks, Begins}
use Rattle.sia_turn.proofs.EntryLemmas.{starts_itself}
use Rattle.sia_turn.proofs.Rolls.{set_there, total_set, total_under, each_set}
use Rattle.sia_turn.proofs.Standing.{counts_on, ticket_drawn, in_turn_drawn, value_served, opens_served, apart_fresh, apart_same, one_ticket, slot_set, slot_filled, slot_empty}

module _ {T E : Type 0} (stands : T → List E → Type 0) (seats : ℕ) where
  abbrev Rule : State (Option T) (View E) → Type 0
  Rule = Turning stands seats

  -- how a seat goes on at a step on word i
  abbrev Goes : State (Option T) (View E) → ℕ → Me (Option T) (View E) → ℕ → (ℕ → ℕ) → (ℕ → Me (Option T) (View E) → Type 0) → Type 0
  Goes s id me i f then = (w : View E) × (a : Act (Option T)) × Valid s.homes me.1 a × Rule (stepped s i (f (slice_index s.words i)) id me.1 w a) × then (slice_index s.words i) (w, carried_after me.1 a)

  -- a word that is only read
  pub word_stays : (s : State (Option T) (View E)) (i : ℕ) → slice_set s.words i (slice_index s.words i) ≡ s.words
  word_stays s i = set-get_or s.words i 0

  -- nothing changes
  pub stays : (s : State (Option T) (View E)) (i id : ℕ) (me : Me (Option T) (View E)) → Rule s → get_elem? s.views id ≡ some me.0 → Rule (stepped s i (slice_index s.words i) id me.1 me.0 keeps)
  stays s i id me h at =
      let same : s ≡ stepped s i (slice_index s.words i) id me.1 me.0 keeps = λ k. record { words = sym (word_stays s i) k; homes = s.homes; views = sym (set_again s.views id me.0 at) k } in
      subst Rule same h

  -- At most 66 tickets are out
  near : (s : State (Option T) (View E)) (h : Rule s) → h.drawn ≤ h.served + 66
  near s h =
      let le : total out s.views ≤ total seats_of s.views = total_under out seats_of s.views (λ j u at. let l = (h.known j u at).light in omega arith) in
      let a = h.between in
      let b = h.few in
      let c = h.most in
      omega arith

  pub draws : (slots id : ℕ) (me : Me (Option T) (View E)) → me.0.stage ≡ Outside → 0 < me.0.parts → Allows Rule slots id me 0 (λ n. (n + 1) % 2 ^ 64) (Draws (step slots 0 1 0 none) me)
  draws slots id me outside live s h len at small =
      let v = me.0 in
      let w = waiting h.drawn v in
      let k = h.known id v at in
      let was : out v ≡ 0 = ap tickets outside in
      let sum : total out (set s.views id w) + out v ≡ total out s.views + 1 = total_set out s.views id v w at in
      let seats_sum : total seats_of (set s.views id w) + seats_of v ≡ total seats_of s.views + seats_of v = total_set seats_of s.views id v w at in
      let between = h.between in
      let few = h.few in (
        w,
        keeps,
        tt,
        record {
          log = h.log;
          owner = h.owner;
          drawn = h.drawn + 1;
          served = h.served;
          home = h.home;
          words = ap (λ (ws : List ℕ). slice_set ws 0 ((slice_index ws 0 + 1) % 2 ^ 64)) h.words ∙ ap (λ (n : ℕ). n ∷ h.served % 2 ^ 64 ∷ []) (counts_on h.drawn);
          homes = h.homes;
          between = omega arith;
          few = omega arith;
          most = h.most;
          within = λ p e there. let lt = h.within p e there in omega (arith, length-set s.views id w);
          known = each_set (IsKnown h.log h.owner (h.drawn + 1) h.served) s.views id w
              (record { seen = k.seen; other = k.other; own = k.own; all = k.all; once = k.once; turn = (omega arith, omega arith); light = omega arith; spent = λ none_left. absurd (omega arith) })
              (λ j u off there. let o = h.known j u there in record { seen = o.seen; other = o.other; own = o.own; all = o.all; once = o.once; turn = in_turn_drawn h.log h.drawn h.served u.seen u.stage o.turn; light = o.light; spent = o.spent });
          apart = apart_fresh s.views id w h.drawn refl (λ j u there t. let lt = ticket_drawn h.log h.drawn h.served u.seen u.stage h.drawn (h.known j u there).turn t in absurd (omega arith)) h.apart;
          slot = slot_set stands h.log s.views id v w h.home at (λ x. let e = sym outside ∙ x.1 in absurd (cc)) (λ x. let e = sym outside ∙ x.1 in absurd (cc)) (λ x. let e = x.1 in absurd (cc)) h.slot;
        },
        (h.drawn, refl, ap (λ (ws : List ℕ). slice_index ws 0) h.words),
      )

  -- the slot is taken by the pass whose ticket is served, which has then seen all
  takes_slot : (s : State (Option T) (View E)) (i id : ℕ) (me : Me (Option T) (View E)) (t : ℕ) (y : Option T) (h : Rule s) → get_elem? s.views id ≡ some me.0 → ticket me.0.stage ≡ some t → t ≡ h.served → tickets me.0.stage ≡ 1
      → Rule (stepped s i (slice_index s.words i) id me.1 (entered t h.log me.0) (takes 0 y))
  takes_slot s i id me t y h at mine served one =
      let v = me.0 in
      let w = entered t h.log v in
      let k = h.known id v at in
      let light = k.light in
      let lt = ticket_drawn h.log h.drawn h.served v.seen v.stage t k.turn mine in
      let sum : total out (set s.views id w) + out v ≡ total out s.views + 1 = total_set out s.views id v w at in
      let seats_sum : total seats_of (set s.views id w) + seats_of v ≡ total seats_of s.views + seats_of v = total_set seats_of s.views id v w at in
      let between = h.between in
      let few = h.few in
      record {
        log = h.log;
        owner = h.owner;
        drawn = h.drawn;
        served = h.served;
        home = none;
        words = word_stays s i ∙ h.words;
        homes = ap (λ (hs : List (Maybe (Option T))). slice_set hs 0 none) h.homes;
        between = omega arith;
        few = omega arith;
        most = h.most;
        within = λ p e there. let lt' = h.within p e there in omega (arith, length-set s.views id w);
        known = each_set (IsKnown h.log h.owner h.drawn h.served) s.views id w
            (record { seen = starts_itself h.log; other = k.other; own = k.own; all = k.all; once = k.once; turn = (served, lt, refl); light = omega arith; spent = λ none_left. absurd (omega arith) })
            (λ j u off there. h.known j u there);
        apart = apart_same s.views id v w at (sym mine) h.apart;
        slot = (id, w, set_there s.views id v w at, (t, refl));
      }

  -- no pass is inside while the ticket that is served waits or opens
  none_inside : (s : State (Option T) (View E)) (h : Rule s) (id : ℕ) (v : View E) → get_elem? s.views id ≡ some v → ticket v.stage ≡ some h.served → (HasValue v.stage → ⊥)
      → (j : ℕ) (u : View E) → get_elem? s.views j ≡ some u → HasValue u.stage → ⊥
  none_inside s h id v at mine off j u there has =
      let same : u ≡ v = one_ticket s.views j id u v h.served h.apart there at (value_served h.log h.drawn h.served u.seen u.stage has (h.known j u there).turn) mine in
      off (subst (λ (x : View E). HasValue x.stage) same has)

  none_opens : (s : State (Option T) (View E)) (h : Rule s) (id : ℕ) (v : View E) → get_elem? s.views id ≡ some v → ticket v.stage ≡ some h.served → (IsOpening v.stage → ⊥)
      → (j : ℕ) (u : View E) → get_elem? s.views j ≡ some u → IsOpening u.stage → ⊥
  none_opens s h id v at mine off j u there opens =
      let same : u ≡ v = one_ticket s.views j id u v h.served h.apart there at (opens_served h.log h.drawn h.served u.seen u.stage opens (h.known j u there).turn) mine in
      off (subst (λ (x : View E). IsOpening x.stage) same opens)

  -- the ticket that waits is served
  hits : (id : ℕ) (me : Me (Option T) (View E)) (t slots : ℕ) → me.0.stage ≡ Waiting t → (s : State (Option T) (View E)) (h : Rule s) → get_elem? s.views id ≡ some me.0 → t ≡ h.served
      → Goes s id me 1 (λ n. n) (Looks stands (step slots 1 0 0 none) me)
  hits id me t slots waits s h at served =
      let v = me.0 in
      let k = h.known id v at in
      let mine : ticket v.stage ≡ some t = ap ticket waits in
      let is_served : ticket v.stage ≡ some h.served = mine ∙ ap some served in
      let filled = slot_filled stands h.log s.views h.home
      (none_inside s h id v at is_served (λ x. let e = sym waits ∙ x.1 in absurd (cc)))
      (none_opens s h id v at is_served (λ x. let e = sym waits ∙ x.1 in absurd (cc)))
      h.slot in (
        entered t h.log v,
        takes 0 (Some filled.0),
        ap (λ (hs : List (Maybe (Option T))). get_elem? hs 0) h.homes ∙ ap some filled.1,
        takes_slot s 1 id me t (Some filled.0) h at mine served (ap tickets waits),
        λ u is.
            let same : t ≡ u = let e = sym waits ∙ is in cc in (
              (λ _. (filled.0, h.log, ap (λ (n : ℕ). (entered n h.log v, (0, Some filled.0) ∷ me.1)) same, filled.2, k.seen, λ p e c. (k.own p e c).0)),
              (λ off. absurd (off (ap (λ (ws : List ℕ). slice_index ws 1) h.words ∙ ap (λ (n : ℕ). n % 2 ^ 64) (sym served ∙ same)))),
            ),
      )

  -- another ticket is served
  misses : (id : ℕ) (me : Me (Option T) (View E)) (t slots : ℕ) → me.0.stage ≡ Waiting t → (s : State (Option T) (View E)) (h : Rule s) → get_elem? s.views id ≡ some me.0 → t ≢ h.served
      → Goes s id me 1 (λ n. n) (Looks stands (step slots 1 0 0 none) me)
  misses id me t slots waits s h at off =
      let v = me.0 in
      let turn = subst (InTurn h.log h.drawn h.served v.seen) waits (h.known id v at).turn in
      let le = turn.0 in
      let lt = turn.1 in
      let close = near s h in (
        v,
        keeps,
        tt,
        stays s 1 id me h at,
        λ u is.
            let same : t ≡ u = let e = sym waits ∙ is in cc in (
              (λ found. absurd (off (sym (one_turn h.served t (2 ^ 64) le (omega arith) (sym (ap (λ (ws : List ℕ). slice_index ws 1) h.words) ∙ (found ∙ ap (λ (n : ℕ). n % 2 ^ 64) (sym same))))))),
              (λ _. refl),
            ),
      )

  pub looks : (slots id : ℕ) (me : Me (Option T) (View E)) (t : ℕ) → me.0.stage ≡ Waiting t → Allows Rule slots id me 1 (λ n. n) (Looks stands (step slots 1 0 0 none) me)
  looks slots id me t waits s h len at small = dite (ℕ_discrete t h.served) (λ served. hits id me t slots waits s h at served) (λ off. misses id me t slots waits s h at off)

  pub begins : (slots id : ℕ) (me : Me (Option T) (View E)) (t : ℕ) → me.0.stage ≡ Opening t → Allows Rule slots id me 1 (λ n. n) (Begins (step slots 1 0 0 none) me)
  begins slots id me t opens s h len at small =
      let v = me.0 in
      let k = h.known id v at in
      let turn = subst (InTurn h.log h.drawn h.served v.seen) opens k.turn in
      let mine : ticket v.stage ≡ some t = ap ticket opens in
      let empty = slot_empty stands h.log s.views h.home
      (none_inside s h id v at (mine ∙ ap some turn.0) (λ x. let e = sym opens ∙ x.1 in absurd (cc)))
      (id, v, at, (t, opens))
      h.slot in (
        entered t h.log v,
        takes 0 None,
        ap (λ (hs : List (Maybe (Option T))). get_elem? hs 0) h.homes ∙ ap some empty,
        takes_slot s 1 id me t None h at mine turn.0 (ap tickets opens),
        (t, ap (λ (log : List E). (entered t log v, (0, None) ∷ me.1)) (sym turn.2)),
      )
