-- What a pass is while it takes others in, one by one.
use Rattle.std.proofs.Common.{◌≡◌, ◌⊎◌, ℕ, zero, suc, ◌+◌, ◌<◌, false, List, [], ◌∷◌, ◌++◌, length, map, get_or, refl, sym, ap, subst, ◌∙◌, ⊎_elim, append_assoc, arith}
use Rattle.std.specs.Prelude.{Contains, All, sum_by}
use Rattle.std.proofs.lemmas.List.{append-nil, map-append}
use Rattle.std.proofs.lemmas.List.Elements.{All-push, All-cons, All-head, All-tail, Contains-append_left, Contains-append_right, Contains-push}
use Rattle.std.proofs.lemmas.List.Quantifiers.{all_pairs_push}
use Rattle.std.proofs.lemmas.List.Sums.{sum_by-append, sum_by-cons}
use Rattle.sia_turn.specs.Entries.{StartsWith, AreDisjoint}
use Rattle.sia_turn.specs.Tokens.{Token, TableId, Gathers, IsWorker, own_of_all}
use Rattle.sia_turn.proofs.EntryLemmas.{starts_itself, starts_longer}

module _ {E : Type 0} where
  own_of_push : (passes : List (Token E)) (pass : Token E) → own_of_all (passes ++ pass ∷ []) ≡ own_of_all passes ++ pass.own
  own_of_push [] pass = append-nil pass.own
  own_of_push (p ∷ passes) pass = ap (λ own. p.own ++ own) (own_of_push passes pass) ∙ sym (append_assoc p.own (own_of_all passes) pass.own)

  -- what one of them owns stands among what all own
  own_in_all : (passes : List (Token E)) (k : ℕ) (d : Token E) (x : ℕ × E) → k < length passes → Contains (get_or passes k d).own x → Contains (own_of_all passes) x
  own_in_all [] k d x lt c = absurd (omega arith)
  own_in_all (p ∷ passes) zero d x lt c = Contains-append_left p.own (own_of_all passes) x c
  own_in_all (p ∷ passes) (suc k) d x lt c = Contains-append_right p.own (own_of_all passes) x (own_in_all passes k d x (omega arith) c)

  starts_as : (log mid seen : List E) → StartsWith log mid → StartsWith mid seen → StartsWith log seen
  starts_as log mid seen a b = subst (λ l. StartsWith l seen) (sym a.1) (starts_longer mid seen a.0 b)

  pub gathers_none : (before : Token E) → before.inside ≡ false → Gathers before [] before
  gathers_none before outside = record {
    turn = refl;
    inside = outside;
    own = sym (append-nil before.own);
    disjoint = λ i j d less within. absurd (omega arith);
    longest = (0, omega arith, refl);
    seen = one;
    parts = omega arith;
    rest = omega arith;
  } where
    one : All (λ p. StartsWith before.seen p.seen) (before ∷ [])
    one zero d within = starts_itself before.seen
    one (suc k) d within = absurd (omega arith)

  -- one more
  pub gathers_more : (before mid other after : Token E) (done : List (Token E)) → Gathers before done mid
      → (after.turn ≡ mid.turn) × (after.inside ≡ false) → after.own ≡ mid.own ++ other.own → AreDisjoint mid.own other.own
      → (after.seen ≡ mid.seen) ⊎ (after.seen ≡ other.seen) → StartsWith after.seen mid.seen × StartsWith after.seen other.seen
      → (after.parts ≡ mid.parts + other.parts) × (after.rest ≡ mid.rest + other.rest) → Gathers before (done ++ other ∷ []) after
  gathers_more before mid other after done so turn own disjoint longer seen sums =
      let parts = sum_by-append (λ (p : Token E). p.parts) done (other ∷ []) in
      let rest = sum_by-append (λ (p : Token E). p.rest) done (other ∷ []) in
      record {
        turn = turn.0 ∙ so.turn;
        inside = turn.1;
        own = own ∙ (ap (λ l. l ++ other.own) so.own ∙ (append_assoc before.own (own_of_all done) other.own ∙ ap (λ l. before.own ++ l) (sym (own_of_push done other))));
        disjoint = all_pairs_push (λ (p q : Token E). AreDisjoint p.own q.own) (before ∷ done) other so.disjoint
            (λ k d within p a b mine. disjoint p a b (subst (λ l. Contains l (p, a)) (sym so.own) (own_in_all (before ∷ done) k d (p, a) within mine)));
        longest = subst (λ l. Contains l after.seen) (sym (map-append (λ (p : Token E). p.seen) (before ∷ done) (other ∷ []))) (⊎_elim old new longer);
        seen = All-push (λ (p : Token E). StartsWith after.seen p.seen) (before ∷ done) other (λ k d within. starts_as after.seen mid.seen _ seen.0 (so.seen k d within)) seen.1;
        parts = omega (arith, sums.0, so.parts, parts);
        rest = omega (arith, sums.1, so.rest, rest);
      } where
        all : List (List E)
        all = map (λ (p : Token E). p.seen) (before ∷ done)

        old : after.seen ≡ mid.seen → Contains (all ++ other.seen ∷ []) after.seen
        old same = Contains-append_left all (other.seen ∷ []) after.seen (subst (Contains all) (sym same) so.longest)

        new : after.seen ≡ other.seen → Contains (all ++ other.seen ∷ []) after.seen
        new same = subst (Contains (all ++ other.seen ∷ [])) (sym same) (Contains-push all other.seen)

  -- Of all others these are left, and the pass took the rest in. Those that are left can be taken in too.
  pub record Gathering (turn : TableId) (all left : List (Token E)) (before now : Token E) : Type 0 where
    pub done : List (Token E)
    pub is : all ≡ done ++ left
    pub gathers : Gathers before done now
    pub here : All (λ p. p.turn ≡ turn) (now ∷ left)
    pub outside : All (λ p. p.inside ≡ false) left

  pub gathering_none : (turn : TableId) (all left : List (Token E)) (before : Token E) → left ≡ all → All (λ p. p.turn ≡ turn) (before ∷ all) → All (λ p. p.inside ≡ false) (before ∷ all)
      → Gathering turn all left before before
  gathering_none turn all left before same here outside = record {
    done = [];
    is = sym same;
    gathers = gathers_none before (All-head (λ (p : Token E). p.inside ≡ false) before all outside);
    here = subst (λ l. All (λ (p : Token E). p.turn ≡ turn) (before ∷ l)) (sym same) here;
    outside = subst (All (λ (p : Token E). p.inside ≡ false)) (sym same) (All-tail (λ (p : Token E). p.inside ≡ false) before all outside);
  }

  -- what is known of the next one, and of the pass
  pub gathering_next : (turn : TableId) (all left later : List (Token E)) (other before now : Token E) → left ≡ other ∷ later → Gathering turn all left before now
      → (now.turn ≡ turn) × (other.turn ≡ turn) × (now.inside ≡ false) × (other.inside ≡ false)
  gathering_next turn all left later other before now is so =
      let Here : Token E → Type 0 = λ p. p.turn ≡ turn in
      let Outside : Token E → Type 0 = λ p. p.inside ≡ false in
      let here = subst (λ l. All Here (now ∷ l)) is so.here in
      let outside = subst (All Outside) is so.outside in
      (All-head Here now (other ∷ later) here, All-head Here other later (All-tail Here now (other ∷ later) here), so.gathers.inside, All-head Outside other later outside)

  pub gathering_more : (turn : TableId) (all left later : List (Token E)) (other before now after : Token E) → left ≡ other ∷ later → Gathering turn all left before now
      → (after.turn ≡ now.turn) × (after.inside ≡ false) → after.own ≡ now.own ++ other.own → AreDisjoint now.own other.own
      → (after.seen ≡ now.seen) ⊎ (after.seen ≡ other.seen) → StartsWith after.seen now.seen × StartsWith after.seen other.seen
      → (after.parts ≡ now.parts + other.parts) × (after.rest ≡ now.rest + other.rest) → Gathering turn all later before after
  gathering_more turn all left later other before now after is so turned own disjoint longer seen sums =
      let Here : Token E → Type 0 = λ p. p.turn ≡ turn in
      let Outside : Token E → Type 0 = λ p. p.inside ≡ false in
      let here = subst (λ l. All Here (now ∷ l)) is so.here in
      record {
        done = so.done ++ other ∷ [];
        is = so.is ∙ (ap (λ l. so.done ++ l) is ∙ sym (append_assoc so.done (other ∷ []) later));
        gathers = gathers_more before now other after so.done so.gathers turned own disjoint longer seen sums;
        here = All-cons Here after later (turned.0 ∙ All-head Here now (other ∷ later) here) (All-tail Here other later (All-tail Here now (other ∷ later) here));
        outside = All-tail Outside other later (subst (All Outside) is so.outside);
      }

  -- workers stand for one pass each, and split none off
  pub workers_sum : (turn : TableId) (passes : List (Token E)) → All (IsWorker turn) passes → (sum_by (λ p. p.parts) passes ≡ length passes) × (sum_by (λ p. p.rest) passes ≡ 0)
  workers_sum turn [] all = (refl, refl)
  workers_sum turn (pass ∷ passes) all =
      let one = All-head (IsWorker turn) pass passes all in
      let more = workers_sum turn passes (All-tail (IsWorker turn) pass passes all) in
      (omega (arith, one.2, more.0, sum_by-cons (λ (p : Token E). p.parts) pass passes), omega (arith, one.3, more.1, sum_by-cons (λ (p : Token E). p.rest) pass passes))
