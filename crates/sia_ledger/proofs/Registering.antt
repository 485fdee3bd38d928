-- What a register keeps, one fact longer and one shorter.
use Rattle.std.proofs.Common.{◌≡◌, ℕ, suc, ◌+◌, ◌-◌, ◌<◌, ◌≤◌, Bool, true, false, List, [], ◌∷◌, ◌++◌, length, get_or, refl, ap, sym, ◌∙◌, arith, append_assoc, append-nil}
use Rattle.std.specs.Prelude.{◌||◌, cond, if◌then◌else◌, Option, Some, None, is_some, IsSome}
use Rattle.std.specs.Option.{option_or}
use Rattle.std.specs.Str.{bytes_eq}
use Rattle.std.specs.Cmp.Lexicographic.{same_text}
use Rattle.std.specs.HashMap.{HashMap, get}
use Rattle.std.proofs.lemmas.List.{same_from_push}
use Rattle.std.proofs.lemmas.Bool.{ltb-false}
use Rattle.std.proofs.Math.Dec.{ltb}
use Rattle.sia_ledger.proofs.Held.{same-self}
use Rattle.sia_ledger.specs.declared.fact.Fact.{Fact}
use Rattle.sia_ledger.specs.declared.register.Link.{Link}
use Rattle.sia_ledger.specs.declared.running.Running.{Running}
use Rattle.sia_ledger.specs.Facts.{is_known, last_deed}
use Rattle.sia_ledger.specs.Registered.{last_from, last_place, link, links_from, running, IsRegistered}

-- the place in a list with one fact more
pub last_from-push : (n : ℕ) (facts : List Fact) (x : Fact) (id : List ℕ) → last_from n (facts ++ x ∷ []) id ≡ (if bytes_eq x.id id then Some (n + length facts) else last_from n facts id)
last_from-push n [] x id = by (bytes_eq x.id id)
  where
    here : n ≡ n + 0
    here = omega arith

    by : (b : Bool) → option_or None (if b then Some n else None) ≡ (if b then Some (n + 0) else None)
    by true = ap (λ k. Some k) here
    by false = refl
last_from-push n (fact ∷ rest) x id = ap (λ found. option_or found (if bytes_eq fact.id id then Some n else None)) (last_from-push (n + 1) rest x id) ∙ by (bytes_eq x.id id)
  where
    there : n + 1 + length rest ≡ n + length (fact ∷ rest)
    there = omega arith

    by : (b : Bool) → option_or (if b then Some (n + 1 + length rest) else last_from (n + 1) rest id) (if bytes_eq fact.id id then Some n else None) ≡ (if b then Some (n + length (fact ∷ rest)) else option_or (last_from (n + 1) rest id) (if bytes_eq fact.id id then Some n else None))
    by true = ap (λ k. Some k) there
    by false = refl

-- what is known of the last fact about an identifier, which stands at a place
pub record IsLast (n : ℕ) (facts : List Fact) (id : List ℕ) (place : ℕ) : Type 0 where
  pub low : n ≤ place
  pub within : place < n + length facts
  pub done : (d : Fact) → last_deed facts id ≡ Some (get_or facts (place - n) d).deed

pub some_is : {X : Type 0} (x y : X) → Some x ≡ Some y → x ≡ y
some_is x y e = cc

pub none_some : {X : Type 0} (x : X) → None ≡ Some x → ⊥
none_some x e = cc

-- nothing happened where there is no place
pub no_place : (n : ℕ) (facts : List Fact) (id : List ℕ) → last_from n facts id ≡ None → last_deed facts id ≡ None
no_place n [] id e = refl
no_place n (fact ∷ rest) id e = by (no_place (n + 1) rest id) (last_from (n + 1) rest id) refl (bytes_eq fact.id id) e
  where
    by : (last_from (n + 1) rest id ≡ None → last_deed rest id ≡ None) → (found : Option ℕ) → last_from (n + 1) rest id ≡ found → (b : Bool) → option_or found (if b then Some n else None) ≡ None → option_or (last_deed rest id) (if b then Some fact.deed else None) ≡ None
    by later None is true e = absurd (none_some n (sym e))
    by later None is false e = ap (λ found. option_or found None) (later is)
    by later (Some p) is b e = absurd (none_some p (sym e))

pub is_last : (n : ℕ) (facts : List Fact) (id : List ℕ) (place : ℕ) → last_from n facts id ≡ Some place → IsLast n facts id place
is_last n [] id place e = absurd (none_some place e)
is_last n (fact ∷ rest) id place e = by (is_last (n + 1) rest id) (no_place (n + 1) rest id) (last_from (n + 1) rest id) refl (bytes_eq fact.id id) refl e
  where
    by : ((p : ℕ) → last_from (n + 1) rest id ≡ Some p → IsLast (n + 1) rest id p) → (last_from (n + 1) rest id ≡ None → last_deed rest id ≡ None) → (found : Option ℕ) → last_from (n + 1) rest id ≡ found → (b : Bool) → bytes_eq fact.id id ≡ b → option_or found (if b then Some n else None) ≡ Some place → IsLast n (fact ∷ rest) id place
    by behind nothing None is true same e =
        let here : n ≡ place = some_is n place e in
        let at : place - n ≡ 0 = omega (arith, here) in
        let whole : length (fact ∷ rest) ≡ length rest + 1 = omega arith in
        record {
          low = omega (arith, here);
          within = omega (arith, here, whole);
          done = λ d. ap (λ found. option_or found (if bytes_eq fact.id id then Some fact.deed else None)) (nothing is)
              ∙ ap (λ b. option_or None (if b then Some fact.deed else None)) same
              ∙ ap (λ (k : ℕ). Some (get_or (fact ∷ rest) k d).deed) (sym at);
        }
    by behind nothing None is false same e = absurd (none_some place e)
    by behind nothing (Some p) is b same e =
        let here : p ≡ place = some_is p place e in
        let later = behind p is in
        let whole : length (fact ∷ rest) ≡ length rest + 1 = omega arith in
        let at : place - n ≡ suc (p - (n + 1)) = omega (arith, here, later.low) in
        record {
          low = omega (arith, here, later.low);
          within = omega (arith, here, later.within, whole);
          done = λ d. ap (λ found. option_or found (if bytes_eq fact.id id then Some fact.deed else None)) (later.done d)
              ∙ ap (λ (k : ℕ). Some (get_or (fact ∷ rest) k d).deed) (sym at);
        }

-- the fact at the place of an identifier tells what last happened to it
pub last_there : (facts : List Fact) (id : List ℕ) (place : ℕ) (x : Fact) → last_place facts id ≡ Some place → x ≡ get_or facts place x → Some x.deed ≡ last_deed facts id
last_there facts id place x found is =
    let at : place - 0 ≡ place = omega arith in
    sym ((is_last 0 facts id place found).done x ∙ ap (λ (k : ℕ). Some (get_or facts k x).deed) at ∙ ap (λ (y : Fact). Some y.deed) (sym is))

-- no place lies past the end
pub not_past : (facts : List Fact) (id : List ℕ) (place : ℕ) → last_place facts id ≡ Some place → false ≡ ltb place (length facts) → ⊥
not_past facts id place found past =
    let within = (is_last 0 facts id place found).within in
    let over = ltb-false place (length facts) (sym past) in
    omega (arith, within, over)

-- the last fact is found
pub last_found : (all front : List Fact) (x : Fact) (found : Option ℕ) → all ≡ front ++ x ∷ [] → found ≡ last_place all x.id → IsSome found
last_found all front x found is finds = ap is_some (finds ∙ ap (λ facts. last_place facts x.id) is ∙ last_from-push 0 front x x.id ∙ ap (λ b. if b then Some (0 + length front) else last_from 0 front x.id) (same-self x.id))

-- a fact is about an identifier where there is a place
pub placed : (n : ℕ) (facts : List Fact) (id : List ℕ) → is_some (last_from n facts id) ≡ is_known facts id
placed n [] id = refl
placed n (fact ∷ rest) id = by (last_from (n + 1) rest id) (bytes_eq fact.id id) ∙ ap (λ known. bytes_eq fact.id id || known) (placed (n + 1) rest id)
  where
    by : (found : Option ℕ) (b : Bool) → is_some (option_or found (if b then Some n else None)) ≡ (b || is_some found)
    by None true = refl
    by None false = refl
    by (Some p) true = refl
    by (Some p) false = refl

-- what is kept beside one fact more
pub links-push : (before facts : List Fact) (x : Fact) → links_from before (facts ++ x ∷ []) ≡ links_from before facts ++ link (before ++ facts) x ∷ []
links-push before [] x = ap (λ front. link front x ∷ []) (sym (append-nil before))
links-push before (fact ∷ rest) x =
    ap (λ links. link before fact ∷ links) (links-push (before ++ fact ∷ []) rest x ∙ ap (λ front. links_from (before ++ fact ∷ []) rest ++ link front x ∷ []) (append_assoc before (fact ∷ []) rest))

-- what is kept beside the last fact names the one before it
pub earlier_is : (l : Link) (facts : List Fact) (x : Fact) → l ≡ link facts x → l.earlier ≡ last_place facts x.id
unfolding link
earlier_is l facts x is = ap (λ (k : Link). k.earlier) is

-- the same identifier is found at the same place
same_place : (facts : List Fact) (a b : List ℕ) → bytes_eq a b ≡ true → last_place facts a ≡ last_place facts b
same_place facts a b same = ap (last_place facts) (same_text a b (sym same))

-- what goes with the last fact
pub record IsUnlinked (links : List Link) (l : Link) (facts : List Fact) (x : Fact) : Type 0 where
  pub rest : links ≡ links_from [] facts
  pub last : l ≡ link facts x

pub unlinked : (links : List Link) (l : Link) (facts : List Fact) (x : Fact) → links ++ l ∷ [] ≡ links_from [] (facts ++ x ∷ []) → IsUnlinked links l facts x
unlinked links l facts x e =
    let parts = same_from_push links (links_from [] facts) l (link facts x) (e ∙ links-push [] facts x) in
    record { rest = parts.0; last = parts.1 }

module _ {S : Type 0} where
  -- one fact more
  pub registered_more : (m n : HashMap (List ℕ) ℕ S) (links : List Link) (sums after : Running) (facts : List Fact) (x : Fact) (earlier : Option ℕ) →
      IsRegistered m links sums facts → earlier ≡ get bytes_eq m x.id →
      ((q : List ℕ) → get bytes_eq n q ≡ cond (bytes_eq x.id q) (Some (length facts)) (get bytes_eq m q)) → after ≡ running (facts ++ x ∷ []) →
      IsRegistered n (links ++ record { earlier = earlier; shares = sums.shares } ∷ []) after (facts ++ x ∷ [])
  unfolding link running
  registered_more m n links sums after facts x earlier was old updates summed = record {
    finds = λ q. updates q ∙ by q (bytes_eq x.id q) refl;
    linked = ap (λ (front : List Link). front ++ record { earlier = earlier; shares = sums.shares } ∷ []) was.linked
        ∙ ap (λ (l : Link). links_from [] facts ++ l ∷ []) beside
        ∙ sym (links-push [] facts x);
    summed = summed;
  }
    where
      here : length facts ≡ 0 + length facts
      here = omega arith

      by : (q : List ℕ) (b : Bool) → bytes_eq x.id q ≡ b → cond b (Some (length facts)) (get bytes_eq m q) ≡ last_place (facts ++ x ∷ []) q
      by q true same = ap (λ k. Some k) here ∙ sym (last_from-push 0 facts x q ∙ ap (λ b. if b then Some (0 + length facts) else last_from 0 facts q) same)
      by q false same = was.finds q ∙ sym (last_from-push 0 facts x q ∙ ap (λ b. if b then Some (0 + length facts) else last_from 0 facts q) same)

      beside : record { earlier = earlier; shares = sums.shares } ≡ link facts x
      beside = rw (old, was.finds x.id, was.summed) refl

  -- the last fact taken back
  pub registered_less : (m n : HashMap (List ℕ) ℕ S) (links : List Link) (l : Link) (sums after : Running) (facts : List Fact) (x : Fact) →
      IsRegistered m (links ++ l ∷ []) sums (facts ++ x ∷ []) →
      ((q : List ℕ) → get bytes_eq n q ≡ cond (bytes_eq x.id q) l.earlier (get bytes_eq m q)) → after ≡ running facts →
      IsRegistered n links after facts
  registered_less m n links l sums after facts x was updates summed = record {
    finds = λ q. updates q ∙ by q (bytes_eq x.id q) refl;
    linked = parts.rest;
    summed = summed;
  }
    where
      parts : IsUnlinked links l facts x
      parts = unlinked links l facts x was.linked

      earlier : l.earlier ≡ last_place facts x.id
      earlier = earlier_is l facts x parts.last

      by : (q : List ℕ) (b : Bool) → bytes_eq x.id q ≡ b → cond b l.earlier (get bytes_eq m q) ≡ last_place facts q
      by q true same = earlier ∙ same_place facts x.id q same
      by q false same = was.finds q ∙ last_from-push 0 facts x q ∙ ap (λ b. if b then Some (0 + length facts) else last_from 0 facts q) same
