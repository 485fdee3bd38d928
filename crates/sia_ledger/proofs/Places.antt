-- The facts at the places of a walk, and whether each is the last about its identifier.
use Rattle.std.proofs.Common.{◌≡◌, ℕ, zero, suc, ◌+◌, ◌<◌, ◌≤◌, Bool, true, false, List, [], ◌∷◌, ◌++◌, length, map, take, drop, get_or, refl, ap, sym, ◌∙◌, add-one, arith, subst}
use Rattle.std.specs.Prelude.{◌==◌, not, if◌then◌else◌, Option, Some, None, is_some, slice_get}
use Rattle.std.specs.Option.{option_or}
use Rattle.std.specs.Ordering.{nat_cmp, is_eq}
use Rattle.std.specs.Cmp.{unsigned_ties, unsigned_tied}
use Rattle.std.specs.Cmp.Lexicographic.{slice_cmp, lists_ties, same_text}
use Rattle.std.specs.BTreeMap.{is_at}
use Rattle.std.specs.Str.{bytes_eq}
use Rattle.std.proofs.Math.Seq.{drop-cons}
use Rattle.std.proofs.lemmas.Bool.{eqb-true, eqb-false}
use Rattle.std.proofs.lemmas.List.{drop_all, length-map, take_all}
use Rattle.std.proofs.lemmas.Option.{slice_get_read}
use Rattle.sia_types.specs.declared.coin.Coin.{Coin}
use Rattle.sia_ledger.specs.declared.fact.Fact.{Fact}
use Rattle.sia_ledger.specs.declared.fact.Deed.{Deed}
use Rattle.sia_ledger.specs.declared.fact.Deed.TheVariants as deed
use Rattle.sia_ledger.specs.Blocks.{ending, ends_at}
use Rattle.sia_ledger.specs.Cataloged.{paid_address, set_end, addresses_of, ends_of}
use Rattle.sia_ledger.specs.Chained.{has_key, last_keyed}
use Rattle.sia_ledger.specs.Facts.{fact, is_known, coin_in, terms_in}
use Rattle.sia_ledger.specs.Holdings.{coin_of, live_coins_at}
use Rattle.sia_ledger.specs.Registered.{last_from, last_place}
use Rattle.sia_ledger.proofs.Held.{same-self}
use Rattle.sia_ledger.proofs.Ordered.{ending_nothing, ending_other, owned_end, owned_known, owned_other}
use Rattle.sia_ledger.proofs.Registering.{is_last, no_place, placed}
use Rattle.sia_ledger.proofs.Walking.{Found, found_some, found_none}

nobody : Fact
nobody = fact [] deed.Block

-- Whether a fact is the last about its identifier.

-- the place of the last fact about the identifier of one is that one's, exactly where no fact behind it is about the identifier
record IsPlace (n : ℕ) (facts : List Fact) (at : ℕ) (x : Fact) : Type 0 where
  place : ℕ
  found : last_from n facts x.id ≡ Some place
  last : (place == n + at) ≡ not (is_known (drop (suc at) facts) x.id)

eqb-refl : (n : ℕ) → (n == n) ≡ true
eqb-refl n = by (n == n) refl
  where
    by : (b : Bool) → (n == n) ≡ b → (n == n) ≡ true
    by true e = e
    by false e = absurd (eqb-false n n e refl)

eqb-above : (m n : ℕ) → n < m → (m == n) ≡ false
eqb-above m n high = by (m == n) refl
  where
    by : (b : Bool) → (m == n) ≡ b → (m == n) ≡ false
    by true e = let same : m ≡ n = eqb-true m n e in absurd (omega (arith, high, same))
    by false e = e

some_place : (found : Option ℕ) → is_some found ≡ true → (p : ℕ) × (found ≡ Some p)
some_place None e = cc
some_place (Some p) e = (p, refl)

no_some : (found : Option ℕ) → is_some found ≡ false → found ≡ None
no_some None e = refl
no_some (Some p) e = cc

is_place : (n : ℕ) (facts : List Fact) (at : ℕ) (x : Fact) → slice_get facts at ≡ Some x → IsPlace n facts at x
is_place n [] at x e = cc
is_place n (y ∷ rest) zero x e = by (is_known rest x.id) refl
  where
    same : y ≡ x
    same = let here : Some y ≡ Some x = e in cc

    by : (k : Bool) → is_known rest x.id ≡ k → IsPlace n (y ∷ rest) zero x
    by true known =
        let later = some_place (last_from (n + 1) rest x.id) (placed (n + 1) rest x.id ∙ known) in
        let low = (is_last (n + 1) rest x.id later.0 later.1).low in
        record {
          place = later.0;
          found = ap (λ found. option_or found (if bytes_eq y.id x.id then Some n else None)) later.1;
          last = eqb-above later.0 (n + 0) (omega (arith, low)) ∙ ap not (sym known);
        }
    by false new =
        let none : last_from (n + 1) rest x.id ≡ None = no_some (last_from (n + 1) rest x.id) (placed (n + 1) rest x.id ∙ new) in
        let own : bytes_eq y.id x.id ≡ true = ap (λ (z : Fact). bytes_eq z.id x.id) same ∙ same-self x.id in
        let at : n + 0 ≡ n = omega arith in
        record {
          place = n;
          found = ap (λ found. option_or found (if bytes_eq y.id x.id then Some n else None)) none ∙ ap (λ b. if b then Some n else None) own;
          last = ap (λ m. n == m) at ∙ eqb-refl n ∙ ap not (sym new);
        }
is_place n (y ∷ rest) (suc at) x e =
    let later = is_place (n + 1) rest at x e in
    let here : n + suc at ≡ n + 1 + at = omega arith in
    record {
      place = later.place;
      found = ap (λ found. option_or found (if bytes_eq y.id x.id then Some n else None)) later.found;
      last = ap (λ m. later.place == m) here ∙ later.last;
    }

-- what a register finds at the identifier of a fact says whether that is the last about it
pub stands : (facts : List Fact) (at : ℕ) (x : Fact) (found : Option ℕ) → at < length facts → x ≡ get_or facts at x → found ≡ last_place facts x.id → (place : ℕ) × (found ≡ Some place) × ((place == at) ≡ not (is_known (drop (at + 1) facts) x.id))
stands facts at x found within is finds =
    let p = is_place 0 facts at x (slice_get_read facts (length facts) at x refl within is) in
    let none : 0 + at ≡ at = omega arith in
    (p.place, finds ∙ p.found, ap (λ m. p.place == m) (sym none) ∙ p.last ∙ ap (λ m. not (is_known (drop m facts) x.id)) (sym (add-one at)))

same_fact : (facts : List Fact) (at : ℕ) (x y : Fact) → at < length facts → x ≡ get_or facts at x → y ≡ get_or facts at y → x ≡ y
same_fact facts at x y within is other =
    let both : Some x ≡ Some y = sym (slice_get_read facts (length facts) at x refl within is) ∙ slice_get_read facts (length facts) at y refl within other in
    cc

same_place : (p q : ℕ) → Some p ≡ Some q → p ≡ q
same_place p q e = cc

no_fact : (p : ℕ) → None ≡ Some p → ⊥
no_fact p e = cc

-- what a register finds at the identifier of a fact
pub found_last : (facts : List Fact) (at : ℕ) (x y : Fact) (last : ℕ) → at < length facts → x ≡ get_or facts at x → y ≡ get_or facts at y → Some last ≡ last_place facts x.id → (last == at) ≡ not (is_known (drop (at + 1) facts) y.id)
found_last facts at x y last within is other finds =
    let s = stands facts at x (Some last) within is finds in
    ap (λ p. p == at) (same_place last s.0 s.1) ∙ s.2 ∙ ap (λ (z : Fact). not (is_known (drop (at + 1) facts) z.id)) (same_fact facts at x y within is other)

pub found_some_fact : (facts : List Fact) (at : ℕ) (x : Fact) → at < length facts → x ≡ get_or facts at x → None ≡ last_place facts x.id → ⊥
found_some_fact facts at x within is finds = let s = stands facts at x None within is finds in no_fact s.0 s.1

-- By address.

abbrev pub by_address : Fact → Option (List ℕ)
by_address x = paid_address x.deed

same_address : (own address : List ℕ) → is_at (slice_cmp nat_cmp own) address ≡ bytes_eq own address
same_address own address = sym (lists_ties nat_cmp unsigned_ties own address)

none_there : (address : List ℕ) (x : Fact) → has_key (slice_cmp nat_cmp) address (paid_address x.deed) ≡ false → coin_of address x.id (coin_in (Some x.deed)) ≡ None
none_there address x other = by x.deed other
  where
    by : (what : Deed) → has_key (slice_cmp nat_cmp) address (paid_address what) ≡ false → coin_of address x.id (coin_in (Some what)) ≡ None
    by deed.Block e = refl
    by (deed.Coin output from) e = ap (λ b. if b then Some (record { id = x.id; value = output.value; address = output.address; from = from }) else None) (sym (same_address output.address address) ∙ e)
    by (deed.Fund output) e = refl
    by (deed.Formed terms) e = refl
    by deed.Spent e = refl
    by (deed.Revised terms) e = refl
    by (deed.Settled valid) e = refl

pub address_passed : (address : List ℕ) (x : Fact) (rest : List Fact) → has_key (slice_cmp nat_cmp) address (by_address x) ≡ false → live_coins_at (x ∷ rest) address ≡ live_coins_at rest address
address_passed address x rest other = by (is_known rest x.id) refl
  where
    by : (k : Bool) → is_known rest x.id ≡ k → live_coins_at (x ∷ rest) address ≡ live_coins_at rest address
    by true known = owned_known address x rest known
    by false new = owned_other address x rest new (none_there address x other)

-- what is known of the next place of a walk
pub record IsNext {K R : Type 0} (of : Fact → Option K) (key : K) (F : List Fact → R) (facts : List Fact) (n place : ℕ) : Type 0 where
  pub below : place < n
  pub within : place < length facts
  pub same : F (drop n facts) ≡ F (drop (place + 1) facts)
  pub has : slice_get (map of facts) place ≡ Some (Some key)

pub next_paying : (address : List ℕ) (facts : List Fact) (n place : ℕ) → n ≤ length facts → last_keyed (slice_cmp nat_cmp) address (take n (addresses_of facts)) ≡ Some place → IsNext by_address address (λ xs. live_coins_at xs address) facts n place
next_paying address facts n place within found =
    let f = found_some (slice_cmp nat_cmp) by_address address (λ xs. live_coins_at xs address) (address_passed address) facts nobody n place within found in
    let own : f.has.0 ≡ address = same_text f.has.0 address (sym (sym (same_address f.has.0 address) ∙ f.has.2)) in
    record { below = f.within; within = omega (arith, f.within, within); same = f.same; has = f.has.1 ∙ ap (λ a. Some (Some a)) own }

pub none_paying : (address : List ℕ) (facts : List Fact) (n : ℕ) → n ≤ length facts → last_keyed (slice_cmp nat_cmp) address (take n (addresses_of facts)) ≡ None → live_coins_at (drop n facts) address ≡ live_coins_at facts address
none_paying address facts n within none = found_none (slice_cmp nat_cmp) by_address address (λ xs. live_coins_at xs address) (address_passed address) facts nobody n within none

-- By end.

abbrev pub by_end : Fact → Option ℕ
by_end x = set_end x.deed

pub end_passed : (height : ℕ) (later : List Fact) (x : Fact) (rest : List Fact) → has_key nat_cmp height (by_end x) ≡ false → ending height (x ∷ rest ++ later) ≡ ending height (rest ++ later)
end_passed height later x rest other = ending_other height x (rest ++ later) (by x.deed other)
  where
    by : (what : Deed) → has_key nat_cmp height (set_end what) ≡ false → ends_at height (terms_in (Some what)) ≡ false
    by deed.Block e = refl
    by (deed.Coin output from) e = refl
    by (deed.Fund output) e = refl
    by (deed.Formed terms) e = sym (unsigned_tied terms.end height) ∙ e
    by deed.Spent e = refl
    by (deed.Revised terms) e = sym (unsigned_tied terms.end height) ∙ e
    by (deed.Settled valid) e = refl

pub next_ending : (height : ℕ) (later facts : List Fact) (n place : ℕ) → n ≤ length facts → last_keyed nat_cmp height (take n (ends_of facts)) ≡ Some place → IsNext by_end height (λ xs. ending height (xs ++ later)) facts n place
next_ending height later facts n place within found =
    let f = found_some nat_cmp by_end height (λ xs. ending height (xs ++ later)) (end_passed height later) facts nobody n place within found in
    let own : f.has.0 ≡ height = eqb-true f.has.0 height (sym (unsigned_tied f.has.0 height) ∙ f.has.2) in
    record { below = f.within; within = omega (arith, f.within, within); same = f.same; has = f.has.1 ∙ ap (λ a. Some (Some a)) own }

pub none_ending : (height : ℕ) (later facts : List Fact) (n : ℕ) → n ≤ length facts → last_keyed nat_cmp height (take n (ends_of facts)) ≡ None → ending height (drop n facts ++ later) ≡ ending height (facts ++ later)
none_ending height later facts n within none = found_none nat_cmp by_end height (λ xs. ending height (xs ++ later)) (end_passed height later) facts nobody n within none

-- How much of a walk is left.

abbrev pub left_of : Option ℕ → ℕ
left_of None = 0
left_of (Some place) = suc place

pub left_less : (place : ℕ) (found : Option ℕ) → ((q : ℕ) → found ≡ Some q → q < place) → left_of found < suc place
left_less place None below = omega arith
left_less place (Some q) below = let low : q < place = below q refl in omega (arith, low)

-- A walk begins behind the last fact.

pub paying_begins : (address : List ℕ) (facts : List Fact) (next : Option ℕ) (coins : List Coin) → next ≡ last_keyed (slice_cmp nat_cmp) address (addresses_of facts) → coins ≡ [] → (n : ℕ) × (n ≤ length facts) × (next ≡ last_keyed (slice_cmp nat_cmp) address (take n (addresses_of facts))) × (coins ≡ live_coins_at (drop n facts) address)
paying_begins address facts next coins is none =
    let all : length facts ≤ length facts = omega arith in
    let count : length (addresses_of facts) ≤ length facts = omega (arith, length-map facts by_address) in
    (length facts, all, is ∙ ap (last_keyed (slice_cmp nat_cmp) address) (sym (take_all (length facts) (addresses_of facts) count)), none ∙ owned_end address facts)

pub ending_begins : (height : ℕ) (later facts : List Fact) (next : Option ℕ) (ids : List (List ℕ)) → next ≡ last_keyed nat_cmp height (ends_of facts) → ids ≡ ending height later → (n : ℕ) × (n ≤ length facts) × (next ≡ last_keyed nat_cmp height (take n (ends_of facts))) × (ids ≡ ending height (drop n facts ++ later))
ending_begins height later facts next ids is among =
    let all : length facts ≤ length facts = omega arith in
    let count : length (ends_of facts) ≤ length facts = omega (arith, length-map facts by_end) in
    (length facts, all, is ∙ ap (last_keyed nat_cmp height) (sym (take_all (length facts) (ends_of facts) count)), among ∙ ap (λ front. ending height (front ++ later)) (sym (drop_all (length facts) facts all)))

-- among no facts behind the last none ends
pub ending_end : (height : ℕ) (facts : List Fact) → [] ≡ ending height (drop (length facts) facts ++ [])
ending_end height facts =
    let all : length facts ≤ length facts = omega arith in
    ending_nothing height ∙ ap (λ front. ending height (front ++ [])) (sym (drop_all (length facts) facts all))
