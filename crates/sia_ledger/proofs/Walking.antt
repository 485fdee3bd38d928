-- Facts are gone through from the last to the first by the places of one key: what lies between adds nothing.
use Rattle.std.proofs.Common.{◌≡◌, ℕ, zero, suc, ◌+◌, ◌<◌, ◌≤◌, Bool, true, false, List, [], ◌∷◌, length, map, take, drop, get_or, ◌++◌, refl, ap, sym, ◌∙◌, add-one, arith, subst}
use Rattle.std.specs.Prelude.{if◌then◌else◌, Option, Some, None, slice_get, option_map}
use Rattle.std.proofs.Math.ListN.{get_or-map}
use Rattle.std.proofs.Math.Seq.{drop-cons}
use Rattle.std.proofs.lemmas.List.{take_more, length-take-le, length-map}
use Rattle.std.proofs.lemmas.Option.{slice_get-map, slice_get-get_or}
use Rattle.std.specs.declared.cmp.Ordering.{Ordering}
use Rattle.std.specs.BTreeMap.{is_at}
use Rattle.sia_ledger.specs.Chained.{has_key, last_keyed}
use Rattle.sia_ledger.proofs.Chaining.{last_keyed-push}

-- one element more: the last place of the key is its place, or as before
one_more : {X K : Type 0} (cmp : K → K → Ordering) (of : X → Option K) (key : K) (xs : List X) (k : ℕ) (d : X) → k < length xs → last_keyed cmp key (take (k + 1) (map of xs)) ≡ (if has_key cmp key (of (get_or xs k d)) then Some k else last_keyed cmp key (take k (map of xs)))
one_more cmp of key xs k d within =
    let count : length (map of xs) ≡ length xs = length-map xs of in
    let inside : k < length (map of xs) = omega (arith, count, within) in
    let front : length (take k (map of xs)) ≡ k = length-take-le k (map of xs) (omega (arith, inside)) in
    ap (last_keyed cmp key) (take_more (map of xs) k (of d) inside ∙ ap (λ own. take k (map of xs) ++ own ∷ []) (get_or-map of xs k d))
    ∙ last_keyed-push cmp key (take k (map of xs)) (of (get_or xs k d))
    ∙ ap (λ n. if has_key cmp key (of (get_or xs k d)) then Some n else last_keyed cmp key (take k (map of xs))) front

-- the place of an element with the key, which adds what those behind it don't
pub record Found {X K R : Type 0} (cmp : K → K → Ordering) (of : X → Option K) (key : K) (F : List X → R) (xs : List X) (n place : ℕ) : Type 0 where
  pub within : place < n
  pub same : F (drop n xs) ≡ F (drop (place + 1) xs)
  pub has : (own : K) × (slice_get (map of xs) place ≡ Some (Some own)) × (is_at (cmp own) key ≡ true)

module _ {X K R : Type 0} (cmp : K → K → Ordering) (of : X → Option K) (key : K) (F : List X → R) (pass : (x : X) (rest : List X) → has_key cmp key (of x) ≡ false → F (x ∷ rest) ≡ F rest) where
  passed : (xs : List X) (k : ℕ) (d : X) → k < length xs → has_key cmp key (of (get_or xs k d)) ≡ false → F (drop (k + 1) xs) ≡ F (drop k xs)
  passed xs k d within other =
      ap (λ n. F (drop n xs)) (add-one k)
      ∙ sym (pass (get_or xs k d) (drop (suc k) xs) other)
      ∙ ap F (sym (drop-cons xs k d within))

  pub found_some : (xs : List X) (d : X) (n place : ℕ) → n ≤ length xs → last_keyed cmp key (take n (map of xs)) ≡ Some place → Found cmp of key F xs n place
  found_some xs d zero place within found = cc
  found_some xs d (suc k) place within found =
      let below : k < length xs = omega (arith, within) in
      by (found_some xs d k place (omega (arith, below))) below (has_key cmp key (of (get_or xs k d))) refl (sym (one_more cmp of key xs k d below) ∙ ap (λ n. last_keyed cmp key (take n (map of xs))) (add-one k) ∙ found)
    where
      of_key : (own : Option K) → has_key cmp key own ≡ true → slice_get (map of xs) k ≡ Some own → (k2 : K) × (slice_get (map of xs) k ≡ Some (Some k2)) × (is_at (cmp k2) key ≡ true)
      of_key None e at = cc
      of_key (Some own) e at = (own, at, e)

      by : (last_keyed cmp key (take k (map of xs)) ≡ Some place → Found cmp of key F xs k place) → k < length xs → (b : Bool) → has_key cmp key (of (get_or xs k d)) ≡ b → (if b then Some k else last_keyed cmp key (take k (map of xs))) ≡ Some place → Found cmp of key F xs (suc k) place
      by before below true has is =
          let at : k ≡ place = cc in
          let here : slice_get (map of xs) k ≡ Some (of (get_or xs k d)) = slice_get-map of xs k ∙ ap (option_map of) (slice_get-get_or xs k d below) in
          subst (λ p. Found cmp of key F xs (suc k) p) at (record { within = omega arith; same = ap (λ n. F (drop n xs)) (sym (add-one k)); has = of_key (of (get_or xs k d)) has here })
      by before below false other is =
          let rest = before is in
          let low : place < k = rest.within in
          record { within = omega (arith, low); same = ap (λ n. F (drop n xs)) (sym (add-one k)) ∙ passed xs k d below other ∙ rest.same; has = rest.has }

  pub found_none : (xs : List X) (d : X) (n : ℕ) → n ≤ length xs → last_keyed cmp key (take n (map of xs)) ≡ None → F (drop n xs) ≡ F xs
  found_none xs d zero within none = refl
  found_none xs d (suc k) within none =
      let below : k < length xs = omega (arith, within) in
      by (found_none xs d k (omega (arith, below))) below (has_key cmp key (of (get_or xs k d))) refl (sym (one_more cmp of key xs k d below) ∙ ap (λ n. last_keyed cmp key (take n (map of xs))) (add-one k) ∙ none)
    where
      by : (last_keyed cmp key (take k (map of xs)) ≡ None → F (drop k xs) ≡ F xs) → k < length xs → (b : Bool) → has_key cmp key (of (get_or xs k d)) ≡ b → (if b then Some k else last_keyed cmp key (take k (map of xs))) ≡ None → F (drop (suc k) xs) ≡ F xs
      by before below true has is = cc
      by before below false other is = ap (λ n. F (drop n xs)) (sym (add-one k)) ∙ passed xs k d below other ∙ before is
