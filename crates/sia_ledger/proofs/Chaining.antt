-- The places of one key in a list that is one element longer, and one shorter.
use Rattle.std.proofs.Common.{◌≡◌, ℕ, zero, suc, ◌+◌, ◌<◌, Bool, true, false, List, [], ◌∷◌, ◌++◌, length, take, refl, ap, sym, ◌∙◌, arith, append_assoc, length-append, subst}
use Rattle.std.specs.Prelude.{cond, if◌then◌else◌, Option, Some, None, IsSome, slice_get}
use Rattle.std.specs.Option.{option_or}
use Rattle.std.specs.Ordering.{is_eq}
use Rattle.std.specs.declared.cmp.Ordering.{Ordering}
use Rattle.std.specs.Cmp.{IsTotalOrder, alike_right, tied_itself, Equal-is}
use Rattle.std.proofs.lemmas.List.{append-nil, same_from_push}
use Rattle.std.specs.BTreeMap as tree
use Rattle.std.specs.BTreeMap.{is_at}
use Rattle.std.specs.Map.{lookup}
use Rattle.sia_ledger.specs.Chained.{has_key, last_keyed_from, last_keyed, key_link, key_links, IsChained}
use Rattle.sia_ledger.specs.declared.chains.Chains.{Chains}

module _ {K : Type 0} (cmp : K → K → Ordering) where
  pub last_keyed_from-push : (key : K) (n : ℕ) (keys : List (Option K)) (own : Option K) → last_keyed_from cmp key n (keys ++ own ∷ []) ≡ (if has_key cmp key own then Some (n + length keys) else last_keyed_from cmp key n keys)
  last_keyed_from-push key n [] own = by (has_key cmp key own)
    where
      by : (b : Bool) → (if b then Some n else None) ≡ (if b then Some (n + 0) else None)
      by true = let e : n ≡ n + 0 = omega arith in ap Some e
      by false = refl
  last_keyed_from-push key n (first ∷ keys) own = ap (λ found. option_or found (if has_key cmp key first then Some n else None)) (last_keyed_from-push key (n + 1) keys own) ∙ by (has_key cmp key own)
    where
      by : (b : Bool) → option_or (if b then Some (n + 1 + length keys) else last_keyed_from cmp key (n + 1) keys) (if has_key cmp key first then Some n else None) ≡ (if b then Some (n + length (first ∷ keys)) else option_or (last_keyed_from cmp key (n + 1) keys) (if has_key cmp key first then Some n else None))
      by true = let e : n + 1 + length keys ≡ n + length (first ∷ keys) = omega arith in ap Some e
      by false = refl

  pub last_keyed-push : (key : K) (keys : List (Option K)) (own : Option K) → last_keyed cmp key (keys ++ own ∷ []) ≡ (if has_key cmp key own then Some (length keys) else last_keyed cmp key keys)
  last_keyed-push key keys own = let e : 0 + length keys ≡ length keys = omega arith in last_keyed_from-push key 0 keys own ∙ ap (λ n. if has_key cmp key own then Some n else last_keyed cmp key keys) e

  pub links-push : (before keys : List (Option K)) (own : Option K) → key_links cmp before (keys ++ own ∷ []) ≡ key_links cmp before keys ++ key_link cmp own (before ++ keys) ∷ []
  links-push before [] own = ap (λ l. key_link cmp own l ∷ []) (sym (append-nil before))
  links-push before (first ∷ keys) own = ap (λ rest. key_link cmp first before ∷ rest) (links-push (before ++ first ∷ []) keys own ∙ ap (λ l. key_links cmp (before ++ first ∷ []) keys ++ key_link cmp own l ∷ []) (append_assoc before (first ∷ []) keys))

  pub links-length : (before keys : List (Option K)) → length (key_links cmp before keys) ≡ length keys
  links-length before [] = refl
  links-length before (own ∷ keys) = ap suc (links-length (before ++ own ∷ []) keys)

  -- the link at a place with a key
  pub links-get : (before keys : List (Option K)) (at : ℕ) (own : Option K) → slice_get keys at ≡ Some own → slice_get (key_links cmp before keys) at ≡ Some (key_link cmp own (before ++ take at keys))
  links-get before [] at own is = cc
  links-get before (first ∷ keys) zero own is =
      let same : first ≡ own = cc in
      ap (λ o. Some (key_link cmp o before)) same ∙ ap (λ l. Some (key_link cmp own l)) (sym (append-nil before))
  links-get before (first ∷ keys) (suc at) own is =
      links-get (before ++ first ∷ []) keys at own is ∙ ap (λ l. Some (key_link cmp own l)) (append_assoc before (first ∷ []) (take at keys))

  -- a key that compares equal has the same places
  alike_from : IsTotalOrder cmp → (one other : K) (n : ℕ) (keys : List (Option K)) → is_at (cmp one) other ≡ true → last_keyed_from cmp one n keys ≡ last_keyed_from cmp other n keys
  alike_from total one other n [] same = refl
  alike_from total one other n (own ∷ keys) same =
      ap (λ found. option_or found (if has_key cmp one own then Some n else None)) (alike_from total one other (n + 1) keys same)
      ∙ ap (λ b. option_or (last_keyed_from cmp other (n + 1) keys) (if b then Some n else None)) (here own)
    where
      here : (own : Option K) → has_key cmp one own ≡ has_key cmp other own
      here None = refl
      here (Some key) = ap is_eq (alike_right total one other key ((Equal-is (cmp one other)).0 same))

  pub none_chained : (chains : Chains K) → chains.lasts.entries ≡ [] → chains.links ≡ [] → IsChained cmp chains []
  none_chained chains empty none = record { lasts_are = λ key. ap (lookup (is_at (cmp key))) empty; links_are = none }

  -- one place more, which has no key
  pub chained_none : (was now : Chains K) (keys : List (Option K)) → now.lasts ≡ was.lasts → now.links ≡ was.links ++ None ∷ [] → IsChained cmp was keys → IsChained cmp now (keys ++ None ∷ [])
  chained_none was now keys lasts links is = record {
    lasts_are = λ key. ap (λ m. tree.get cmp m key) lasts ∙ is.lasts_are key ∙ sym (last_keyed-push key keys None);
    links_are = links ∙ ap (λ l. l ++ None ∷ []) is.links_are ∙ sym (links-push [] keys None);
  }

  -- one place more, which has a key
  pub chained_key : (was now : Chains K) (keys : List (Option K)) (own : K) (place : ℕ) → place ≡ length was.links → now.links ≡ was.links ++ tree.get cmp was.lasts own ∷ [] → ((q : K) → tree.get cmp now.lasts q ≡ cond (is_at (cmp own) q) (Some place) (tree.get cmp was.lasts q)) → IsChained cmp was keys → IsChained cmp now (keys ++ Some own ∷ [])
  chained_key was now keys own place at links updates is =
      let count : place ≡ length keys = at ∙ ap (λ l. length l) is.links_are ∙ links-length [] keys in
      record {
        lasts_are = λ q. updates q ∙ ap (λ n. cond (is_at (cmp own) q) (Some n) (tree.get cmp was.lasts q)) count ∙ ap (λ found. cond (is_at (cmp own) q) (Some (length keys)) found) (is.lasts_are q) ∙ sym (last_keyed-push q keys (Some own));
        links_are = links ∙ ap (λ l. l ++ tree.get cmp was.lasts own ∷ []) is.links_are ∙ ap (λ found. key_links cmp [] keys ++ found ∷ []) (is.lasts_are own) ∙ sym (links-push [] keys (Some own));
      }

  -- a map with the same entries
  pub chained_same : (was now : Chains K) (keys : List (Option K)) → now.lasts.entries ≡ was.lasts.entries → now.links ≡ was.links → IsChained cmp was keys → IsChained cmp now keys
  chained_same was now keys entries links is = record { lasts_are = λ key. ap (lookup (is_at (cmp key))) entries ∙ is.lasts_are key; links_are = links ∙ is.links_are }

  -- the last place taken back, which has no key
  pub popped_none : (was now : Chains K) (keys : List (Option K)) (gone : Option ℕ) → now.lasts ≡ was.lasts → was.links ≡ now.links ++ gone ∷ [] → IsChained cmp was (keys ++ None ∷ []) → IsChained cmp now keys
  popped_none was now keys gone lasts links is = record {
    lasts_are = λ key. ap (λ m. tree.get cmp m key) lasts ∙ is.lasts_are key ∙ last_keyed-push key keys None;
    links_are = (same_from_push now.links (key_links cmp [] keys) gone None (sym links ∙ is.links_are ∙ links-push [] keys None)).0;
  }

  -- the last place taken back, which has a key: the map says again what the link says
  pub popped_key : IsTotalOrder cmp → (was now : Chains K) (keys : List (Option K)) (own : K) (gone : Option ℕ) → was.links ≡ now.links ++ gone ∷ [] → ((q : K) → tree.get cmp now.lasts q ≡ cond (is_at (cmp own) q) gone (tree.get cmp was.lasts q)) → IsChained cmp was (keys ++ Some own ∷ []) → IsChained cmp now keys
  popped_key total was now keys own gone links updates is =
      let both = same_from_push now.links (key_links cmp [] keys) gone (last_keyed cmp own keys) (sym links ∙ is.links_are ∙ links-push [] keys (Some own)) in
      record {
        lasts_are = λ q. updates q ∙ ap (λ found. cond (is_at (cmp own) q) gone found) (is.lasts_are q ∙ last_keyed-push q keys (Some own)) ∙ by q (is_at (cmp own) q) refl both.1;
        links_are = both.0;
      }
    where
      by : (q : K) (b : Bool) → is_at (cmp own) q ≡ b → gone ≡ last_keyed cmp own keys → cond b gone (if b then Some (length keys) else last_keyed cmp q keys) ≡ last_keyed cmp q keys
      by q true same e = e ∙ alike_from total own q 0 keys same
      by q false other e = refl

  -- a key that stands last is known
  pub last_known : (chains : Chains K) (keys : List (Option K)) (own : K) → IsTotalOrder cmp → IsChained cmp chains (keys ++ Some own ∷ []) → IsSome (tree.get cmp chains.lasts own)
  last_known chains keys own total is = subst IsSome (sym (is.lasts_are own ∙ last_keyed-push own keys (Some own) ∙ ap (λ b. if b then Some (length keys) else last_keyed cmp own keys) (ap is_eq (tied_itself total own)))) refl

  -- a link stands last
  pub some_link : (chains : Chains K) (keys : List (Option K)) (own : Option K) → IsChained cmp chains (keys ++ own ∷ []) → 0 < length chains.links
  some_link chains keys own is =
      let count : length chains.links ≡ length keys + 1 = ap (λ l. length l) is.links_are ∙ links-length [] (keys ++ own ∷ []) ∙ length-append keys (own ∷ []) in
      omega (arith, count)

  -- what a link says
  pub link_found : (chains : Chains K) (keys : List (Option K)) (place : ℕ) (key : K) (found : Option (Option ℕ)) → IsChained cmp chains keys → slice_get keys place ≡ Some (Some key) → found ≡ slice_get chains.links place → found ≡ Some (last_keyed cmp key (take place keys))
  link_found chains keys place key found is has at = at ∙ ap (λ l. slice_get l place) is.links_are ∙ links-get [] keys place (Some key) has
