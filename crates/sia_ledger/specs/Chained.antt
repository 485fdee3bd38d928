-- Which places of a list have one key, where each element has a key or none: for each key its last place, and for each place with
-- a key the last place before it with the same one. So the places of a key are found from the last to the first.
use Rattle.std.specs.Prelude.{◌≡◌, ℕ, ◌+◌, Bool, true, false, List, [], ◌∷◌, ◌++◌, if◌then◌else◌, Option, Some, None}
use Rattle.std.specs.Option.{option_or}
use Rattle.std.specs.declared.cmp.Ordering.{Ordering}
use Rattle.std.specs.BTreeMap as tree
use Rattle.std.specs.BTreeMap.{is_at}
use Rattle.sia_ledger.specs.declared.chains.Chains.{Chains}

-- an element has the key: its own is neither below nor above it
abbrev pub has_key : {K : Type 0} → (K → K → Ordering) → K → Option K → Bool
has_key cmp key None = false
has_key cmp key (Some own) = is_at (cmp own) key

-- the last place that has the key; the first one is at n
abbrev pub last_keyed_from : {K : Type 0} → (K → K → Ordering) → K → ℕ → List (Option K) → Option ℕ
last_keyed_from cmp key n [] = None
last_keyed_from cmp key n (own ∷ keys) = option_or (last_keyed_from cmp key (n + 1) keys) (if has_key cmp key own then Some n else None)

-- the last place that has the key
abbrev pub last_keyed : {K : Type 0} → (K → K → Ordering) → K → List (Option K) → Option ℕ
last_keyed cmp key keys = last_keyed_from cmp key 0 keys

-- the last place with the key of an element behind these
abbrev pub key_link : {K : Type 0} → (K → K → Ordering) → Option K → List (Option K) → Option ℕ
key_link cmp None before = None
key_link cmp (Some key) before = last_keyed cmp key before

-- the links of elements behind others
abbrev pub key_links : {K : Type 0} → (K → K → Ordering) → List (Option K) → List (Option K) → List (Option ℕ)
key_links cmp before [] = []
key_links cmp before (own ∷ keys) = key_link cmp own before ∷ key_links cmp (before ++ own ∷ []) keys

-- the chains of a list's keys
pub record IsChained {K : Type 0} (cmp : K → K → Ordering) (chains : Chains K) (keys : List (Option K)) : Type 0 where
  pub lasts_are : (key : K) → tree.get cmp chains.lasts key ≡ last_keyed cmp key keys
  pub links_are : chains.links ≡ key_links cmp [] keys
