-- The steps of a stack of subtrees.
use Rattle.std.proofs.Common.{◌≡◌, ℕ, zero, suc, ◌+◌, ◌-◌, ◌*◌, ◌^◌, ◌/◌, ◌%◌, ◌<◌, ◌≤◌, List, [], ◌∷◌, ◌++◌, length, take, drop, get_or, set, refl, sym, ◌∙◌, ap, arith, add-zero, length-drop, length-append, get_or-set_same, get_or-set_other, subst, inl, inr, ◌⊎◌, ◌≢◌, Option, None, Some, replicate, unwrap_or}
use native.Mathlib.Nat.{pow-suc}
use Rattle.std.proofs.lemmas.List.{take-append-le, drop-append-le, drop-drop, drop_at, take_all}
use Rattle.std.proofs.lemmas.Nat.{shr-shr, pow-add, div-mul-add, pow_pos, shr_split, mod_below}
use Rattle.sia_merkle.specs.Roots.{node_digest, tree_root, node_root_of}
use Rattle.sia_merkle.specs.Stacked.{IsStacked, under, over_rest, IsRest}
use Rattle.sia_merkle.proofs.Trees.{tree_root-low, tree_root-split, node_root_of-at}

-- a part of the front is that of the whole
take_front : {X : Type 0} (count at : ℕ) (xs ys : List X) → at + count ≤ length xs → take count (drop at (xs ++ ys)) ≡ take count (drop at xs)
take_front count at xs ys within =
    let room : at ≤ length xs = omega arith in
    let left : count ≤ length (drop at xs) = omega (arith, length-drop at xs) in
    ap (take count) (drop-append-le at xs ys room) ∙ take-append-le count (drop at xs) ys left

-- the carried root takes the subtree before it
pub carried_more : (slots hashes : List (List ℕ)) (hash carried : List ℕ) (height rest : ℕ)
    → IsStacked slots hashes → height < 64
    → rest ≡ length hashes / 2 ^ height → length hashes + 1 ≡ (rest + 1) * 2 ^ height → rest % 2 ≡ 1
    → carried ≡ tree_root height (drop (rest * 2 ^ height) (hashes ++ hash ∷ []))
    → node_digest (get_or slots height []) carried ≡ tree_root (suc height) (drop (rest / 2 * 2 ^ suc height) (hashes ++ hash ∷ []))
carried_more slots hashes hash carried height rest stacked below is all odd was =
    let pairs : rest ≡ rest / 2 * 2 + 1 = omega arith in
    let now : rest * 2 ^ height ≡ rest / 2 * 2 * 2 ^ height + 2 ^ height = ap (λ r. r * 2 ^ height) pairs ∙ (omega arith) in
    let twice : 2 ^ suc height ≡ 2 ^ height * 2 = pow-suc 2 height in
    let at : rest / 2 * 2 ^ suc height ≡ rest / 2 * 2 * 2 ^ height = ap (λ p. rest / 2 * p) twice ∙ (omega arith) in
    let some : 0 < 2 ^ height = pow_pos height in
    let whole : length hashes + 1 ≡ rest / 2 * 2 * 2 ^ height + 2 ^ height + 2 ^ height = all ∙ (omega (arith, now)) in
    let one_more : length (hashes ++ hash ∷ []) ≡ length hashes + 1 = length-append hashes (hash ∷ []) in
    let above : 2 ^ height < length (drop (rest / 2 * 2 * 2 ^ height) (hashes ++ hash ∷ [])) = omega (arith, length-drop (rest / 2 * 2 * 2 ^ height) (hashes ++ hash ∷ [])) in
    let start : (length hashes / 2 ^ height - 1) * 2 ^ height ≡ rest / 2 * 2 * 2 ^ height =
    ap (λ r. (r - 1) * 2 ^ height) (sym is ∙ pairs) ∙ (let less : rest / 2 * 2 + 1 - 1 ≡ rest / 2 * 2 = omega arith in ap (λ r. r * 2 ^ height) less) in
    let left : take (2 ^ height) (drop (rest / 2 * 2 * 2 ^ height) (hashes ++ hash ∷ [])) ≡ under height hashes =
    take_front (2 ^ height) (rest / 2 * 2 * 2 ^ height) hashes (hash ∷ []) (omega arith) ∙ ap (λ a. take (2 ^ height) (drop a hashes)) (sym start) in
    let right : drop (2 ^ height) (drop (rest / 2 * 2 * 2 ^ height) (hashes ++ hash ∷ [])) ≡ drop (rest * 2 ^ height) (hashes ++ hash ∷ []) =
    drop-drop (2 ^ height) (rest / 2 * 2 * 2 ^ height) _ ∙ ap (λ a. drop a (hashes ++ hash ∷ [])) (sym now) in
    let bit : length hashes / 2 ^ height % 2 ≡ 1 = ap (λ r. r % 2) (sym is) ∙ odd in
    rw at (rw (tree_root-split height (drop (rest / 2 * 2 * 2 ^ height) (hashes ++ hash ∷ [])) above, left, right)
    (ap (λ x. node_digest x carried) (stacked.kept height below bit) ∙ ap (λ y. node_digest (tree_root height (under height hashes)) y) was))

-- bits above the one that takes the carry stay
quotient_kept : (n rest height more : ℕ) → rest ≡ n / 2 ^ height → n + 1 ≡ (rest + 1) * 2 ^ height → rest % 2 ≡ 0
    → (n + 1) / 2 ^ (height + suc more) ≡ n / 2 ^ (height + suc more)
quotient_kept n rest height more is all even =
    let some : 0 < 2 ^ height = pow_pos height in
    let next : (n + 1) / 2 ^ height ≡ rest + 1 = ap (λ m. m / 2 ^ height) (all ∙ sym (add-zero ((rest + 1) * 2 ^ height))) ∙ div-mul-add (rest + 1) (2 ^ height) 0 some in
    let up : (m : ℕ) → m / 2 ^ (height + suc more) ≡ m / 2 ^ height / 2 / 2 ^ more =
    (λ m. sym (shr-shr m height (suc more)) ∙ sym (shr-shr (m / 2 ^ height) 1 more ∙ ap (λ k. m / 2 ^ height / 2 ^ k) (let e : 1 + more ≡ suc more = omega arith in e))) in
    let half : (rest + 1) / 2 ≡ rest / 2 = omega arith in
    up (n + 1) ∙ ap (λ q. q / 2 / 2 ^ more) next ∙ ap (λ q. q / 2 ^ more) half ∙ ap (λ q. q / 2 / 2 ^ more) is ∙ sym (up n)

-- bits below it fall to 0
quotient_even : (n rest height more : ℕ) → n + 1 ≡ (rest + 1) * 2 ^ (height + suc more) → (n + 1) / 2 ^ height % 2 ≡ 0
quotient_even n rest height more all =
    let some : 0 < 2 ^ height = pow_pos height in
    let apart : 2 ^ (height + suc more) ≡ 2 ^ more * 2 * 2 ^ height = pow-add 2 height (suc more) ∙ ap (λ p. 2 ^ height * p) (pow-suc 2 more) ∙ (omega arith) in
    let product : n + 1 ≡ (rest + 1) * (2 ^ more * 2) * 2 ^ height + 0 = all ∙ ap (λ p. (rest + 1) * p) apart ∙ (omega arith) in
    let next : (n + 1) / 2 ^ height ≡ (rest + 1) * (2 ^ more * 2) = ap (λ m. m / 2 ^ height) product ∙ div-mul-add _ (2 ^ height) 0 some in
    let twice : (rest + 1) * (2 ^ more * 2) ≡ ((rest + 1) * 2 ^ more) * 2 = omega arith in
    ap (λ q. q % 2) (next ∙ twice) ∙ (omega arith)

-- how two heights stand
order : (a b : ℕ) → ((more : ℕ) × (b ≡ a + suc more)) ⊎ ((a ≡ b) ⊎ ((more : ℕ) × (a ≡ b + suc more)))
order zero zero = inr (inl refl)
order zero (suc b) = inl (b, (omega arith))
order (suc a) zero = inr (inr (a, (omega arith)))
order (suc a) (suc b) =
    elim (order a b) [ inl h ↦ inl (h.0, (omega arith)) | inr r ↦ elim r [ inl e ↦ inr (inl (ap suc e)) | inr h ↦ inr (inr (h.0, (omega arith))) ] ]

more_above : (slots hashes : List (List ℕ)) (hash carried : List ℕ) (height rest other more : ℕ)
    → IsStacked slots hashes → rest ≡ length hashes / 2 ^ height → length hashes + 1 ≡ (rest + 1) * 2 ^ height → rest % 2 ≡ 0
    → other < 64 → other ≡ height + suc more → length (hashes ++ hash ∷ []) / 2 ^ other % 2 ≡ 1
    → get_or (set slots height carried) other [] ≡ tree_root other (under other (hashes ++ hash ∷ []))
more_above slots hashes hash carried height rest other more stacked is all even low where_is odd =
    let one_more : length (hashes ++ hash ∷ []) ≡ length hashes + 1 = length-append hashes (hash ∷ []) in
    let kept : length (hashes ++ hash ∷ []) / 2 ^ other ≡ length hashes / 2 ^ other =
    ap (λ m. m / 2 ^ other) one_more ∙ ap (λ o. (length hashes + 1) / 2 ^ o) where_is ∙ quotient_kept (length hashes) rest height more is all even ∙ ap (λ o. length hashes / 2 ^ o) (sym where_is) in
    let bit : length hashes / 2 ^ other % 2 ≡ 1 = ap (λ q. q % 2) (sym kept) ∙ odd in
    let pairs : length hashes / 2 ^ other ≡ length hashes / 2 ^ other - 1 + 1 = omega arith in
    let product : length hashes / 2 ^ other * 2 ^ other ≡ (length hashes / 2 ^ other - 1) * 2 ^ other + 2 ^ other = ap (λ q. q * 2 ^ other) pairs ∙ (omega arith) in
    let within : (length hashes / 2 ^ other - 1) * 2 ^ other + 2 ^ other ≤ length hashes = omega (arith, product, shr_split (length hashes) other) in
    let apart : other ≢ height = omega arith in
    get_or-set_other slots height other carried [] apart ∙ stacked.kept other low bit
    ∙ ap (tree_root other) (sym (ap (λ q. take (2 ^ other) (drop ((q - 1) * 2 ^ other) (hashes ++ hash ∷ []))) kept ∙ take_front (2 ^ other) ((length hashes / 2 ^ other - 1) * 2 ^ other) hashes (hash ∷ []) within))

more_here : (slots hashes : List (List ℕ)) (hash carried : List ℕ) (height rest : ℕ)
    → length slots ≡ 64 → height < 64 → length hashes + 1 ≡ (rest + 1) * 2 ^ height
    → carried ≡ tree_root height (drop (rest * 2 ^ height) (hashes ++ hash ∷ []))
    → get_or (set slots height carried) height [] ≡ tree_root height (under height (hashes ++ hash ∷ []))
more_here slots hashes hash carried height rest room below all was =
    let one_more : length (hashes ++ hash ∷ []) ≡ length hashes + 1 = length-append hashes (hash ∷ []) in
    let inside : height < length slots = omega arith in
    let next : length (hashes ++ hash ∷ []) / 2 ^ height ≡ rest + 1 =
    ap (λ m. m / 2 ^ height) (one_more ∙ all ∙ sym (add-zero ((rest + 1) * 2 ^ height))) ∙ div-mul-add (rest + 1) (2 ^ height) 0 (pow_pos height) in
    let less : length (hashes ++ hash ∷ []) / 2 ^ height - 1 ≡ rest = omega arith in
    let product : (rest + 1) * 2 ^ height ≡ rest * 2 ^ height + 2 ^ height = omega arith in
    let rest_fits : length (drop (rest * 2 ^ height) (hashes ++ hash ∷ [])) ≤ 2 ^ height = omega (arith, length-drop (rest * 2 ^ height) (hashes ++ hash ∷ [])) in
    get_or-set_same slots height carried [] inside ∙ was
    ∙ ap (tree_root height) (sym (ap (λ r. take (2 ^ height) (drop (r * 2 ^ height) (hashes ++ hash ∷ []))) less ∙ take_all (2 ^ height) _ rest_fits))

more_below : (hashes : List (List ℕ)) (hash : List ℕ) (height rest other more : ℕ)
    → length hashes + 1 ≡ (rest + 1) * 2 ^ height → height ≡ other + suc more → length (hashes ++ hash ∷ []) / 2 ^ other % 2 ≡ 1 → ⊥
more_below hashes hash height rest other more all where_is odd =
    let one_more : length (hashes ++ hash ∷ []) ≡ length hashes + 1 = length-append hashes (hash ∷ []) in
    let even : (length hashes + 1) / 2 ^ other % 2 ≡ 0 = quotient_even (length hashes) rest other more (all ∙ ap (λ h. (rest + 1) * 2 ^ h) where_is) in
    let odd_too : (length hashes + 1) / 2 ^ other % 2 ≡ 1 = ap (λ m. m / 2 ^ other % 2) (sym one_more) ∙ odd in
    omega arith

-- where a height is free, the carried root goes there
pub stacked_more : (slots hashes : List (List ℕ)) (hash carried : List ℕ) (height rest : ℕ)
    → IsStacked slots hashes → length slots ≡ 64 → height < 64
    → rest ≡ length hashes / 2 ^ height → length hashes + 1 ≡ (rest + 1) * 2 ^ height → rest % 2 ≡ 0
    → carried ≡ tree_root height (drop (rest * 2 ^ height) (hashes ++ hash ∷ []))
    → IsStacked (set slots height carried) (hashes ++ hash ∷ [])
stacked_more slots hashes hash carried height rest stacked room below is all even was =
    record {
      kept = λ other low odd. elim (order height other) [
        | inl h ↦ more_above slots hashes hash carried height rest other h.0 stacked is all even low h.1 odd
        | inr r ↦ elim r [
          | inl e ↦ subst (λ (o : ℕ). get_or (set slots height carried) o [] ≡ tree_root o (under o (hashes ++ hash ∷ []))) e (more_here slots hashes hash carried height rest room below all was)
          | inr h ↦ absurd (more_below hashes hash height rest other h.0 all h.1 odd)
        ]
      ];
    }

pub carried_none : (hashes : List (List ℕ)) (hash : List ℕ) (count : ℕ) → length hashes ≡ count → hash ≡ tree_root 0 (drop (count * 1) (hashes ++ hash ∷ []))
unfolding tree_root
carried_none hashes hash count all =
    let whole : length hashes ≡ count * 1 = omega arith in
    rw (drop_at hashes (hash ∷ []) (count * 1) whole) refl

pub half_of : (n height : ℕ) → n / 2 ^ height / 2 ≡ n / 2 ^ (height + 1)
half_of n height = shr-shr n height 1

pow_next : (height : ℕ) → 2 ^ (height + 1) ≡ 2 ^ height * 2
pow_next height = pow-add 2 height 1

pub full_more : (n rest height : ℕ) → n + 1 ≡ (rest + 1) * 2 ^ height → rest % 2 ≡ 1 → n + 1 ≡ (rest / 2 + 1) * 2 ^ (height + 1)
full_more n rest height all odd =
    let pairs : rest ≡ rest / 2 * 2 + 1 = omega arith in
    let twice : 2 ^ (height + 1) ≡ 2 ^ height * 2 = pow_next height in
    all ∙ ap (λ r. (r + 1) * 2 ^ height) pairs ∙ sym (ap (λ p. (rest / 2 + 1) * p) twice ∙ (omega arith))

pub carried_next : (slots hashes : List (List ℕ)) (hash carried next : List ℕ) (height rest : ℕ)
    → IsStacked slots hashes → height < 64
    → rest ≡ length hashes / 2 ^ height → length hashes + 1 ≡ (rest + 1) * 2 ^ height → rest % 2 ≡ 1
    → carried ≡ tree_root height (drop (rest * 2 ^ height) (hashes ++ hash ∷ []))
    → next ≡ node_digest (get_or slots height []) carried
    → next ≡ tree_root (height + 1) (drop (rest / 2 * 2 ^ (height + 1)) (hashes ++ hash ∷ []))
carried_next slots hashes hash carried next height rest stacked below is all odd was made =
    let up : suc height ≡ height + 1 = omega arith in
    made ∙ carried_more slots hashes hash carried height rest stacked below is all odd was ∙ ap (λ h. tree_root h (drop (rest / 2 * 2 ^ h) (hashes ++ hash ∷ []))) up

-- what is left behind the subtrees from a height on is less than a subtree of it
left_below : (hashes : List (List ℕ)) (height rest : ℕ) → rest ≡ length hashes / 2 ^ height → length (drop (rest * 2 ^ height) hashes) < 2 ^ height
left_below hashes height rest is =
    let whole : rest * 2 ^ height + length hashes % 2 ^ height ≡ length hashes = ap (λ r. r * 2 ^ height + length hashes % 2 ^ height) is ∙ shr_split (length hashes) height in
    omega (arith, length-drop (rest * 2 ^ height) hashes, mod_below (length hashes) (2 ^ height) (pow_pos height))

raised : (root : Option (List ℕ)) (height : ℕ) (hashes : List (List ℕ)) → length hashes ≤ 2 ^ height → IsRest root height hashes → IsRest root (height + 1) hashes
raised None height hashes fits was = was
raised (Some root) height hashes fits was =
    (was.0, was.1 ∙ sym (tree_root-low height hashes fits) ∙ ap (λ h. tree_root h hashes) (let e : suc height ≡ height + 1 = omega arith in e))

-- joining from the right: a power of two that the number lacks
pub rest_even : (root : Option (List ℕ)) (hashes : List (List ℕ)) (height rest : ℕ)
    → rest ≡ length hashes / 2 ^ height → rest % 2 ≡ 0
    → IsRest root height (drop (rest * 2 ^ height) hashes) → IsRest root (height + 1) (drop (rest / 2 * 2 ^ (height + 1)) hashes)
rest_even root hashes height rest is even was =
    let pairs : rest / 2 * 2 ≡ rest = omega arith in
    let at : rest * 2 ^ height ≡ rest / 2 * 2 ^ (height + 1) = ap (λ r. r * 2 ^ height) (sym pairs) ∙ sym (ap (λ p. rest / 2 * p) (pow_next height) ∙ (omega arith)) in
    let here : IsRest root (height + 1) (drop (rest * 2 ^ height) hashes) = raised root height _ (omega (arith, left_below hashes height rest is)) was in
    subst (λ (a : ℕ). IsRest root (height + 1) (drop a hashes)) at here

joined_over : (root : Option (List ℕ)) (height : ℕ) (hashes : List (List ℕ)) (slot : List ℕ)
    → 2 ^ height ≤ length hashes → slot ≡ tree_root height (take (2 ^ height) hashes) → IsRest root height (drop (2 ^ height) hashes)
    → over_rest slot root ≡ tree_root (suc height) hashes
joined_over None height hashes slot long is was =
    let none : length hashes - 2 ^ height ≡ 0 = sym (length-drop (2 ^ height) hashes) ∙ ap length was in
    let fits : length hashes ≤ 2 ^ height = omega arith in
    is ∙ ap (tree_root height) (take_all (2 ^ height) hashes fits) ∙ sym (tree_root-low height hashes fits)
joined_over (Some root) height hashes slot long is was =
    let some : 0 < length hashes - 2 ^ height = rw (length-drop (2 ^ height) hashes) at was.0 in
    let above : 2 ^ height < length hashes = omega arith in
    ap (λ x. node_digest x root) is ∙ ap (λ y. node_digest (tree_root height (take (2 ^ height) hashes)) y) was.1 ∙ sym (tree_root-split height hashes above)

-- and one that it has
pub rest_odd : (root : Option (List ℕ)) (slots hashes : List (List ℕ)) (slot : List ℕ) (height rest : ℕ)
    → IsStacked slots hashes → height < 64 → slot ≡ get_or slots height []
    → rest ≡ length hashes / 2 ^ height → rest % 2 ≡ 1
    → IsRest root height (drop (rest * 2 ^ height) hashes) → IsRest (Some (over_rest slot root)) (height + 1) (drop (rest / 2 * 2 ^ (height + 1)) hashes)
rest_odd root slots hashes slot height rest stacked below slot_is is odd was =
    let pairs : rest ≡ rest / 2 * 2 + 1 = omega arith in
    let at : rest / 2 * 2 ^ (height + 1) ≡ rest / 2 * 2 * 2 ^ height = ap (λ p. rest / 2 * p) (pow_next height) ∙ (omega arith) in
    let now : rest * 2 ^ height ≡ rest / 2 * 2 * 2 ^ height + 2 ^ height = ap (λ r. r * 2 ^ height) pairs ∙ (omega arith) in
    let whole : rest * 2 ^ height + length hashes % 2 ^ height ≡ length hashes = ap (λ r. r * 2 ^ height + length hashes % 2 ^ height) is ∙ shr_split (length hashes) height in
    let some : 0 < 2 ^ height = pow_pos height in
    let long : 2 ^ height ≤ length (drop (rest / 2 * 2 * 2 ^ height) hashes) = omega (arith, length-drop (rest / 2 * 2 * 2 ^ height) hashes) in
    let less : rest / 2 * 2 + 1 - 1 ≡ rest / 2 * 2 = omega arith in
    let start : (length hashes / 2 ^ height - 1) * 2 ^ height ≡ rest / 2 * 2 * 2 ^ height = ap (λ r. (r - 1) * 2 ^ height) (sym is ∙ pairs) ∙ ap (λ r. r * 2 ^ height) less in
    let bit : length hashes / 2 ^ height % 2 ≡ 1 = ap (λ r. r % 2) (sym is) ∙ odd in
    let left : slot ≡ tree_root height (take (2 ^ height) (drop (rest / 2 * 2 * 2 ^ height) hashes)) =
    slot_is ∙ stacked.kept height below bit ∙ ap (λ a. tree_root height (take (2 ^ height) (drop a hashes))) start in
    let apart : drop (rest * 2 ^ height) hashes ≡ drop (2 ^ height) (drop (rest / 2 * 2 * 2 ^ height) hashes) = ap (λ a. drop a hashes) now ∙ sym (drop-drop (2 ^ height) (rest / 2 * 2 * 2 ^ height) hashes) in
    let right : IsRest root height (drop (2 ^ height) (drop (rest / 2 * 2 * 2 ^ height) hashes)) = subst (IsRest root height) apart was in
    rw at ((omega arith), joined_over root height (drop (rest / 2 * 2 * 2 ^ height) hashes) slot long left right ∙ ap (λ h. tree_root h (drop (rest / 2 * 2 * 2 ^ height) hashes)) (let e : suc height ≡ height + 1 = omega arith in e))

root_when : (root : Option (List ℕ)) (hashes : List (List ℕ)) → length hashes ≤ 2 ^ 64 → IsRest root 64 hashes → unwrap_or root (replicate 32 0) ≡ node_root_of hashes
unfolding tree_root node_root_of
root_when None hashes fits was = rw was refl
root_when (Some root) hashes fits was = was.1 ∙ sym (node_root_of-at 64 hashes fits)

-- all powers are joined
pub rest_all : (root : Option (List ℕ)) (hashes : List (List ℕ)) (rest : ℕ)
    → length hashes < 2 ^ 64 → rest ≡ length hashes / 2 ^ 64
    → IsRest root 64 (drop (rest * 2 ^ 64) hashes) → unwrap_or root (replicate 32 0) ≡ node_root_of hashes
rest_all root hashes rest fits is was =
    let none : rest * 2 ^ 64 ≡ 0 = omega arith in
    root_when root hashes (omega arith) (subst (λ (a : ℕ). IsRest root 64 (drop a hashes)) none was)
