-- Laws of the join of a set of places with the cover of the others.
use Rattle.std.proofs.Common.{◌≡◌, ◌≢◌, ℕ, zero, suc, ◌+◌, ◌-◌, ◌*◌, ◌^◌, ◌<◌, ◌≤◌, true, false, List, [], ◌∷◌, ◌++◌, length, map, take, drop, get_or, refl, sym, ◌∙◌, ap, arith, min, suc-add, zero-add}
use native.Mathlib.Nat.{pow-suc}
use Rattle.std.specs.Prelude.{Bool, nat_eq, nat_le, count_by, cond}
use Rattle.std.specs.List.{range_with_len}
use Rattle.std.proofs.lemmas.List.Sums.{sum_by-append}
use Rattle.std.proofs.lemmas.Bool.{le-leb, lt-leb, leb-true, leb-false, eqb-true, eqb-false, not-true}
use Rattle.std.proofs.lemmas.List.{take-take, drop-take}
use Rattle.sia_merkle.specs.Computations.{Tree, hash_of}
use Rattle.sia_merkle.specs.Computations.Tree.{Given, Node}
use Rattle.sia_merkle.specs.Roots.{first_hash, node_digest, tree_root}
use Rattle.sia_merkle.specs.Segments.{cover_within, is_covered, others, places_within, first_tree, joined_within}
use Rattle.sia_merkle.proofs.Trees.{lt_pow, pow_up}
use Rattle.sia_merkle.proofs.Windows.{drop_taken}
use Rattle.sia_cover.proofs.Covers.{covered_at, past_covered}

-- the join, case by case
pub join_given : (chosen : ℕ → Bool) (count height low : ℕ) (inner : List Tree) (outer : List (List ℕ)) → is_covered (others chosen) count height low ≡ true
    → joined_within chosen count height low inner outer ≡ Given (first_hash outer)
unfolding joined_within
join_given chosen count zero low inner outer e =
    let out : chosen low ≡ false = not-true (chosen low) (covered_at (others chosen) count 0 low low e (omega arith) (omega arith)) in
    rw out refl
join_given chosen count (suc height) low inner outer e = rw e refl

pub join_chosen : (chosen : ℕ → Bool) (count low : ℕ) (inner : List Tree) (outer : List (List ℕ)) → chosen low ≡ true → joined_within chosen count 0 low inner outer ≡ first_tree inner
unfolding joined_within
join_chosen chosen count low inner outer e = rw e refl

pub join_low : (chosen : ℕ → Bool) (count height low : ℕ) (inner : List Tree) (outer : List (List ℕ)) → is_covered (others chosen) count (suc height) low ≡ false → count ≤ low + 2 ^ height
    → joined_within chosen count (suc height) low inner outer ≡ joined_within chosen count height low inner outer
unfolding joined_within
join_low chosen count height low inner outer e fits = rw (e, le-leb _ _ fits) refl

pub join_node : (chosen : ℕ → Bool) (count height low : ℕ) (inner : List Tree) (outer : List (List ℕ)) → is_covered (others chosen) count (suc height) low ≡ false → low + 2 ^ height < count
    → joined_within chosen count (suc height) low inner outer ≡ Node
    (joined_within chosen count height low (take (places_within chosen count height low) inner) (take (length (cover_within (others chosen) count height low)) outer))
    (joined_within chosen count height (low + 2 ^ height) (drop (places_within chosen count height low) inner) (drop (length (cover_within (others chosen) count height low)) outer))
unfolding joined_within
join_node chosen count height low inner outer e above = rw (e, lt-leb _ _ above) refl

pub range_parts : (low first second : ℕ) → range_with_len low (first + second) ≡ range_with_len low first ++ range_with_len (low + first) second
range_parts low zero second =
    let same : low ≡ low + 0 = omega arith in
    rw zero-add (ap (λ n. range_with_len n second) same)
range_parts low (suc first) second =
    let up : low + 1 + first ≡ low + suc first = omega arith in
    rw suc-add (ap (λ xs. low ∷ xs) (range_parts (low + 1) first second ∙ ap (λ n. range_with_len (low + 1) first ++ range_with_len n second) up))

-- counting in two rows
pub count_rows : (chosen : ℕ → Bool) (low first second : ℕ) → count_by chosen (range_with_len low (first + second)) ≡ count_by chosen (range_with_len low first) + count_by chosen (range_with_len (low + first) second)
count_rows chosen low first second =
    ap (count_by chosen) (range_parts low first second) ∙ sum_by-append (λ x. cond (chosen x) 1 0) (range_with_len low first) (range_with_len (low + first) second)

pub count_cons : {X : Type 0} (test : X → Bool) (x : X) (xs : List X) → count_by test (x ∷ xs) ≡ cond (test x) 1 0 + count_by test xs
count_cons test x xs =
    let one : 0 + cond (test x) 1 0 ≡ cond (test x) 1 0 = omega arith in
    sum_by-append (λ y. cond (test y) 1 0) (x ∷ []) xs ∙ ap (λ n. n + count_by test xs) one

none_by : (chosen : ℕ → Bool) (low width : ℕ) → chosen low ≡ false → count_by chosen (range_with_len (low + 1) width) ≡ 0 → count_by chosen (range_with_len low (suc width)) ≡ 0
none_by chosen low width e rest = count_cons chosen low (range_with_len (low + 1) width) ∙ rw (e, rest) (omega arith)

-- counting where no place is chosen
pub count_none : (chosen : ℕ → Bool) (low width : ℕ) → ((place : ℕ) → low ≤ place → place < low + width → chosen place ≡ false) → count_by chosen (range_with_len low width) ≡ 0
count_none chosen low zero each = refl
count_none chosen low (suc width) each = none_by chosen low width (each low (omega arith) (omega arith)) (count_none chosen (low + 1) width (λ place from to. each place (omega arith) (omega arith)))

-- only the trees at a segment's own places show in its join
pub places_one : (chosen : ℕ → Bool) (count low : ℕ) → low < count → chosen low ≡ true → places_within chosen count 0 low ≡ 1
places_one chosen count low within e =
    let one : min (2 ^ 0) (count - low) ≡ 1 = omega arith in
    ap (λ n. count_by chosen (range_with_len low n)) one ∙ rw e refl

pub places_low : (chosen : ℕ → Bool) (count height low : ℕ) → count ≤ low + 2 ^ height → places_within chosen count height low ≡ places_within chosen count (suc height) low
places_low chosen count height low fits =
    let same : min (2 ^ height) (count - low) ≡ min (2 ^ suc height) (count - low) = omega (arith, pow-suc 2 height) in
    ap (λ n. count_by chosen (range_with_len low n)) same

pub places_parts : (chosen : ℕ → Bool) (count height low : ℕ) → low + 2 ^ height < count
    → places_within chosen count (suc height) low ≡ places_within chosen count height low + places_within chosen count height (low + 2 ^ height)
places_parts chosen count height low above =
    let whole : min (2 ^ height) (count - low) ≡ 2 ^ height = omega arith in
    let up : 2 ^ suc height ≡ 2 ^ height * 2 = pow-suc 2 height in
    let both : min (2 ^ suc height) (count - low) ≡ 2 ^ height + min (2 ^ height) (count - (low + 2 ^ height)) = omega arith in
    ap (λ n. count_by chosen (range_with_len low n)) both ∙ count_rows chosen low (2 ^ height) (min (2 ^ height) (count - (low + 2 ^ height)))
    ∙ ap (λ n. count_by chosen (range_with_len low n) + places_within chosen count height (low + 2 ^ height)) (sym whole)

first_taken : (count : ℕ) (inner : List Tree) → 0 < count → first_tree (take count inner) ≡ first_tree inner
first_taken zero inner some = absurd (omega arith)
first_taken (suc count) [] some = refl
first_taken (suc count) (tree ∷ inner) some = refl

join_front_end : (chosen : ℕ → Bool) (count low taken : ℕ) (inner : List Tree) (outer : List (List ℕ)) → low < count → places_within chosen count 0 low ≤ taken
    → (here : Bool) → chosen low ≡ here → joined_within chosen count 0 low (take taken inner) outer ≡ joined_within chosen count 0 low inner outer
unfolding joined_within
join_front_end chosen count low taken inner outer within fits true e = rw e (first_taken taken inner (omega (arith, places_one chosen count low within e)))
join_front_end chosen count low taken inner outer within fits false e = rw e refl

join_front_by : (chosen : ℕ → Bool) (count height low taken : ℕ) (inner : List Tree) (outer : List (List ℕ)) → low < count → places_within chosen count (suc height) low ≤ taken
    → ((at first : ℕ) (trees : List Tree) (hashes : List (List ℕ)) → at < count → places_within chosen count height at ≤ first
    → joined_within chosen count height at (take first trees) hashes ≡ joined_within chosen count height at trees hashes)
    → (covered : Bool) → is_covered (others chosen) count (suc height) low ≡ covered → (short : Bool) → nat_le count (low + 2 ^ height) ≡ short
    → joined_within chosen count (suc height) low (take taken inner) outer ≡ joined_within chosen count (suc height) low inner outer
join_front_by chosen count height low taken inner outer within fits below true e short f =
    join_given chosen count (suc height) low (take taken inner) outer e ∙ sym (join_given chosen count (suc height) low inner outer e)
join_front_by chosen count height low taken inner outer within fits below false e true f =
    let past : count ≤ low + 2 ^ height = leb-true _ _ f in
    join_low chosen count height low (take taken inner) outer e past ∙ below low taken inner outer within (omega (arith, places_low chosen count height low past)) ∙ sym (join_low chosen count height low inner outer e past)
join_front_by chosen count height low taken inner outer within fits below false e false f =
    let above : low + 2 ^ height < count = leb-false _ _ f in
    let parts = places_parts chosen count height low above in
    let lefts = length (cover_within (others chosen) count height low) in
    let first = places_within chosen count height low in
    let enough : first ≤ taken = omega arith in
    join_node chosen count height low (take taken inner) outer e above
    ∙ ap (λ xs. Node (joined_within chosen count height low xs (take lefts outer)) (joined_within chosen count height (low + 2 ^ height) (drop first (take taken inner)) (drop lefts outer))) (take-take first taken inner enough)
    ∙ ap (λ xs. Node (joined_within chosen count height low (take first inner) (take lefts outer)) (joined_within chosen count height (low + 2 ^ height) xs (drop lefts outer))) (drop_taken first taken inner enough)
    ∙ ap (λ t. Node (joined_within chosen count height low (take first inner) (take lefts outer)) t) (below (low + 2 ^ height) (taken - first) (drop first inner) (drop lefts outer) above (omega arith))
    ∙ sym (join_node chosen count height low inner outer e above)

pub join_front : (chosen : ℕ → Bool) (count height low taken : ℕ) (inner : List Tree) (outer : List (List ℕ)) → low < count → places_within chosen count height low ≤ taken
    → joined_within chosen count height low (take taken inner) outer ≡ joined_within chosen count height low inner outer
join_front chosen count zero low taken inner outer within fits = join_front_end chosen count low taken inner outer within fits (chosen low) refl
join_front chosen count (suc height) low taken inner outer within fits =
    join_front_by chosen count height low taken inner outer within fits (λ at first trees hashes in_it enough. join_front chosen count height at first trees hashes in_it enough)
    (is_covered (others chosen) count (suc height) low) refl (nat_le count (low + 2 ^ height)) refl

-- any two heights that the places fit give one join
join_add : (chosen : ℕ → Bool) (count more height : ℕ) (inner : List Tree) (outer : List (List ℕ)) → count ≤ 2 ^ height → 0 < count
    → joined_within chosen count (more + height) 0 inner outer ≡ joined_within chosen count height 0 inner outer
join_add chosen count zero height inner outer fits some = rw zero-add refl
join_add chosen count (suc more) height inner outer fits some =
    let low : count ≤ 0 + 2 ^ (more + height) = omega (arith, pow_up more height) in
    let wide : count < 0 + 2 ^ suc (more + height) = omega (arith, pow-suc 2 (more + height)) in
    rw suc-add (join_low chosen count (more + height) 0 inner outer (past_covered (others chosen) count (suc (more + height)) 0 wide) low ∙ join_add chosen count more height inner outer fits some)

pub join_at : (chosen : ℕ → Bool) (count height : ℕ) (inner : List Tree) (outer : List (List ℕ)) → count ≤ 2 ^ height → 0 < count
    → joined_within chosen count count 0 inner outer ≡ joined_within chosen count height 0 inner outer
join_at chosen count height inner outer fits some =
    let swapped : height + count ≡ count + height = omega arith in
    sym (join_add chosen count height count inner outer (omega (arith, lt_pow count)) some) ∙ ap (λ h. joined_within chosen count h 0 inner outer) swapped ∙ join_add chosen count count height inner outer fits some

-- the join in terms of a height given by another number
pub join_lower : (chosen : ℕ → Bool) (count height lower low : ℕ) (inner : List Tree) (outer : List (List ℕ)) → height ≡ suc lower → is_covered (others chosen) count height low ≡ false → count ≤ low + 2 ^ lower
    → joined_within chosen count height low inner outer ≡ joined_within chosen count lower low inner outer
join_lower chosen count height lower low inner outer is e past =
    ap (λ h. joined_within chosen count h low inner outer) is ∙ join_low chosen count lower low inner outer (ap (λ h. is_covered (others chosen) count h low) (sym is) ∙ e) past

pub hash_of_node : (left right : Tree) → hash_of (Node left right) ≡ node_digest (hash_of left) (hash_of right)
unfolding hash_of
hash_of_node left right = refl

pub hash_given : (hash : List ℕ) → hash_of (Given hash) ≡ hash
unfolding hash_of
hash_given hash = refl

pub one_hash : (hashes : List (List ℕ)) → hash_of (first_tree (map Given hashes)) ≡ tree_root 0 (take 1 hashes)
unfolding hash_of tree_root
one_hash [] = refl
one_hash (hash ∷ hashes) = refl

uncovered_by : (chosen : ℕ → Bool) (count low : ℕ) → low < count → is_covered (others chosen) count 0 low ≡ false → (here : Bool) → chosen low ≡ here → chosen low ≡ true
uncovered_by chosen count low within e true h = h
uncovered_by chosen count low within e false h =
    let top : low + 2 ^ 0 ≤ count = omega arith in
    let covered : is_covered (others chosen) count 0 low ≡ true = rw (le-leb _ _ top, h) refl in
    absurd (let no : true ≡ false = sym covered ∙ e in cc)

-- a place that is in the tree and not one of the others is chosen
pub uncovered_chosen : (chosen : ℕ → Bool) (count low : ℕ) → low < count → is_covered (others chosen) count 0 low ≡ false → chosen low ≡ true
uncovered_chosen chosen count low within e = uncovered_by chosen count low within e (chosen low) refl

pub first_of : (hashes : List (List ℕ)) → 0 < length hashes → get_or hashes 0 [] ≡ first_hash hashes
first_of [] some = absurd (let none : 0 < 0 = some in omega arith)
first_of (hash ∷ hashes) some = refl

-- a place of the tree is in the set or outside
mixed_by : (chosen : ℕ → Bool) (count height low : ℕ) → low < count → is_covered chosen count height low ≡ false → is_covered (others chosen) count height low ≡ false → (zero_high : Bool) → nat_eq height 0 ≡ zero_high → 0 < height
mixed_by chosen count height low within e f true is =
    let none : height ≡ 0 = eqb-true _ _ is in
    let here : chosen low ≡ true = uncovered_chosen chosen count low within (ap (λ h. is_covered (others chosen) count h low) (sym none) ∙ f) in
    let top : low + 2 ^ 0 ≤ count = omega arith in
    let covered : is_covered chosen count 0 low ≡ true = rw (le-leb _ _ top, here) refl in
    absurd (let no : true ≡ false = sym covered ∙ ap (λ h. is_covered chosen count h low) (sym none) ∙ e in cc)
mixed_by chosen count height low within e f false is =
    let some : height ≢ 0 = eqb-false _ _ is in
    omega arith

-- so a subtree that is neither all in it nor all outside has two halves
pub mixed_above : (chosen : ℕ → Bool) (count height low : ℕ) → low < count → is_covered chosen count height low ≡ false → is_covered (others chosen) count height low ≡ false → 0 < height
mixed_above chosen count height low within e f = mixed_by chosen count height low within e f (nat_eq height 0) refl
