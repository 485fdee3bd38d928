-- Laws of the path of a place, and of what is joined along it.
use Rattle.std.proofs.Common.{◌≡◌, ◌≢◌, ℕ, zero, suc, ◌+◌, ◌-◌, ◌^◌, ◌<◌, ◌≤◌, true, false, List, [], ◌∷◌, ◌++◌, length, refl, sym, ◌∙◌, ap, arith, Option, Some, None, length-append, suc-add, zero-add}
use Rattle.std.specs.Prelude.{nat_eq, nat_lt, option_map, Bool, IsTrue, ◌↔◌}
use Rattle.std.specs.Cmp.Lexicographic.{pointwise, same_text, other_text}
use Rattle.std.proofs.lemmas.Bool.{le-leb, lt-leb, lt-ltb, le-ltb, eq-eqb, ne_eqb, eqb-true, eqb-false, ltb-true, ltb-false}
use Rattle.sia_merkle.specs.Computations.{Tree, hash_of}
use Rattle.sia_merkle.specs.Computations.Tree.{Given, Leaf}
use Rattle.sia_merkle.specs.Paths.{Side, sides, path_of, beside, climbed, cut_leaf, leaf_tree, IsCorrect, joined_upwards}
use Rattle.sia_merkle.specs.Paths.Side.{Left, Right}
use Rattle.sia_merkle.specs.Roots.{leaf_count, leaf_digest, node_digest}
use Rattle.sia_merkle.proofs.Trees.{lt_pow, pow_up}

pub sides-low : (height count place : ℕ) → count ≤ 2 ^ height → sides (suc height) count place ≡ sides height count place
unfolding sides
sides-low height count place fits = rw (le-leb _ _ fits) refl

pub sides-left : (height count place : ℕ) → 2 ^ height < count → place < 2 ^ height → sides (suc height) count place ≡ sides height (2 ^ height) place ++ Right ∷ []
unfolding sides
sides-left height count place above left = rw (lt-leb _ _ above, lt-ltb _ _ left) refl

pub sides-right : (height count place : ℕ) → 2 ^ height < count → 2 ^ height ≤ place → sides (suc height) count place ≡ sides height (count - 2 ^ height) (place - 2 ^ height) ++ Left ∷ []
unfolding sides
sides-right height count place above right = rw (lt-leb _ _ above, le-ltb _ _ right) refl

pub climbed-last : (below : Tree) (path : List Side) (side : Side) (hashes : List (List ℕ)) (hash : List ℕ) → length hashes ≡ length path
    → climbed below (path ++ side ∷ []) (hashes ++ hash ∷ []) ≡ beside (climbed below path hashes) side hash
unfolding climbed
climbed-last below [] side [] hash fits = refl
climbed-last below [] side (h ∷ hashes) hash fits = absurd (let none : suc (length hashes) ≡ 0 = fits in omega arith)
climbed-last below (s ∷ path) side [] hash fits = absurd (let none : 0 ≡ suc (length path) = fits in omega arith)
climbed-last below (s ∷ path) side (h ∷ hashes) hash fits =
    let less : length hashes ≡ length path = let more : suc (length hashes) ≡ suc (length path) = fits in omega arith in
    climbed-last (beside below s h) path side hashes hash less

pub climb_low : (below : List ℕ) (height lower count place : ℕ) (hashes : List (List ℕ)) → height ≡ suc lower → count ≤ 2 ^ lower
    → joined_upwards below (sides lower count place) hashes ≡ joined_upwards below (sides height count place) hashes
climb_low below height lower count place hashes is fits = ap (λ path. joined_upwards below path hashes) (sym (ap (λ h. sides h count place) is ∙ sides-low lower count place fits))

no_path : (height count place : ℕ) → height ≡ 0 → sides height count place ≡ []
unfolding sides
no_path height count place is = rw is refl

joined_end : (below : List ℕ) (hashes : List (List ℕ)) → length hashes ≡ 0 → Some below ≡ joined_upwards below [] hashes
unfolding climbed hash_of
joined_end below hashes none = rw (eq-eqb (length hashes) 0 none) refl

joined_over : (below : List ℕ) (hashes : List (List ℕ)) → length hashes ≢ 0 → None ≡ joined_upwards below [] hashes
joined_over below hashes some = rw (ne_eqb (length hashes) 0 some) refl

pub climb_end : (below : List ℕ) (height count place : ℕ) (hashes : List (List ℕ)) → height ≡ 0 → length hashes ≡ 0
    → Some below ≡ joined_upwards below (sides height count place) hashes
climb_end below height count place hashes is none = rw (no_path height count place is) (joined_end below hashes none)

pub climb_over : (below : List ℕ) (height count place : ℕ) (hashes : List (List ℕ)) → height ≡ 0 → length hashes ≢ 0
    → None ≡ joined_upwards below (sides height count place) hashes
climb_over below height count place hashes is some = rw (no_path height count place is) (joined_over below hashes some)

joined_by : (below : List ℕ) (path : List Side) (side : Side) (hashes : List (List ℕ)) (hash : List ℕ) (f : List ℕ → List ℕ)
    → ((tree : Tree) → hash_of (beside tree side hash) ≡ f (hash_of tree))
    → (fits : Bool) → nat_eq (length hashes) (length path) ≡ fits
    → joined_upwards below (path ++ side ∷ []) (hashes ++ hash ∷ []) ≡ option_map f (joined_upwards below path hashes)
joined_by below path side hashes hash f is true e =
    let same : length hashes ≡ length path = eqb-true (length hashes) (length path) e in
    let more : length (hashes ++ hash ∷ []) ≡ length (path ++ side ∷ []) = length-append hashes (hash ∷ []) ∙ ap (λ n. n + 1) same ∙ sym (length-append path (side ∷ [])) in
    rw (eq-eqb _ _ more, e) (ap Some (ap hash_of (climbed-last (Given below) path side hashes hash same) ∙ is (climbed (Given below) path hashes)))
joined_by below path side hashes hash f is false e =
    let apart : length hashes ≢ length path = eqb-false (length hashes) (length path) e in
    let more : length (hashes ++ hash ∷ []) ≢ length (path ++ side ∷ []) = λ same. apart (omega (arith, same, length-append hashes (hash ∷ []), length-append path (side ∷ []))) in
    rw (ne_eqb _ _ more, e) refl

joined-last : (below : List ℕ) (path : List Side) (side : Side) (hashes : List (List ℕ)) (hash : List ℕ) (f : List ℕ → List ℕ)
    → ((tree : Tree) → hash_of (beside tree side hash) ≡ f (hash_of tree))
    → joined_upwards below (path ++ side ∷ []) (hashes ++ hash ∷ []) ≡ option_map f (joined_upwards below path hashes)
joined-last below path side hashes hash f is = joined_by below path side hashes hash f is (nat_eq (length hashes) (length path)) refl

joined_short : (below : List ℕ) (path : List Side) (side : Side) → None ≡ joined_upwards below (path ++ side ∷ []) []
joined_short below path side =
    let some : 0 ≢ length (path ++ side ∷ []) = λ none. absurd (omega (arith, none, length-append path (side ∷ []))) in
    rw (ne_eqb 0 (length (path ++ side ∷ [])) some) refl

right_hash : (hash : List ℕ) (tree : Tree) → hash_of (beside tree Right hash) ≡ node_digest (hash_of tree) hash
unfolding hash_of
right_hash hash tree = refl

left_hash : (hash : List ℕ) (tree : Tree) → hash_of (beside tree Left hash) ≡ node_digest hash (hash_of tree)
unfolding hash_of
left_hash hash tree = refl

pub climb_left : (below : List ℕ) (height lower count place : ℕ) (hashes inner : List (List ℕ)) (hash : List ℕ) → height ≡ suc lower → 2 ^ lower < count → place < 2 ^ lower
    → hashes ≡ inner ++ hash ∷ []
    → option_map (λ left. node_digest left hash) (joined_upwards below (sides lower (2 ^ lower) place) inner) ≡ joined_upwards below (sides height count place) hashes
climb_left below height lower count place hashes inner hash is above left all =
    sym (ap (λ path. joined_upwards below path hashes) (ap (λ h. sides h count place) is ∙ sides-left lower count place above left)
    ∙ ap (joined_upwards below (sides lower (2 ^ lower) place ++ Right ∷ [])) all
    ∙ joined-last below (sides lower (2 ^ lower) place) Right inner hash (λ left. node_digest left hash) (right_hash hash))

pub climb_right : (below : List ℕ) (height lower count place : ℕ) (hashes inner : List (List ℕ)) (hash : List ℕ) → height ≡ suc lower → 2 ^ lower < count → 2 ^ lower ≤ place
    → hashes ≡ inner ++ hash ∷ []
    → option_map (λ right. node_digest hash right) (joined_upwards below (sides lower (count - 2 ^ lower) (place - 2 ^ lower)) inner) ≡ joined_upwards below (sides height count place) hashes
climb_right below height lower count place hashes inner hash is above right all =
    sym (ap (λ path. joined_upwards below path hashes) (ap (λ h. sides h count place) is ∙ sides-right lower count place above right)
    ∙ ap (joined_upwards below (sides lower (count - 2 ^ lower) (place - 2 ^ lower) ++ Left ∷ [])) all
    ∙ joined-last below (sides lower (count - 2 ^ lower) (place - 2 ^ lower)) Left inner hash (λ right. node_digest hash right) (left_hash hash))

no_items : (hashes : List (List ℕ)) → length hashes ≡ 0 → hashes ≡ []
no_items [] none = refl
no_items (hash ∷ hashes) none = absurd (let more : suc (length hashes) ≡ 0 = none in omega arith)

short_by : (below : List ℕ) (lower count place : ℕ) → 2 ^ lower < count → (left : Bool) → nat_lt place (2 ^ lower) ≡ left
    → None ≡ joined_upwards below (sides (suc lower) count place) []
short_by below lower count place above true e = rw (sides-left lower count place above (ltb-true _ _ e)) (joined_short below (sides lower (2 ^ lower) place) Right)
short_by below lower count place above false e = rw (sides-right lower count place above (ltb-false _ _ e)) (joined_short below (sides lower (count - 2 ^ lower) (place - 2 ^ lower)) Left)

pub climb_short : (below : List ℕ) (height lower count place : ℕ) (hashes : List (List ℕ)) → height ≡ suc lower → 2 ^ lower < count → length hashes ≡ 0
    → None ≡ joined_upwards below (sides height count place) hashes
climb_short below height lower count place hashes is above none =
    rw (is, no_items hashes none) (short_by below lower count place above (nat_lt place (2 ^ lower)) refl)

-- two heights that the leaves fit give one path
sides-add : (more height count place : ℕ) → count ≤ 2 ^ height → sides (more + height) count place ≡ sides height count place
sides-add zero height count place fits = rw zero-add refl
sides-add (suc more) height count place fits =
    let low : count ≤ 2 ^ (more + height) = omega (arith, pow_up more height) in
    rw suc-add (sides-low (more + height) count place low ∙ sides-add more height count place fits)

pub sides-same : (height other count place : ℕ) → count ≤ 2 ^ height → count ≤ 2 ^ other → sides height count place ≡ sides other count place
sides-same height other count place fits fits_other =
    let swapped : height + other ≡ other + height = omega arith in
    sym (sides-add other height count place fits) ∙ ap (λ h. sides h count place) (sym swapped) ∙ sides-add height other count place fits_other

pub path_of-at : (height count place : ℕ) → count ≤ 2 ^ height → path_of count place ≡ sides height count place
unfolding path_of
path_of-at height count place fits = sides-same count height count place (omega (arith, lt_pow count)) fits

-- only the hash of what is below shows in what is joined
beside-hash : (tree other : Tree) (side : Side) (hash : List ℕ) → hash_of tree ≡ hash_of other → hash_of (beside tree side hash) ≡ hash_of (beside other side hash)
unfolding hash_of
beside-hash tree other Left hash same = ap (node_digest hash) same
beside-hash tree other Right hash same = ap (λ h. node_digest h hash) same

pub climbed-hash : (tree other : Tree) (path : List Side) (hashes : List (List ℕ)) → hash_of tree ≡ hash_of other → hash_of (climbed tree path hashes) ≡ hash_of (climbed other path hashes)
unfolding climbed
climbed-hash tree other [] hashes same = same
climbed-hash tree other (side ∷ path) [] same = same
climbed-hash tree other (side ∷ path) (hash ∷ hashes) same = climbed-hash (beside tree side hash) (beside other side hash) path hashes (beside-hash tree other side hash same)

given_leaf : (below bytes : List ℕ) → below ≡ leaf_digest bytes → hash_of (Given below) ≡ hash_of (Leaf bytes)
unfolding hash_of
given_leaf below bytes is = is

-- the answer to what was joined
abbrev pub matched : Option (List ℕ) → List ℕ → Bool
matched None root = false
matched (Some hash) root = pointwise nat_eq hash root

when_told : (bytes : List ℕ) (answer : Bool) → answer ≡ pointwise nat_eq bytes bytes → pointwise nat_eq bytes bytes ≡ true
when_told bytes true e = sym e
when_told bytes false e = absurd (other_text bytes bytes e refl)

one_is_one : (bytes : List ℕ) → pointwise nat_eq bytes bytes ≡ true
one_is_one bytes = when_told bytes (pointwise nat_eq bytes bytes) refl

-- equal texts are one
pub one_text : (bytes other : List ℕ) → bytes ≡ other → pointwise nat_eq bytes other ≡ true
one_text bytes other is = ap (λ b. pointwise nat_eq b other) is ∙ one_is_one other

judged_by : (root below : List ℕ) (path : List Side) (hashes : List (List ℕ)) (found : Option (List ℕ)) (fits : Bool) → nat_eq (length hashes) (length path) ≡ fits
    → found ≡ joined_upwards below path hashes
    → (matched found root ≡ true → (length hashes ≡ length path) × (hash_of (climbed (Given below) path hashes) ≡ root))
    × ((length hashes ≡ length path) × (hash_of (climbed (Given below) path hashes) ≡ root) → matched found root ≡ true)
judged_by root below path hashes found true e is =
    let found_is : found ≡ Some (hash_of (climbed (Given below) path hashes)) = rw e at is in
    rw found_is ((λ yes. (eqb-true _ _ e, same_text _ _ (sym yes))), (λ (used, joined). rw joined (one_is_one root)))
judged_by root below path hashes found false e is =
    let found_is : found ≡ None = rw e at is in
    rw found_is ((λ yes. absurd (let no : false ≡ true = yes in cc)), (λ (used, joined). absurd (eqb-false _ _ e used)))

pub judged : (root below leaf : List ℕ) (size place : ℕ) (hashes : List (List ℕ)) (found : Option (List ℕ))
    → leaf_count size ≤ 2 ^ 64 → below ≡ leaf_digest (cut_leaf size place leaf) → found ≡ joined_upwards below (sides 64 (leaf_count size) place) hashes
    → IsTrue (matched found root) ↔ IsCorrect root size place leaf hashes
judged root below leaf size place hashes found fits below_is is =
    let path : path_of (leaf_count size) place ≡ sides 64 (leaf_count size) place = path_of-at 64 (leaf_count size) place fits in
    let both = judged_by root below (path_of (leaf_count size) place) hashes found (nat_eq (length hashes) (length (path_of (leaf_count size) place))) refl (is ∙ ap (λ p. joined_upwards below p hashes) (sym path)) in
    let tops : hash_of (climbed (Given below) (path_of (leaf_count size) place) hashes) ≡ hash_of (leaf_tree size place leaf hashes) =
    climbed-hash (Given below) (Leaf (cut_leaf size place leaf)) (path_of (leaf_count size) place) hashes (given_leaf below (cut_leaf size place leaf) below_is) in
    ((λ yes. record { used = (both.0 yes).0; joined = sym tops ∙ (both.0 yes).1 }), (λ correct. both.1 (correct.used, tops ∙ correct.joined)))
