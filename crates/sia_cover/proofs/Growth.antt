-- How a cover grows with its tree.
use Rattle.std.proofs.Common.{◌≡◌, ℕ, zero, suc, ◌+◌, ◌-◌, ◌*◌, ◌^◌, ◌<◌, ◌≤◌, true, false, List, [], ◌∷◌, ◌++◌, length, drop, take, refl, sym, ◌∙◌, ap, ap₂, arith, append-nil, append_assoc, suc-add, zero-add}
use native.Mathlib.Nat.{pow-suc}
use Rattle.std.specs.Prelude.{Bool, nat_lt, ◌/◌, ◌%◌, Result, Ok, Err, OnOk}
use Rattle.std.proofs.lemmas.Bool.{le-leb, ltb-true, ltb-false}
use Rattle.std.proofs.lemmas.List.{map-append}
use Rattle.std.proofs.lemmas.Nat.{pow-add}
use Rattle.std.proofs.Math.Nat.{mul-le-mul_right}
use Rattle.sia_merkle.specs.Roots.{node_digest, tree_root}
use Rattle.sia_merkle.specs.Segments.{Segment, cover, cover_within, is_covered, segment_root, segment_roots}
use Rattle.sia_merkle.proofs.Trees.{lt_pow}
use Rattle.sia_cover.proofs.Covers.{all_pass, cover_left, cover_one, cover_parts, cover_past, covered_at, covered_within, past_covered, power_above}
use Rattle.sia_merkle.proofs.Windows.{root_at, root_node}
use Rattle.sia_cover.proofs.SameCovers.{cover_any, same_end}

-- a subtree that two trees have whole has one cover in both
covered_inside : (chosen : ℕ → Bool) (count other height low : ℕ) → low + 2 ^ height ≤ count → low + 2 ^ height ≤ other → is_covered chosen count height low ≡ is_covered chosen other height low
covered_inside chosen count other height low fits fits' = rw (le-leb _ _ fits, le-leb _ _ fits') refl

inside_by : (chosen : ℕ → Bool) (count other height low : ℕ) → is_covered chosen count (suc height) low ≡ is_covered chosen other (suc height) low
    → cover_within chosen count height low ≡ cover_within chosen other height low → cover_within chosen count height (low + 2 ^ height) ≡ cover_within chosen other height (low + 2 ^ height)
    → (covered : Bool) → is_covered chosen count (suc height) low ≡ covered → cover_within chosen count (suc height) low ≡ cover_within chosen other (suc height) low
inside_by chosen count other height low same left right true e = cover_one chosen count (suc height) low e ∙ sym (cover_one chosen other (suc height) low (sym same ∙ e))
inside_by chosen count other height low same left right false e =
    cover_parts chosen count height low e ∙ ap₂ (λ xs ys. xs ++ ys) left right ∙ sym (cover_parts chosen other height low (sym same ∙ e))

pub cover_inside : (chosen : ℕ → Bool) (count other height low : ℕ) → low + 2 ^ height ≤ count → low + 2 ^ height ≤ other → cover_within chosen count height low ≡ cover_within chosen other height low
cover_inside chosen count other zero low fits fits' = same_end chosen count other low (covered_inside chosen count other 0 low fits fits')
cover_inside chosen count other (suc height) low fits fits' =
    let up : 2 ^ suc height ≡ 2 ^ height * 2 = pow-suc 2 height in
    inside_by chosen count other height low (covered_inside chosen count other (suc height) low fits fits')
    (cover_inside chosen count other height low (omega arith) (omega arith)) (cover_inside chosen count other height (low + 2 ^ height) (omega arith) (omega arith))
    (is_covered chosen count (suc height) low) refl

-- Behind whole subtrees of a level a cover goes on with that of the places that are left, fewer than a subtree's: for the
-- places from low on.
grown_none : (chosen : ℕ → Bool) (level rest more low at top : ℕ) → at ≡ low + rest * 2 ^ level → top ≡ at + more → rest < 1
    → cover_within chosen top (0 + level) low ≡ cover_within chosen at (0 + level) low ++ cover_within chosen top level at
grown_none chosen level rest more low at top is ends few =
    let none : rest * 2 ^ level ≡ 0 * 2 ^ level = ap (λ n. n * 2 ^ level) (let no : rest ≡ 0 = omega arith in no) in
    let same : at ≡ low = omega arith in
    rw zero-add (ap (cover_within chosen top level) (sym same) ∙ sym (ap (λ front. front ++ cover_within chosen top level at) (cover_past chosen at level low (omega arith))))

grown_by : (chosen : ℕ → Bool) (level height rest more low at top : ℕ) → at ≡ low + rest * 2 ^ level → top ≡ at + more → rest < 2 ^ suc height → more < 2 ^ level
    → ((left from : ℕ) → at ≡ from + left * 2 ^ level → left < 2 ^ height → cover_within chosen top (height + level) from ≡ cover_within chosen at (height + level) from ++ cover_within chosen top level at)
    → (before : Bool) → nat_lt rest (2 ^ height) ≡ before
    → cover_within chosen top (suc (height + level)) low ≡ cover_within chosen at (suc (height + level)) low ++ cover_within chosen top level at
grown_by chosen level height rest more low at top is ends few short below true e =
    let wide : 2 ^ (height + level) ≡ 2 ^ height * 2 ^ level = pow-add 2 height level in
    let up : 2 ^ suc (height + level) ≡ 2 ^ (height + level) * 2 = pow-suc 2 (height + level) in
    let first : rest < 2 ^ height = ltb-true _ _ e in
    let product : (rest + 1) * 2 ^ level ≤ 2 ^ height * 2 ^ level = mul-le-mul_right (2 ^ level) (let next : rest + 1 ≤ 2 ^ height = omega arith in next) in
    let apart : (rest + 1) * 2 ^ level ≡ rest * 2 ^ level + 2 ^ level = omega arith in
    cover_parts chosen top (height + level) low (past_covered chosen top (suc (height + level)) low (omega arith))
    ∙ ap₂ (λ xs ys. xs ++ ys) (below rest low is first) (cover_past chosen top (height + level) (low + 2 ^ (height + level)) (omega arith))
    ∙ append-nil (cover_within chosen at (height + level) low ++ cover_within chosen top level at)
    ∙ sym (ap (λ xs. xs ++ cover_within chosen top level at) (cover_parts chosen at (height + level) low (past_covered chosen at (suc (height + level)) low (omega arith))
    ∙ ap (λ ys. cover_within chosen at (height + level) low ++ ys) (cover_past chosen at (height + level) (low + 2 ^ (height + level)) (omega arith))
    ∙ append-nil (cover_within chosen at (height + level) low)))
grown_by chosen level height rest more low at top is ends few short below false e =
    let wide : 2 ^ (height + level) ≡ 2 ^ height * 2 ^ level = pow-add 2 height level in
    let up : 2 ^ suc (height + level) ≡ 2 ^ (height + level) * 2 = pow-suc 2 (height + level) in
    let twice : 2 ^ suc height ≡ 2 ^ height * 2 = pow-suc 2 height in
    let behind : 2 ^ height ≤ rest = ltb-false _ _ e in
    let left : rest - 2 ^ height < 2 ^ height = omega arith in
    let split : rest * 2 ^ level ≡ (2 ^ height + (rest - 2 ^ height)) * 2 ^ level = ap (λ n. n * 2 ^ level) (let whole : rest ≡ 2 ^ height + (rest - 2 ^ height) = omega arith in whole) in
    let apart : (2 ^ height + (rest - 2 ^ height)) * 2 ^ level ≡ 2 ^ height * 2 ^ level + (rest - 2 ^ height) * 2 ^ level = omega arith in
    let product : (rest - 2 ^ height + 1) * 2 ^ level ≤ 2 ^ height * 2 ^ level = mul-le-mul_right (2 ^ level) (let next : rest - 2 ^ height + 1 ≤ 2 ^ height = omega arith in next) in
    let more_apart : (rest - 2 ^ height + 1) * 2 ^ level ≡ (rest - 2 ^ height) * 2 ^ level + 2 ^ level = omega arith in
    let there : at ≡ (low + 2 ^ (height + level)) + (rest - 2 ^ height) * 2 ^ level = omega arith in
    cover_parts chosen top (height + level) low (past_covered chosen top (suc (height + level)) low (omega arith))
    ∙ ap₂ (λ xs ys. xs ++ ys) (cover_inside chosen top at (height + level) low (omega arith) (omega arith)) (below (rest - 2 ^ height) (low + 2 ^ (height + level)) there left)
    ∙ sym (append_assoc (cover_within chosen at (height + level) low) (cover_within chosen at (height + level) (low + 2 ^ (height + level))) (cover_within chosen top level at))
    ∙ sym (ap (λ xs. xs ++ cover_within chosen top level at) (cover_parts chosen at (height + level) low (past_covered chosen at (suc (height + level)) low (omega arith))))

grown_within : (chosen : ℕ → Bool) (level height rest more low at top : ℕ) → at ≡ low + rest * 2 ^ level → top ≡ at + more → rest < 2 ^ height → more < 2 ^ level
    → cover_within chosen top (height + level) low ≡ cover_within chosen at (height + level) low ++ cover_within chosen top level at
grown_within chosen level zero rest more low at top is ends few short = grown_none chosen level rest more low at top is ends few
grown_within chosen level (suc height) rest more low at top is ends few short =
    rw suc-add (grown_by chosen level height rest more low at top is ends few short (λ left from there less. grown_within chosen level height left more from at top there ends less short) (nat_lt rest (2 ^ height)) refl)

-- the same of whole trees
pub cover_grown : (chosen : ℕ → Bool) (level rest more at top : ℕ) → at ≡ rest * 2 ^ level → top ≡ at + more → more < 2 ^ level → cover chosen top ≡ cover chosen at ++ cover_within chosen top level at
cover_grown chosen level rest more at top is ends short =
    let wide : 2 ^ (rest + level) ≡ 2 ^ rest * 2 ^ level = pow-add 2 rest level in
    let product : (rest + 1) * 2 ^ level ≤ 2 ^ rest * 2 ^ level = mul-le-mul_right (2 ^ level) (let next : rest + 1 ≤ 2 ^ rest = omega (arith, lt_pow rest) in next) in
    let apart : (rest + 1) * 2 ^ level ≡ rest * 2 ^ level + 2 ^ level = omega arith in
    let from : at ≡ 0 + rest * 2 ^ level = omega arith in
    cover_any chosen top (rest + level) (omega arith) ∙ grown_within chosen level rest rest more 0 at top from ends (lt_pow rest) short
    ∙ ap (λ xs. xs ++ cover_within chosen top level at) (sym (cover_any chosen at (rest + level) (omega arith)))

-- a tree that ends with a left subtree of a height
pub cover_end : (chosen : ℕ → Bool) (height half at top : ℕ) → at ≡ half * 2 ^ suc height → top ≡ at + 2 ^ height → cover chosen top ≡ cover chosen at ++ cover_within chosen top height at
cover_end chosen height half at top is ends =
    let up : 2 ^ suc height ≡ 2 ^ height * 2 = pow-suc 2 height in
    let some : 0 < 2 ^ height = power_above height in
    cover_grown chosen (suc height) half (2 ^ height) at top is ends (omega arith)
    ∙ ap (λ xs. cover chosen at ++ xs) (cover_left chosen top height at (omega arith) (omega arith) (past_covered chosen top (suc height) at (omega arith)))

-- a tree that ends with a right subtree of a height: the left one before it, and it
ends_apart : (chosen : ℕ → Bool) (height half start at count : ℕ) → start ≡ half * 2 ^ suc height → at ≡ start + 2 ^ height → count ≡ at + 2 ^ height
    → cover chosen at ++ cover_within chosen count height at ≡ cover chosen start ++ (cover_within chosen count height start ++ cover_within chosen count height (start + 2 ^ height))
ends_apart chosen height half start at count is next ends =
    ap₂ (λ xs ys. xs ++ ys) (cover_end chosen height half start at is next ∙ ap (λ xs. cover chosen start ++ xs) (cover_inside chosen at count height start (omega arith) (omega arith)))
    (ap (cover_within chosen count height) next)
    ∙ append_assoc (cover chosen start) (cover_within chosen count height start) (cover_within chosen count height (start + 2 ^ height))

-- a part of a covered subtree is covered
covered_part : (chosen : ℕ → Bool) (count height low at : ℕ) → is_covered chosen count (suc height) low ≡ true → low ≤ at → at + 2 ^ height ≤ low + 2 ^ suc height → is_covered chosen count height at ≡ true
covered_part chosen count height low at e from to =
    let within : low + 2 ^ suc height ≤ count = covered_within chosen count (suc height) low e in
    rw (le-leb _ _ (let fits : at + 2 ^ height ≤ count = omega arith in fits)) (all_pass chosen at (2 ^ height) (λ place first last. covered_at chosen count (suc height) low place e (omega arith) (omega arith)))

-- the roots at the end of a tree, whose last subtree is a left one
pub roots_end : (chosen : ℕ → Bool) (hashes roots : List (List ℕ)) (height rest : ℕ) → length hashes ≡ (rest + 1) * 2 ^ height → rest % 2 ≡ 0
    → roots ≡ segment_roots hashes (cover chosen (rest * 2 ^ height) ++ cover_within chosen (length hashes) height (rest * 2 ^ height)) → roots ≡ segment_roots hashes (cover chosen (length hashes))
roots_end chosen hashes roots height rest all even is =
    let pairs : rest ≡ rest / 2 * 2 = omega arith in
    let at : rest * 2 ^ height ≡ rest / 2 * 2 ^ suc height = ap (λ r. r * 2 ^ height) pairs ∙ sym (ap (λ p. rest / 2 * p) (pow-suc 2 height) ∙ (omega arith)) in
    let more : (rest + 1) * 2 ^ height ≡ rest * 2 ^ height + 2 ^ height = omega arith in
    is ∙ ap (segment_roots hashes) (sym (cover_end chosen height (rest / 2) (rest * 2 ^ height) (length hashes) at (all ∙ more)))

-- where it is a right one, the roots are those of the left one before it, and of it
halves : (rest height : ℕ) → rest % 2 ≡ 1 → rest * 2 ^ height ≡ rest / 2 * 2 ^ suc height + 2 ^ height
halves rest height odd =
    let pairs : rest ≡ rest / 2 * 2 + 1 = omega arith in
    let at : rest / 2 * 2 ^ suc height ≡ rest / 2 * 2 * 2 ^ height = ap (λ p. rest / 2 * p) (pow-suc 2 height) ∙ (omega arith) in
    let product : rest * 2 ^ height ≡ (rest / 2 * 2 + 1) * 2 ^ height = ap (λ r. r * 2 ^ height) pairs in
    let apart : (rest / 2 * 2 + 1) * 2 ^ height ≡ rest / 2 * 2 * 2 ^ height + 2 ^ height = omega arith in
    omega arith

pub halved : (rest height : ℕ) → rest % 2 ≡ 1 → (rest + 1) * 2 ^ height ≡ (rest / 2 + 1) * 2 ^ (height + 1)
halved rest height odd =
    let more : (rest + 1) * 2 ^ height ≡ rest * 2 ^ height + 2 ^ height = omega arith in
    let twice : (rest / 2 + 1) * 2 ^ suc height ≡ rest / 2 * 2 ^ suc height + 2 ^ suc height = omega arith in
    let all : (rest + 1) * 2 ^ height ≡ (rest / 2 + 1) * 2 ^ suc height = omega (arith, halves rest height odd, pow-suc 2 height) in
    let up : suc height ≡ height + 1 = omega arith in
    all ∙ ap (λ h. (rest / 2 + 1) * 2 ^ h) up

abbrev Ends : (ℕ → Bool) → List (List ℕ) → List (List ℕ) → ℕ → ℕ → Type 0
Ends chosen hashes roots height low = roots ≡ segment_roots hashes (cover chosen low ++ cover_within chosen (length hashes) height low)

apart_by : (chosen : ℕ → Bool) (hashes roots : List (List ℕ)) (height rest : ℕ) → length hashes ≡ (rest + 1) * 2 ^ height → rest % 2 ≡ 1 → Ends chosen hashes roots height (rest * 2 ^ height)
    → roots ≡ segment_roots hashes (cover chosen (rest / 2 * 2 ^ suc height)
    ++ (cover_within chosen (length hashes) height (rest / 2 * 2 ^ suc height) ++ cover_within chosen (length hashes) height (rest / 2 * 2 ^ suc height + 2 ^ height)))
apart_by chosen hashes roots height rest all odd is =
    let more : (rest + 1) * 2 ^ height ≡ rest * 2 ^ height + 2 ^ height = omega arith in
    is ∙ ap (segment_roots hashes) (ends_apart chosen height (rest / 2) (rest / 2 * 2 ^ suc height) (rest * 2 ^ height) (length hashes) refl (halves rest height odd) (all ∙ more))

up_next : (chosen : ℕ → Bool) (hashes roots : List (List ℕ)) (height rest : ℕ) → Ends chosen hashes roots (suc height) (rest * 2 ^ suc height) → Ends chosen hashes roots (height + 1) (rest * 2 ^ (height + 1))
up_next chosen hashes roots height rest is =
    let up : suc height ≡ height + 1 = omega arith in
    is ∙ ap (λ h. segment_roots hashes (cover chosen (rest * 2 ^ h) ++ cover_within chosen (length hashes) h (rest * 2 ^ h))) up

up_covered : (chosen : ℕ → Bool) (count height rest : ℕ) (covered : Bool) → is_covered chosen count (height + 1) (rest * 2 ^ (height + 1)) ≡ covered → is_covered chosen count (suc height) (rest * 2 ^ suc height) ≡ covered
up_covered chosen count height rest covered e =
    let up : suc height ≡ height + 1 = omega arith in
    ap (λ h. is_covered chosen count h (rest * 2 ^ h)) up ∙ e

-- which stay two where not all of their places are chosen
pub ends_kept : (chosen : ℕ → Bool) (hashes roots : List (List ℕ)) (height rest : ℕ) → length hashes ≡ (rest + 1) * 2 ^ height → rest % 2 ≡ 1 → Ends chosen hashes roots height (rest * 2 ^ height)
    → is_covered chosen (length hashes) (height + 1) (rest / 2 * 2 ^ (height + 1)) ≡ false → Ends chosen hashes roots (height + 1) (rest / 2 * 2 ^ (height + 1))
ends_kept chosen hashes roots height rest all odd is e =
    up_next chosen hashes roots height (rest / 2) (apart_by chosen hashes roots height rest all odd is
    ∙ ap (λ last. segment_roots hashes (cover chosen (rest / 2 * 2 ^ suc height) ++ last))
    (sym (cover_parts chosen (length hashes) height (rest / 2 * 2 ^ suc height) (up_covered chosen (length hashes) height (rest / 2) false e))))

pub one_root : (chosen : ℕ → Bool) (count height low : ℕ) (hashes : List (List ℕ)) → is_covered chosen count height low ≡ true → segment_roots hashes (cover_within chosen count height low) ≡ segment_root hashes height (low / 2 ^ height) ∷ []
one_root chosen count height low hashes e = ap (segment_roots hashes) (cover_one chosen count height low e)

-- the root over a segment's two halves
node_at : (hashes : List (List ℕ)) (height low index : ℕ) → low ≡ index * 2 ^ suc height → low + 2 ^ suc height ≤ length hashes
    → node_digest (segment_root hashes height (low / 2 ^ height)) (segment_root hashes height ((low + 2 ^ height) / 2 ^ height)) ≡ segment_root hashes (suc height) (low / 2 ^ suc height)
node_at hashes height low index is within =
    let up : 2 ^ suc height ≡ 2 ^ height * 2 = pow-suc 2 height in
    let some : 0 < 2 ^ height = power_above height in
    let turned : index * (2 ^ height * 2) ≡ index * 2 * 2 ^ height = omega arith in
    let left : low ≡ index * 2 * 2 ^ height = is ∙ ap (λ n. index * n) up ∙ turned in
    let right : low + 2 ^ height ≡ (index * 2 + 1) * 2 ^ height = omega arith in
    ap₂ node_digest (root_at hashes height low (index * 2) left) (root_at hashes height (low + 2 ^ height) (index * 2 + 1) right)
    ∙ sym (root_at hashes (suc height) low index is ∙ root_node hashes height low (omega arith))

both_roots : (hashes front : List (List ℕ)) (first left right : List Segment) (x y : List ℕ) → front ≡ segment_roots hashes first → segment_roots hashes left ≡ x ∷ [] → segment_roots hashes right ≡ y ∷ []
    → segment_roots hashes (first ++ (left ++ right)) ≡ front ++ x ∷ y ∷ []
both_roots hashes front first left right x y is one two =
    map-append (λ segment. segment_root hashes segment.level segment.index) first (left ++ right)
    ∙ ap₂ (λ xs ys. xs ++ ys) (sym is) (map-append (λ segment. segment_root hashes segment.level segment.index) left right ∙ ap₂ (λ xs ys. xs ++ ys) one two)

-- and become one where all are
pub ends_joined : (chosen : ℕ → Bool) (hashes roots new : List (List ℕ)) (height rest : ℕ) → length hashes ≡ (rest + 1) * 2 ^ height → rest % 2 ≡ 1 → Ends chosen hashes roots height (rest * 2 ^ height)
    → is_covered chosen (length hashes) (height + 1) (rest / 2 * 2 ^ (height + 1)) ≡ true
    → ((front : List (List ℕ)) → (left right : List ℕ) → roots ≡ front ++ left ∷ right ∷ [] → new ≡ front ++ node_digest left right ∷ [])
    → Ends chosen hashes new (height + 1) (rest / 2 * 2 ^ (height + 1))
ends_joined chosen hashes roots new height rest all odd is e joined =
    let low = rest / 2 * 2 ^ suc height in
    let count = length hashes in
    let up : 2 ^ suc height ≡ 2 ^ height * 2 = pow-suc 2 height in
    let whole : is_covered chosen count (suc height) low ≡ true = up_covered chosen count height (rest / 2) true e in
    let within : low + 2 ^ suc height ≤ count = covered_within chosen count (suc height) low whole in
    let first : is_covered chosen count height low ≡ true = covered_part chosen count height low low whole (omega arith) (omega arith) in
    let second : is_covered chosen count height (low + 2 ^ height) ≡ true = covered_part chosen count height low (low + 2 ^ height) whole (omega arith) (omega arith) in
    let front = segment_roots hashes (cover chosen low) in
    let last : roots ≡ front ++ segment_root hashes height (low / 2 ^ height) ∷ segment_root hashes height ((low + 2 ^ height) / 2 ^ height) ∷ [] =
    apart_by chosen hashes roots height rest all odd is
    ∙ both_roots hashes front (cover chosen low) (cover_within chosen count height low) (cover_within chosen count height (low + 2 ^ height)) _ _ refl
    (one_root chosen count height low hashes first) (one_root chosen count height (low + 2 ^ height) hashes second) in
    up_next chosen hashes new height (rest / 2) (joined front _ _ last
    ∙ ap (λ root. front ++ root ∷ []) (node_at hashes height low (rest / 2) refl within)
    ∙ sym (map-append (λ segment. segment_root hashes segment.level segment.index) (cover chosen low) (cover_within chosen count (suc height) low)
    ∙ ap (λ xs. front ++ xs) (one_root chosen count (suc height) low hashes whole)))
