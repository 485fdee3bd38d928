-- The roots of a cover depend on the covered places alone.
use Rattle.std.proofs.Common.{◌≡◌, ℕ, zero, suc, ◌+◌, ◌-◌, ◌*◌, ◌^◌, ◌<◌, ◌≤◌, true, false, List, [], ◌∷◌, ◌++◌, length, map, get_or, refl, sym, ◌∙◌, ap, arith, min}
use native.Mathlib.Nat.{pow-suc}
use Rattle.std.specs.Prelude.{Bool, ◌/◌}
use Rattle.std.specs.List.{range_with_len}
use Rattle.std.proofs.lemmas.Bool.{le-leb}
use Rattle.sia_merkle.specs.Roots.{tree_root}
use Rattle.sia_merkle.specs.Segments.{cover, cover_within, is_covered, segment_root, segment_roots}
use Rattle.sia_merkle.proofs.Trees.{lt_pow, pow_up}
use Rattle.sia_cover.proofs.Covers.{power_above, cover_at, cover_none, cover_one, cover_past, covered_all, covered_at, covered_within}
use Rattle.sia_merkle.proofs.Windows.{root_at}
use Rattle.sia_cover.proofs.OwnJoins.{roots_parts}
use Rattle.sia_cover.proofs.OwnWholes.{neighbours}

-- each chosen place is there in a list of so many hashes
abbrev pub AreWithin : (ℕ → Bool) → ℕ → Type 0
AreWithin chosen count = (place : ℕ) → chosen place ≡ true → place < count

covered_too : (chosen : ℕ → Bool) (count other height low : ℕ) → AreWithin chosen other → is_covered chosen count height low ≡ true → is_covered chosen other height low ≡ true
covered_too chosen count other height low within e =
    let some = power_above height in
    let last : low + (2 ^ height - 1) < other = within (low + (2 ^ height - 1)) (covered_at chosen count height low (low + (2 ^ height - 1)) e (omega arith) (omega arith)) in
    let top : low + 2 ^ height ≤ other = omega arith in
    rw (le-leb _ _ top) (covered_all chosen count height low e)

both_ways : (first second : Bool) → (first ≡ true → second ≡ true) → (second ≡ true → first ≡ true) → first ≡ second
both_ways true second there back = sym (there refl)
both_ways false true there back = back refl
both_ways false false there back = refl

covered_same : (chosen : ℕ → Bool) (count other height low : ℕ) → AreWithin chosen count → AreWithin chosen other → is_covered chosen count height low ≡ is_covered chosen other height low
covered_same chosen count other height low within within' =
    both_ways (is_covered chosen count height low) (is_covered chosen other height low) (covered_too chosen count other height low within') (covered_too chosen other count height low within)

pub same_end : (chosen : ℕ → Bool) (count other low : ℕ) → is_covered chosen count 0 low ≡ is_covered chosen other 0 low → cover_within chosen count 0 low ≡ cover_within chosen other 0 low
unfolding cover_within
same_end chosen count other low same = rw same refl

same_by : (chosen : ℕ → Bool) (count other height low : ℕ) → is_covered chosen count (suc height) low ≡ is_covered chosen other (suc height) low
    → cover_within chosen count height low ≡ cover_within chosen other height low → cover_within chosen count height (low + 2 ^ height) ≡ cover_within chosen other height (low + 2 ^ height)
    → cover_within chosen count (suc height) low ≡ cover_within chosen other (suc height) low
unfolding cover_within
same_by chosen count other height low same left right = rw (same, left, right) refl

same_within : (chosen : ℕ → Bool) (count other height low : ℕ) → AreWithin chosen count → AreWithin chosen other → cover_within chosen count height low ≡ cover_within chosen other height low
same_within chosen count other zero low within within' = same_end chosen count other low (covered_same chosen count other 0 low within within')
same_within chosen count other (suc height) low within within' =
    same_by chosen count other height low (covered_same chosen count other (suc height) low within within') (same_within chosen count other height low within within')
    (same_within chosen count other height (low + 2 ^ height) within within')

-- a cover, from any height that the places fit
pub cover_any : (chosen : ℕ → Bool) (count height : ℕ) → count ≤ 2 ^ height → cover chosen count ≡ cover_within chosen count height 0
unfolding cover
cover_any chosen zero height fits = cover_past chosen 0 0 0 (omega arith) ∙ sym (cover_past chosen 0 height 0 (omega arith))
cover_any chosen (suc count) height fits = cover_at chosen (suc count) height (omega arith) fits

-- places that are there in lists of either length have one cover
pub cover_same : (chosen : ℕ → Bool) (count other : ℕ) → AreWithin chosen count → AreWithin chosen other → cover chosen count ≡ cover chosen other
cover_same chosen count other within within' =
    let first : count ≤ 2 ^ (other + count) = omega (arith, lt_pow count, pow_up other count) in
    let second : other ≤ 2 ^ (count + other) = omega (arith, lt_pow other, pow_up count other) in
    let swapped : other + count ≡ count + other = omega arith in
    cover_any chosen count (other + count) first ∙ ap (λ h. cover_within chosen count h 0) swapped ∙ same_within chosen count other (count + other) 0 within within' ∙ sym (cover_any chosen other (count + other) second)

-- lists that agree at the chosen places below a count
abbrev pub AgreeAt : (ℕ → Bool) → ℕ → List (List ℕ) → List (List ℕ) → Type 0
AgreeAt chosen count hashes other = (place : ℕ) → place < count → chosen place ≡ true → get_or hashes place [] ≡ get_or other place []

same_map : (f g : ℕ → List ℕ) (from count : ℕ) → ((place : ℕ) → from ≤ place → place < from + count → f place ≡ g place) → map f (range_with_len from count) ≡ map g (range_with_len from count)
same_map f g from zero each = refl
same_map f g from (suc count) each =
    ap (λ x. x ∷ map f (range_with_len (from + 1) count)) (each from (omega arith) (omega arith))
    ∙ ap (λ xs. g from ∷ xs) (same_map f g (from + 1) count (λ place first last. each place (omega arith) (omega arith)))

-- the root of a covered segment
segment_same : (chosen : ℕ → Bool) (count height low index : ℕ) (hashes other : List (List ℕ)) → low ≡ index * 2 ^ height → count ≤ length hashes → count ≤ length other → AgreeAt chosen count hashes other
    → is_covered chosen count height low ≡ true → segment_root hashes height (low / 2 ^ height) ≡ segment_root other height (low / 2 ^ height)
segment_same chosen count height low index hashes other aligned fits fits' agree e =
    let top : low + 2 ^ height ≤ count = covered_within chosen count height low e in
    root_at hashes height low index aligned
    ∙ ap (tree_root height) (sym (neighbours hashes low (2 ^ height) (omega arith))
    ∙ same_map (λ place. get_or hashes place []) (λ place. get_or other place []) low (2 ^ height) (λ place from to. agree place (omega arith) (covered_at chosen count height low place e from to))
    ∙ neighbours other low (2 ^ height) (omega arith))
    ∙ sym (root_at other height low index aligned)

roots_one : (chosen : ℕ → Bool) (count height low : ℕ) (hashes : List (List ℕ)) → is_covered chosen count height low ≡ true → segment_roots hashes (cover_within chosen count height low) ≡ segment_root hashes height (low / 2 ^ height) ∷ []
roots_one chosen count height low hashes e = ap (segment_roots hashes) (cover_one chosen count height low e)

roots_covered : (chosen : ℕ → Bool) (count height low index : ℕ) (hashes other : List (List ℕ)) → low ≡ index * 2 ^ height → count ≤ length hashes → count ≤ length other → AgreeAt chosen count hashes other
    → is_covered chosen count height low ≡ true → segment_roots hashes (cover_within chosen count height low) ≡ segment_roots other (cover_within chosen count height low)
roots_covered chosen count height low index hashes other aligned fits fits' agree e =
    roots_one chosen count height low hashes e ∙ ap (λ root. root ∷ []) (segment_same chosen count height low index hashes other aligned fits fits' agree e) ∙ sym (roots_one chosen count height low other e)

roots_end : (chosen : ℕ → Bool) (count low : ℕ) (hashes other : List (List ℕ)) → count ≤ length hashes → count ≤ length other → AgreeAt chosen count hashes other
    → (covered : Bool) → is_covered chosen count 0 low ≡ covered → segment_roots hashes (cover_within chosen count 0 low) ≡ segment_roots other (cover_within chosen count 0 low)
roots_end chosen count low hashes other fits fits' agree true e =
    let aligned : low ≡ low * 2 ^ 0 = omega arith in
    roots_covered chosen count 0 low low hashes other aligned fits fits' agree e
roots_end chosen count low hashes other fits fits' agree false e =
    ap (segment_roots hashes) (cover_none chosen count low e) ∙ sym (ap (segment_roots other) (cover_none chosen count low e))

roots_by : (chosen : ℕ → Bool) (count height low index : ℕ) (hashes other : List (List ℕ)) → low ≡ index * 2 ^ suc height → count ≤ length hashes → count ≤ length other → AgreeAt chosen count hashes other
    → ((at part : ℕ) → at ≡ part * 2 ^ height → segment_roots hashes (cover_within chosen count height at) ≡ segment_roots other (cover_within chosen count height at))
    → (covered : Bool) → is_covered chosen count (suc height) low ≡ covered → segment_roots hashes (cover_within chosen count (suc height) low) ≡ segment_roots other (cover_within chosen count (suc height) low)
roots_by chosen count height low index hashes other aligned fits fits' agree below true e = roots_covered chosen count (suc height) low index hashes other aligned fits fits' agree e
roots_by chosen count height low index hashes other aligned fits fits' agree below false e =
    let up : 2 ^ suc height ≡ 2 ^ height * 2 = pow-suc 2 height in
    let turned : index * (2 ^ height * 2) ≡ index * 2 * 2 ^ height = omega arith in
    let part : low ≡ index * 2 * 2 ^ height = aligned ∙ ap (λ n. index * n) up ∙ turned in
    let next : low + 2 ^ height ≡ (index * 2 + 1) * 2 ^ height = omega arith in
    roots_parts chosen count height low hashes e
    ∙ ap (λ roots. roots ++ segment_roots hashes (cover_within chosen count height (low + 2 ^ height))) (below low (index * 2) part)
    ∙ ap (λ roots. segment_roots other (cover_within chosen count height low) ++ roots) (below (low + 2 ^ height) (index * 2 + 1) next)
    ∙ sym (roots_parts chosen count height low other e)

roots_within : (chosen : ℕ → Bool) (count height low index : ℕ) (hashes other : List (List ℕ)) → low ≡ index * 2 ^ height → count ≤ length hashes → count ≤ length other → AgreeAt chosen count hashes other
    → segment_roots hashes (cover_within chosen count height low) ≡ segment_roots other (cover_within chosen count height low)
roots_within chosen count zero low index hashes other aligned fits fits' agree = roots_end chosen count low hashes other fits fits' agree (is_covered chosen count 0 low) refl
roots_within chosen count (suc height) low index hashes other aligned fits fits' agree =
    roots_by chosen count height low index hashes other aligned fits fits' agree (λ at part is. roots_within chosen count height at part hashes other is fits fits' agree) (is_covered chosen count (suc height) low) refl

-- lists that agree at the chosen places have the same roots of their cover
pub roots_same : (chosen : ℕ → Bool) (count : ℕ) (hashes other : List (List ℕ)) → count ≤ length hashes → count ≤ length other → AgreeAt chosen count hashes other
    → segment_roots hashes (cover chosen count) ≡ segment_roots other (cover chosen count)
unfolding cover
roots_same chosen count hashes other fits fits' agree =
    let aligned : 0 ≡ 0 * 2 ^ count = omega arith in
    roots_within chosen count count 0 0 hashes other aligned fits fits' agree

-- the same of lists of two lengths, where each chosen place is there in both
pub cover_roots_same : (chosen : ℕ → Bool) (hashes other : List (List ℕ)) → AreWithin chosen (length hashes) → AreWithin chosen (length other) → AgreeAt chosen (length hashes) hashes other
    → segment_roots hashes (cover chosen (length hashes)) ≡ segment_roots other (cover chosen (length other))
cover_roots_same chosen hashes other within within' agree =
    let least = min (length hashes) (length other) in
    let both : AreWithin chosen least = λ place here. (let first : place < length hashes = within place here in let second : place < length other = within' place here in omega arith) in
    ap (segment_roots hashes) (cover_same chosen (length hashes) least within both)
    ∙ roots_same chosen least hashes other (omega arith) (omega arith) (λ place below here. agree place (omega arith) here)
    ∙ ap (segment_roots other) (cover_same chosen least (length other) both within')
