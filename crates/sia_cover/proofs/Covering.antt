-- What the segments of a cover are, and which places they hold.
use Rattle.std.proofs.Common.{◌≡◌, ℕ, zero, suc, ◌+◌, ◌*◌, ◌^◌, ◌<◌, ◌≤◌, true, false, List, [], ◌∷◌, ◌++◌, refl, sym, ◌∙◌, ap, arith, inl, inr}
use native.Mathlib.Nat.{pow-suc}
use Rattle.std.specs.Prelude.{Bool, not, ◌&&◌, ◌⊎◌, ◌/◌, nat_le, nat_lt, cond, IsTrue}
use Rattle.std.specs.List.{list_all}
use Rattle.std.proofs.Math.Bool.{and-false}
use Rattle.std.proofs.lemmas.Bool.{le-leb, lt-leb, lt-ltb, le-ltb, ltb-true, ltb-false}
use Rattle.std.proofs.lemmas.List.Folds.{list_all-append}
use Rattle.std.proofs.lemmas.List.Sums.{sum_by-append}
use Rattle.sia_merkle.specs.Segments.{Segment, cover, cover_within, is_covered, others}
use Rattle.sia_merkle.proofs.Trees.{lt_pow}
use Rattle.sia_cover.specs.Covering.{is_largest, is_over, segments_over}
use Rattle.sia_cover.proofs.Covers.{cover_none, cover_one, cover_parts, covered_at, past_covered, power_above}
use Rattle.sia_cover.proofs.Joins.{count_cons}
use Rattle.sia_merkle.proofs.Windows.{left_aligned, mul_div, right_aligned}

index_is : (low height index : ℕ) → low ≡ index * 2 ^ height → low / 2 ^ height ≡ index
index_is low height index aligned = ap (λ n. n / 2 ^ height) aligned ∙ mul_div index (2 ^ height) (power_above height)

-- each segment is a largest one
largest_told : (chosen : ℕ → Bool) (count height index : ℕ) → is_covered chosen count height (index * 2 ^ height) ≡ true → is_covered chosen count (suc height) (index / 2 * 2 ^ suc height) ≡ false
    → is_largest chosen count (record { level = height; index = index }) ≡ true
largest_told chosen count height index e f = rw (e, f) refl

largest_one : (chosen : ℕ → Bool) (count height low index : ℕ) → low ≡ index * 2 ^ height → is_covered chosen count (suc height) (index / 2 * 2 ^ suc height) ≡ false → is_covered chosen count height low ≡ true
    → list_all (is_largest chosen count) (cover_within chosen count height low) ≡ true
largest_one chosen count height low index aligned f e =
    let here : is_covered chosen count height (index * 2 ^ height) ≡ true = ap (λ n. is_covered chosen count height n) (sym aligned) ∙ e in
    let told : is_largest chosen count (record { level = height; index = index }) ≡ true = largest_told chosen count height index here f in
    ap (list_all (is_largest chosen count)) (cover_one chosen count height low e) ∙ ap (λ n. list_all (is_largest chosen count) (record { level = height; index = n } ∷ [])) (index_is low height index aligned) ∙ rw told refl

largest_end : (chosen : ℕ → Bool) (count low index : ℕ) → low ≡ index * 2 ^ 0 → is_covered chosen count 1 (index / 2 * 2 ^ 1) ≡ false → (covered : Bool) → is_covered chosen count 0 low ≡ covered
    → list_all (is_largest chosen count) (cover_within chosen count 0 low) ≡ true
largest_end chosen count low index aligned f true e = largest_one chosen count 0 low index aligned f e
largest_end chosen count low index aligned f false e = ap (list_all (is_largest chosen count)) (cover_none chosen count low e)

largest_by : (chosen : ℕ → Bool) (count height low index : ℕ) → low ≡ index * 2 ^ suc height → is_covered chosen count (suc (suc height)) (index / 2 * 2 ^ suc (suc height)) ≡ false
    → ((at part : ℕ) → at ≡ part * 2 ^ height → is_covered chosen count (suc height) (part / 2 * 2 ^ suc height) ≡ false → list_all (is_largest chosen count) (cover_within chosen count height at) ≡ true)
    → (covered : Bool) → is_covered chosen count (suc height) low ≡ covered → list_all (is_largest chosen count) (cover_within chosen count (suc height) low) ≡ true
largest_by chosen count height low index aligned f below true e = largest_one chosen count (suc height) low index aligned f e
largest_by chosen count height low index aligned f below false e =
    let even : index * 2 / 2 ≡ index = omega arith in
    let odd : (index * 2 + 1) / 2 ≡ index = omega arith in
    let mixed : is_covered chosen count (suc height) (index * 2 ^ suc height) ≡ false = ap (λ n. is_covered chosen count (suc height) n) (sym aligned) ∙ e in
    let left = below low (index * 2) (left_aligned low height index aligned) (ap (λ n. is_covered chosen count (suc height) (n * 2 ^ suc height)) even ∙ mixed) in
    let right = below (low + 2 ^ height) (index * 2 + 1) (right_aligned low height index aligned) (ap (λ n. is_covered chosen count (suc height) (n * 2 ^ suc height)) odd ∙ mixed) in
    ap (list_all (is_largest chosen count)) (cover_parts chosen count height low e)
    ∙ list_all-append (is_largest chosen count) (cover_within chosen count height low) (cover_within chosen count height (low + 2 ^ height))
    ∙ ap (λ b. b && list_all (is_largest chosen count) (cover_within chosen count height (low + 2 ^ height))) left ∙ right

largest_within : (chosen : ℕ → Bool) (count height low index : ℕ) → low ≡ index * 2 ^ height → is_covered chosen count (suc height) (index / 2 * 2 ^ suc height) ≡ false
    → list_all (is_largest chosen count) (cover_within chosen count height low) ≡ true
largest_within chosen count zero low index aligned f = largest_end chosen count low index aligned f (is_covered chosen count 0 low) refl
largest_within chosen count (suc height) low index aligned f =
    largest_by chosen count height low index aligned f (λ at part is g. largest_within chosen count height at part is g) (is_covered chosen count (suc height) low) refl

pub all_largest : (chosen : ℕ → Bool) (count : ℕ) → list_all (is_largest chosen count) (cover chosen count) ≡ true
unfolding cover
all_largest chosen count =
    let aligned : 0 ≡ 0 * 2 ^ count = omega arith in
    let zero_up : 0 / 2 * 2 ^ suc count ≡ 0 = omega arith in
    let wide : count < 0 + 2 ^ suc count = omega (arith, lt_pow count, pow-suc 2 count) in
    largest_within chosen count count 0 0 aligned (ap (λ n. is_covered chosen count (suc count) n) zero_up ∙ past_covered chosen count (suc count) 0 wide)

-- which places a cover holds
over_one : (height low index place : ℕ) → low ≡ index * 2 ^ height → segments_over place (record { level = height; index = low / 2 ^ height } ∷ []) ≡ cond (nat_le low place && nat_lt place (low + 2 ^ height)) 1 0
over_one height low index place aligned =
    let from : index * 2 ^ height ≡ low = sym aligned in
    let to : (index + 1) * 2 ^ height ≡ low + 2 ^ height = omega arith in
    let segment : Segment = record { level = height; index = index } in
    let same : is_over place segment ≡ (nat_le low place && nat_lt place (low + 2 ^ height)) = ap (λ n. nat_le n place && nat_lt place ((index + 1) * 2 ^ height)) from ∙ ap (λ n. nat_le low place && nat_lt place n) to in
    let rest : cond (nat_le low place && nat_lt place (low + 2 ^ height)) 1 0 + 0 ≡ cond (nat_le low place && nat_lt place (low + 2 ^ height)) 1 0 = omega arith in
    ap (λ n. segments_over place (record { level = height; index = n } ∷ [])) (index_is low height index aligned)
    ∙ count_cons (is_over place) segment [] ∙ ap (λ b. cond b 1 0 + 0) same ∙ rest

over_both : (place : ℕ) (first second : List Segment) → segments_over place (first ++ second) ≡ segments_over place first + segments_over place second
over_both place first second = sum_by-append (λ segment. cond (is_over place segment) 1 0) first second

abbrev Outside : ℕ → ℕ → ℕ → Type 0
Outside place low width = (place < low) ⊎ (low + width ≤ place)

outside_one : (height low index place : ℕ) → low ≡ index * 2 ^ height → Outside place low (2 ^ height) → segments_over place (record { level = height; index = low / 2 ^ height } ∷ []) ≡ 0
outside_one height low index place aligned (inl before) = over_one height low index place aligned ∙ rw (lt-leb low place before) refl
outside_one height low index place aligned (inr behind) =
    over_one height low index place aligned ∙ ap (λ b. cond (nat_le low place && b) 1 0) (le-ltb place (low + 2 ^ height) behind) ∙ ap (λ b. cond b 1 0) (and-false (nat_le low place))

outside_left : (place low height : ℕ) → Outside place low (2 ^ suc height) → Outside place low (2 ^ height)
outside_left place low height (inl before) = inl before
outside_left place low height (inr behind) = inr (omega (arith, pow-suc 2 height))

outside_right : (place low height : ℕ) → Outside place low (2 ^ suc height) → Outside place (low + 2 ^ height) (2 ^ height)
outside_right place low height (inl before) = inl (omega arith)
outside_right place low height (inr behind) = inr (omega (arith, pow-suc 2 height))

outside_end : (chosen : ℕ → Bool) (count low index place : ℕ) → low ≡ index * 2 ^ 0 → Outside place low (2 ^ 0) → (covered : Bool) → is_covered chosen count 0 low ≡ covered → segments_over place (cover_within chosen count 0 low) ≡ 0
outside_end chosen count low index place aligned out true e = ap (segments_over place) (cover_one chosen count 0 low e) ∙ outside_one 0 low index place aligned out
outside_end chosen count low index place aligned out false e = ap (segments_over place) (cover_none chosen count low e)

outside_by : (chosen : ℕ → Bool) (count height low index place : ℕ) → low ≡ index * 2 ^ suc height → Outside place low (2 ^ suc height)
    → ((at part : ℕ) → at ≡ part * 2 ^ height → Outside place at (2 ^ height) → segments_over place (cover_within chosen count height at) ≡ 0)
    → (covered : Bool) → is_covered chosen count (suc height) low ≡ covered → segments_over place (cover_within chosen count (suc height) low) ≡ 0
outside_by chosen count height low index place aligned out below true e = ap (segments_over place) (cover_one chosen count (suc height) low e) ∙ outside_one (suc height) low index place aligned out
outside_by chosen count height low index place aligned out below false e =
    let left = below low (index * 2) (left_aligned low height index aligned) (outside_left place low height out) in
    let right = below (low + 2 ^ height) (index * 2 + 1) (right_aligned low height index aligned) (outside_right place low height out) in
    ap (segments_over place) (cover_parts chosen count height low e) ∙ over_both place (cover_within chosen count height low) (cover_within chosen count height (low + 2 ^ height)) ∙ (omega (arith, left, right))

outside_within : (chosen : ℕ → Bool) (count height low index place : ℕ) → low ≡ index * 2 ^ height → Outside place low (2 ^ height) → segments_over place (cover_within chosen count height low) ≡ 0
outside_within chosen count zero low index place aligned out = outside_end chosen count low index place aligned out (is_covered chosen count 0 low) refl
outside_within chosen count (suc height) low index place aligned out =
    outside_by chosen count height low index place aligned out (λ at part is o. outside_within chosen count height at part place is o) (is_covered chosen count (suc height) low) refl

inside_one : (chosen : ℕ → Bool) (count height low index place : ℕ) → low ≡ index * 2 ^ height → low ≤ place → place < low + 2 ^ height → is_covered chosen count height low ≡ true
    → segments_over place (cover_within chosen count height low) ≡ cond (chosen place) 1 0
inside_one chosen count height low index place aligned from to e =
    ap (segments_over place) (cover_one chosen count height low e) ∙ over_one height low index place aligned
    ∙ ap (λ b. cond (b && nat_lt place (low + 2 ^ height)) 1 0) (le-leb low place from) ∙ ap (λ b. cond b 1 0) (lt-ltb place (low + 2 ^ height) to)
    ∙ ap (λ b. cond b 1 0) (sym (covered_at chosen count height low place e from to))

unchosen_by : (chosen : ℕ → Bool) (count low : ℕ) → low < count → is_covered chosen count 0 low ≡ false → (here : Bool) → chosen low ≡ here → chosen low ≡ false
unchosen_by chosen count low within e false h = h
unchosen_by chosen count low within e true h =
    let top : low + 2 ^ 0 ≤ count = omega arith in
    let covered : is_covered chosen count 0 low ≡ true = rw (le-leb _ _ top, h) refl in
    absurd (let no : true ≡ false = sym covered ∙ e in cc)

inside_end : (chosen : ℕ → Bool) (count low index place : ℕ) → low ≡ index * 2 ^ 0 → place < count → low ≤ place → place < low + 2 ^ 0 → (covered : Bool) → is_covered chosen count 0 low ≡ covered
    → segments_over place (cover_within chosen count 0 low) ≡ cond (chosen place) 1 0
inside_end chosen count low index place aligned within from to true e = inside_one chosen count 0 low index place aligned from to e
inside_end chosen count low index place aligned within from to false e =
    let here : low ≡ place = omega arith in
    let out : chosen place ≡ false = ap chosen (sym here) ∙ unchosen_by chosen count low (omega arith) e (chosen low) refl in
    ap (segments_over place) (cover_none chosen count low e) ∙ ap (λ b. cond b 1 0) (sym out)

inside_by : (chosen : ℕ → Bool) (count height low index place : ℕ) → low ≡ index * 2 ^ suc height → low ≤ place → place < low + 2 ^ suc height
    → ((at part : ℕ) → at ≡ part * 2 ^ height → at ≤ place → place < at + 2 ^ height → segments_over place (cover_within chosen count height at) ≡ cond (chosen place) 1 0)
    → (covered : Bool) → is_covered chosen count (suc height) low ≡ covered → (before : Bool) → nat_lt place (low + 2 ^ height) ≡ before
    → segments_over place (cover_within chosen count (suc height) low) ≡ cond (chosen place) 1 0
inside_by chosen count height low index place aligned from to below true e before f = inside_one chosen count (suc height) low index place aligned from to e
inside_by chosen count height low index place aligned from to below false e true f =
    let first : place < low + 2 ^ height = ltb-true _ _ f in
    let left = below low (index * 2) (left_aligned low height index aligned) from first in
    let right = outside_within chosen count height (low + 2 ^ height) (index * 2 + 1) place (right_aligned low height index aligned) (inl first) in
    ap (segments_over place) (cover_parts chosen count height low e) ∙ over_both place (cover_within chosen count height low) (cover_within chosen count height (low + 2 ^ height)) ∙ (omega (arith, left, right))
inside_by chosen count height low index place aligned from to below false e false f =
    let second : low + 2 ^ height ≤ place = ltb-false _ _ f in
    let top : place < low + 2 ^ height + 2 ^ height = omega (arith, pow-suc 2 height) in
    let left = outside_within chosen count height low (index * 2) place (left_aligned low height index aligned) (inr second) in
    let right = below (low + 2 ^ height) (index * 2 + 1) (right_aligned low height index aligned) second top in
    ap (segments_over place) (cover_parts chosen count height low e) ∙ over_both place (cover_within chosen count height low) (cover_within chosen count height (low + 2 ^ height)) ∙ (omega (arith, left, right))

inside_within : (chosen : ℕ → Bool) (count height low index place : ℕ) → low ≡ index * 2 ^ height → place < count → low ≤ place → place < low + 2 ^ height
    → segments_over place (cover_within chosen count height low) ≡ cond (chosen place) 1 0
inside_within chosen count zero low index place aligned within from to = inside_end chosen count low index place aligned within from to (is_covered chosen count 0 low) refl
inside_within chosen count (suc height) low index place aligned within from to =
    inside_by chosen count height low index place aligned from to (λ at part is first last. inside_within chosen count height at part place is within first last)
    (is_covered chosen count (suc height) low) refl (nat_lt place (low + 2 ^ height)) refl

over_cover : (chosen : ℕ → Bool) (count place : ℕ) → place < count → segments_over place (cover chosen count) ≡ cond (chosen place) 1 0
unfolding cover
over_cover chosen count place within =
    let aligned : 0 ≡ 0 * 2 ^ count = omega arith in
    inside_within chosen count count 0 0 place aligned within (omega arith) (omega (arith, lt_pow count))

once_by : (chosen : ℕ → Bool) (count place : ℕ) → segments_over place (cover chosen count) ≡ cond (chosen place) 1 0 → (here : Bool) → chosen place ≡ here
    → (IsTrue (chosen place) × (segments_over place (cover chosen count) ≡ 1)) ⊎ (IsTrue (others chosen place) × (segments_over place (cover chosen count) ≡ 0))
once_by chosen count place is true e = inl (e, is ∙ ap (λ b. cond b 1 0) e)
once_by chosen count place is false e = inr (ap not e, is ∙ ap (λ b. cond b 1 0) e)

pub once : (chosen : ℕ → Bool) (count place : ℕ) → place < count
    → (IsTrue (chosen place) × (segments_over place (cover chosen count) ≡ 1)) ⊎ (IsTrue (others chosen place) × (segments_over place (cover chosen count) ≡ 0))
once chosen count place within = once_by chosen count place (over_cover chosen count place within) (chosen place) refl
