-- Laws of the cover of a set of places.
use Rattle.std.proofs.Common.{◌≡◌, ℕ, zero, suc, ◌+◌, ◌-◌, ◌*◌, ◌^◌, ◌<◌, ◌≤◌, true, false, List, [], ◌∷◌, ◌++◌, length, refl, sym, ◌∙◌, ap, arith, min, length-append, append-nil, append_assoc, suc-add, zero-add, drop, length-drop}
use native.Mathlib.Nat.{pow-suc}
use Rattle.std.specs.Prelude.{Bool, nat_le, ◌&&◌, ◌/◌, Result, Ok, Err, OnOk}
use Rattle.std.specs.List.{range_with_len, list_all}
use Rattle.std.proofs.lemmas.List.FromFn.{length-range_with_len, get_or-range_with_len}
use Rattle.std.proofs.lemmas.List.Folds.{list_all_at}
use Rattle.std.proofs.Math.Bool.{and-false}
use Rattle.std.proofs.lemmas.Bool.{lt-leb, leb-true, not-true}
use Rattle.std.proofs.lemmas.List.{map-append}
use Rattle.sia_merkle.specs.Segments.{Segment, cover, segment_root, segment_roots, cover_within, is_covered, others}
use Rattle.sia_merkle.proofs.Trees.{lt_pow, pow_up}

pub power_above : (height : ℕ) → 0 < 2 ^ height
power_above height = omega (arith, lt_pow height)

-- whether all numbers of a row pass a test
pub all_miss : (test : ℕ → Bool) (low count place : ℕ) → low ≤ place → place < low + count → test place ≡ false → list_all test (range_with_len low count) ≡ false
all_miss test low count place from to e =
    let back : low + (place - low) ≡ place = omega arith in
    let at : place - low < count = omega arith in
    list_all_at test (range_with_len low count) (place - low) 0 (omega (arith, length-range_with_len low count)) (ap test (get_or-range_with_len low count (place - low) 0 at ∙ back) ∙ e)

told_by : (test : ℕ → Bool) (low count place : ℕ) → list_all test (range_with_len low count) ≡ true → low ≤ place → place < low + count → (here : Bool) → test place ≡ here → test place ≡ true
told_by test low count place e from to true h = h
told_by test low count place e from to false h = absurd (let no : true ≡ false = sym e ∙ all_miss test low count place from to h in cc)

pub all_told : (test : ℕ → Bool) (low count place : ℕ) → list_all test (range_with_len low count) ≡ true → low ≤ place → place < low + count → test place ≡ true
all_told test low count place e from to = told_by test low count place e from to (test place) refl

pub all_pass : (test : ℕ → Bool) (low count : ℕ) → ((place : ℕ) → low ≤ place → place < low + count → test place ≡ true) → list_all test (range_with_len low count) ≡ true
all_pass test low zero each = refl
all_pass test low (suc count) each =
    rw (each low (omega arith) (omega arith)) (all_pass test (low + 1) count (λ place from to. each place (omega arith) (omega arith)))

-- which segments are covered
within_by : (top count : ℕ) (all within : Bool) → nat_le top count ≡ within → (within && all) ≡ true → top ≤ count
within_by top count all true f e = leb-true _ _ f
within_by top count all false f e = absurd (let no : false ≡ true = e in cc)

pub covered_within : (chosen : ℕ → Bool) (count height low : ℕ) → is_covered chosen count height low ≡ true → low + 2 ^ height ≤ count
covered_within chosen count height low e = within_by (low + 2 ^ height) count (list_all chosen (range_with_len low (2 ^ height))) (nat_le (low + 2 ^ height) count) refl e

right_of_and : (all within : Bool) → (within && all) ≡ true → all ≡ true
right_of_and all true e = e
right_of_and all false e = absurd (let no : false ≡ true = e in cc)

pub covered_all : (chosen : ℕ → Bool) (count height low : ℕ) → is_covered chosen count height low ≡ true → list_all chosen (range_with_len low (2 ^ height)) ≡ true
covered_all chosen count height low e = right_of_and (list_all chosen (range_with_len low (2 ^ height))) (nat_le (low + 2 ^ height) count) e

pub covered_at : (chosen : ℕ → Bool) (count height low place : ℕ) → is_covered chosen count height low ≡ true → low ≤ place → place < low + 2 ^ height → chosen place ≡ true
covered_at chosen count height low place e from to = all_told chosen low (2 ^ height) place (covered_all chosen count height low e) from to

pub not_covered : (chosen : ℕ → Bool) (count height low : ℕ) → chosen low ≡ false → is_covered chosen count height low ≡ false
not_covered chosen count height low e =
    let none : list_all chosen (range_with_len low (2 ^ height)) ≡ false = all_miss chosen low (2 ^ height) low (omega arith) (omega (arith, power_above height)) e in
    rw none (and-false (nat_le (low + 2 ^ height) count))

pub past_covered : (chosen : ℕ → Bool) (count height low : ℕ) → count < low + 2 ^ height → is_covered chosen count height low ≡ false
past_covered chosen count height low past = rw (lt-leb _ _ past) refl

-- the cover, case by case
pub cover_one : (chosen : ℕ → Bool) (count height low : ℕ) → is_covered chosen count height low ≡ true → cover_within chosen count height low ≡ record { level = height; index = low / 2 ^ height } ∷ []
unfolding cover_within
cover_one chosen count zero low e =
    let same : low ≡ low / 2 ^ 0 = omega arith in
    rw e (ap (λ n. record { level = 0; index = n } ∷ []) same)
cover_one chosen count (suc height) low e = rw e refl

pub cover_none : (chosen : ℕ → Bool) (count low : ℕ) → is_covered chosen count 0 low ≡ false → cover_within chosen count 0 low ≡ []
unfolding cover_within
cover_none chosen count low e = rw e refl

pub cover_parts : (chosen : ℕ → Bool) (count height low : ℕ) → is_covered chosen count (suc height) low ≡ false
    → cover_within chosen count (suc height) low ≡ cover_within chosen count height low ++ cover_within chosen count height (low + 2 ^ height)
unfolding cover_within
cover_parts chosen count height low e = rw e refl

-- where no place is chosen
pub cover_unchosen : (chosen : ℕ → Bool) (count height low : ℕ) → ((place : ℕ) → low ≤ place → place < low + 2 ^ height → chosen place ≡ false) → cover_within chosen count height low ≡ []
cover_unchosen chosen count zero low each = cover_none chosen count low (not_covered chosen count 0 low (each low (omega arith) (omega arith)))
cover_unchosen chosen count (suc height) low each =
    let up : 2 ^ suc height ≡ 2 ^ height * 2 = pow-suc 2 height in
    let here : low < low + 2 ^ suc height = omega (arith, power_above (suc height)) in
    rw (
      cover_parts chosen count height low (not_covered chosen count (suc height) low (each low (omega arith) here)),
      cover_unchosen chosen count height low (λ place from to. each place from (omega arith)),
      cover_unchosen chosen count height (low + 2 ^ height) (λ place from to. each place (omega arith) (omega arith)),
    ) refl

-- past the last place
pub cover_past : (chosen : ℕ → Bool) (count height low : ℕ) → count ≤ low → cover_within chosen count height low ≡ []
cover_past chosen count zero low past = cover_none chosen count low (past_covered chosen count 0 low (omega arith))
cover_past chosen count (suc height) low past =
    rw (
      cover_parts chosen count height low (past_covered chosen count (suc height) low (omega (arith, power_above (suc height)))),
      cover_past chosen count height low past,
      cover_past chosen count height (low + 2 ^ height) (omega arith),
    ) refl

-- where the right part is past the last place
pub cover_left : (chosen : ℕ → Bool) (count height low : ℕ) → count ≤ low + 2 ^ height → low < count → is_covered chosen count (suc height) low ≡ false
    → cover_within chosen count (suc height) low ≡ cover_within chosen count height low
cover_left chosen count height low past some e =
    cover_parts chosen count height low e ∙ ap (λ xs. cover_within chosen count height low ++ xs) (cover_past chosen count height (low + 2 ^ height) past) ∙ append-nil (cover_within chosen count height low)

bound_end : (chosen : ℕ → Bool) (count low : ℕ) (covered : Bool) → is_covered chosen count 0 low ≡ covered → length (cover_within chosen count 0 low) ≤ min (2 ^ 0) (count - low)
bound_end chosen count low true e =
    let within : low + 2 ^ 0 ≤ count = covered_within chosen count 0 low e in
    rw (cover_one chosen count 0 low e) (omega arith)
bound_end chosen count low false e = rw (cover_none chosen count low e) (omega arith)

bound_by : (chosen : ℕ → Bool) (count height low : ℕ) → length (cover_within chosen count height low) ≤ min (2 ^ height) (count - low)
    → length (cover_within chosen count height (low + 2 ^ height)) ≤ min (2 ^ height) (count - (low + 2 ^ height))
    → (covered : Bool) → is_covered chosen count (suc height) low ≡ covered → length (cover_within chosen count (suc height) low) ≤ min (2 ^ suc height) (count - low)
bound_by chosen count height low left right true e =
    let within : low + 2 ^ suc height ≤ count = covered_within chosen count (suc height) low e in
    let some : 0 < 2 ^ suc height = power_above (suc height) in
    rw (cover_one chosen count (suc height) low e) (omega arith)
bound_by chosen count height low left right false e =
    let up : 2 ^ suc height ≡ 2 ^ height * 2 = pow-suc 2 height in
    rw (cover_parts chosen count height low e) (omega (arith, length-append (cover_within chosen count height low) (cover_within chosen count height (low + 2 ^ height))))

-- as many segments as places at most
pub cover_bound : (chosen : ℕ → Bool) (count height low : ℕ) → length (cover_within chosen count height low) ≤ min (2 ^ height) (count - low)
cover_bound chosen count zero low = bound_end chosen count low (is_covered chosen count 0 low) refl
cover_bound chosen count (suc height) low =
    bound_by chosen count height low (cover_bound chosen count height low) (cover_bound chosen count height (low + 2 ^ height)) (is_covered chosen count (suc height) low) refl

-- any two heights that the places fit give one cover
cover_add : (chosen : ℕ → Bool) (count more height : ℕ) → 0 < count → count ≤ 2 ^ height → cover_within chosen count (more + height) 0 ≡ cover_within chosen count height 0
cover_add chosen count zero height some fits = rw zero-add refl
cover_add chosen count (suc more) height some fits =
    let low : count ≤ 0 + 2 ^ (more + height) = omega (arith, pow_up more height) in
    let wide : count < 0 + 2 ^ suc (more + height) = omega (arith, pow-suc 2 (more + height)) in
    rw suc-add (cover_left chosen count (more + height) 0 low some (past_covered chosen count (suc (more + height)) 0 wide) ∙ cover_add chosen count more height some fits)

pub cover_at : (chosen : ℕ → Bool) (count height : ℕ) → 0 < count → count ≤ 2 ^ height → cover chosen count ≡ cover_within chosen count height 0
unfolding cover
cover_at chosen count height some fits =
    let swapped : height + count ≡ count + height = omega arith in
    sym (cover_add chosen count height count some (omega (arith, lt_pow count))) ∙ ap (λ h. cover_within chosen count h 0) swapped ∙ cover_add chosen count count height some fits

-- where all places are in the tree, and none is chosen
pub cover_clear : (chosen : ℕ → Bool) (count height low : ℕ) → is_covered (others chosen) count height low ≡ true → cover_within chosen count height low ≡ []
cover_clear chosen count height low e =
    cover_unchosen chosen count height low (λ place from to. not-true (chosen place) (covered_at (others chosen) count height low place e from to))

pub cover_lower : (chosen : ℕ → Bool) (count height lower low : ℕ) → height ≡ suc lower → count ≤ low + 2 ^ lower → low < count → is_covered chosen count height low ≡ false
    → cover_within chosen count height low ≡ cover_within chosen count lower low
cover_lower chosen count height lower low is past some e =
    ap (λ h. cover_within chosen count h low) is ∙ cover_left chosen count lower low past some (ap (λ h. is_covered chosen count h low) (sym is) ∙ e)

pub cover_both : (chosen : ℕ → Bool) (count height lower low : ℕ) → height ≡ suc lower → is_covered chosen count height low ≡ false
    → cover_within chosen count height low ≡ cover_within chosen count lower low ++ cover_within chosen count lower (low + 2 ^ lower)
cover_both chosen count height lower low is e =
    ap (λ h. cover_within chosen count h low) is ∙ cover_parts chosen count lower low (ap (λ h. is_covered chosen count h low) (sym is) ∙ e)

pub cover_fits : (chosen : ℕ → Bool) (count lower low : ℕ) → low + 2 ^ lower < count
    → length (cover_within chosen count lower low) + length (cover_within chosen count lower (low + 2 ^ lower)) ≤ count - low
cover_fits chosen count lower low above = omega (arith, cover_bound chosen count lower low, cover_bound chosen count lower (low + 2 ^ lower))

-- a list with an element for each segment of a cover, cut where the left half's end
pub left_len : {X : Type 0} (chosen : ℕ → Bool) (count height lower low : ℕ) (xs : List X) → height ≡ suc lower → is_covered chosen count height low ≡ false
    → length xs ≡ length (cover_within chosen count height low) → length (cover_within chosen count lower low) ≤ length xs
left_len chosen count height lower low xs is e fits =
    let whole = ap length (cover_both chosen count height lower low is e) in
    omega (arith, whole, fits, length-append (cover_within chosen count lower low) (cover_within chosen count lower (low + 2 ^ lower)))

pub right_len : {X : Type 0} (chosen : ℕ → Bool) (count height lower low half left : ℕ) (xs right : List X) → height ≡ suc lower → is_covered chosen count height low ≡ false
    → length xs ≡ length (cover_within chosen count height low) → half ≡ 2 ^ lower → left ≡ length (cover_within chosen count lower low) → right ≡ drop left xs
    → length right ≡ length (cover_within chosen count lower (low + half))
right_len chosen count height lower low half left xs right is e fits half_is left_is right_is =
    let whole = ap length (cover_both chosen count height lower low is e) in
    let cut = ap length right_is in
    let rest : length right ≡ length (cover_within chosen count lower (low + 2 ^ lower)) =
    omega (arith, whole, fits, cut, length-drop left xs, length-append (cover_within chosen count lower low) (cover_within chosen count lower (low + 2 ^ lower))) in
    rest ∙ ap (λ h. length (cover_within chosen count lower (low + h))) (sym half_is)

-- the roots of two covers behind others
pub roots_both : (hashes roots : List (List ℕ)) (left right whole : List Segment) → whole ≡ left ++ right
    → (roots ++ segment_roots hashes left) ++ segment_roots hashes right ≡ roots ++ segment_roots hashes whole
roots_both hashes roots left right whole is =
    append_assoc roots (segment_roots hashes left) (segment_roots hashes right)
    ∙ ap (λ xs. roots ++ xs) (sym (ap (segment_roots hashes) is ∙ map-append (λ segment. segment_root hashes segment.level segment.index) left right))

pub on_ok : {T E P Q : Type 0} (result : Result T E) → (P → Q) → OnOk result P → OnOk result Q
on_ok (Ok x) f p = f p
on_ok (Err e) f p = tt
