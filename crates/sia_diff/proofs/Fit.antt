-- When steps are fit, test by test.
use Rattle.std.proofs.Common.{◌≡◌, ℕ, ◌<◌, ◌≤◌, true, false, List, [], ◌∷◌, length, get_or, refl, ◌∙◌, ap, arith, min}
use Rattle.std.specs.Prelude.{Bool, ◌&&◌, nat_le, nat_lt, nat_eq, Result, Ok, Err, IfOk}
use Rattle.std.specs.List.{range_with_len, list_all, filter}
use Rattle.std.proofs.Math.Bool.{and-false}
use Rattle.std.proofs.lemmas.Bool.{le-leb, lt-leb, leb-true, ltb-true}
use Rattle.std.proofs.lemmas.Bool.Decides.{nat_tests}
use Rattle.sia_diff.specs.declared.steps.DiffStep.{DiffStep}
use Rattle.sia_diff.specs.declared.steps.DiffStep.TheVariants as step
use Rattle.sia_diff.specs.Marks.{HasCounts, is_counted, is_counted_once}
use Rattle.sia_diff.specs.DiffSteps.{counted_steps, step_fits, touch_count, is_touched, touched_places, is_alone, is_fit}
use Rattle.sia_diff.proofs.Counts.{filter_row, left_of_and, right_of_and}

pub too_many : (count : ℕ) (steps : List DiffStep) → 65536 < count → is_fit count steps ≡ false
unfolding is_fit
too_many count steps more = rw (lt-leb count 65536 more) refl

pub not_done : (count : ℕ) (steps : List DiffStep) → list_all (λ counted. step_fits counted.count counted.step) (counted_steps count steps) ≡ false → is_fit count steps ≡ false
unfolding is_fit
not_done count steps e = rw (e, and-false (nat_le count 65536)) refl

once_same : (counted times : ℕ) → counted ≡ min 2 times → nat_eq counted 1 ≡ nat_eq times 1
once_same counted times is = grind (arith, nat_tests)

some_same : (counted times : ℕ) → counted ≡ min 2 times → nat_lt 0 counted ≡ nat_lt 0 times
some_same counted times is = grind (arith, nat_tests)

alone_by : (counts : List ℕ) (count : ℕ) (steps : List DiffStep) (i : ℕ) → HasCounts counts count steps → (old : Bool) → nat_lt i count ≡ old
    → (nat_lt i (length counts) && nat_eq (get_or counts i 0) 1) ≡ (nat_lt i count && nat_eq (touch_count count steps i) 1)
alone_by counts count steps i has true e = rw (has.0, once_same (get_or counts i 0) (touch_count count steps i) (has.1 i (ltb-true _ _ e))) refl
alone_by counts count steps i has false e = rw (has.0, e) refl

alone_one : (counts : List ℕ) (count : ℕ) (steps : List DiffStep) → HasCounts counts count steps → (one : DiffStep) → is_counted_once counts one ≡ is_alone count steps one
alone_one counts count steps has (step.Append hash) = refl
alone_one counts count steps has (step.Trim fewer) = refl
alone_one counts count steps has (step.Swap i j) = refl
alone_one counts count steps has (step.Set i hash) = alone_by counts count steps i has (nat_lt i count) refl

pub alone_all : (counts : List ℕ) (count : ℕ) (steps : List DiffStep) → HasCounts counts count steps → (some : List DiffStep) → list_all (is_counted_once counts) some ≡ list_all (is_alone count steps) some
alone_all counts count steps has [] = refl
alone_all counts count steps has (one ∷ some) =
    ap (λ b. b && list_all (is_counted_once counts) some) (alone_one counts count steps has one) ∙ ap (λ b. is_alone count steps one && b) (alone_all counts count steps has some)

pub not_alone : (count : ℕ) (steps : List DiffStep) → list_all (is_alone count steps) steps ≡ false → is_fit count steps ≡ false
unfolding is_fit
not_alone count steps e = rw (e, and-false (nat_le count 65536 && list_all (λ counted. step_fits counted.count counted.step) (counted_steps count steps))) refl

pub places_same : (counts : List ℕ) (count : ℕ) (steps : List DiffStep) → HasCounts counts count steps → filter (is_counted counts) (range_with_len 0 (length counts)) ≡ touched_places count steps
unfolding touched_places is_touched
places_same counts count steps has =
    ap (λ n. filter (is_counted counts) (range_with_len 0 n)) has.0
    ∙ filter_row (is_counted counts) (is_touched count steps) 0 count (λ place from to. some_same (get_or counts place 0) (touch_count count steps place) (has.1 place (omega arith)))

pub too_touched : (count : ℕ) (steps : List DiffStep) → 1024 < length (touched_places count steps) → is_fit count steps ≡ false
unfolding is_fit
too_touched count steps more = rw (lt-leb (length (touched_places count steps)) 1024 more) (and-false _)

pub all_fit : (count : ℕ) (steps : List DiffStep) → count ≤ 65536 → list_all (λ counted. step_fits counted.count counted.step) (counted_steps count steps) ≡ true → list_all (is_alone count steps) steps ≡ true
    → length (touched_places count steps) ≤ 1024 → is_fit count steps ≡ true
unfolding is_fit
all_fit count steps fits done alone few = rw (le-leb count 65536 fits, done, alone, le-leb (length (touched_places count steps)) 1024 few) refl

-- what fit steps are
pub fit_count : (count : ℕ) (steps : List DiffStep) → is_fit count steps ≡ true → count ≤ 65536
unfolding is_fit
fit_count count steps e = leb-true _ _ (left_of_and _ _ (left_of_and _ _ (left_of_and _ _ e)))

pub fit_done : (count : ℕ) (steps : List DiffStep) → is_fit count steps ≡ true → list_all (λ counted. step_fits counted.count counted.step) (counted_steps count steps) ≡ true
unfolding is_fit
fit_done count steps e = right_of_and _ _ (left_of_and _ _ (left_of_and _ _ e))

pub if_ok : {T E : Type 0} (P Q : T → Type 0) (result : Result T E) → ((x : T) → P x → Q x) → IfOk result P → IfOk result Q
if_ok P Q (Ok x) f p = f x p
if_ok P Q (Err e) f p = tt
