-- How often places are touched, step by step.
use Rattle.std.proofs.Common.{◌≡◌, ℕ, zero, suc, ◌+◌, ◌<◌, ◌≤◌, true, false, List, [], ◌∷◌, ◌++◌, length, drop, get_or, refl, sym, ◌∙◌, ap, arith, min, max, zero-add, length-drop, append-nil}
use Rattle.std.specs.Prelude.{Bool, ◌&&◌, cond}
use Rattle.std.specs.List.{range_with_len, list_all, filter}
use Rattle.std.proofs.lemmas.Bool.Decides.{nat_tests}
use Rattle.std.proofs.lemmas.List.{drop_more}
use Rattle.std.proofs.lemmas.List.Elements.{filter-append}
use Rattle.sia_merkle.specs.Segments.{places_between}
use Rattle.sia_cover.proofs.Joins.{count_cons, range_parts}
use Rattle.sia_diff.specs.declared.steps.DiffStep.{DiffStep}
use Rattle.sia_diff.specs.DiffSteps.{CountedStep, counted_steps, count_after_step, step_touches, step_fits, touch_count}

pub touches_cons : (count : ℕ) (one : DiffStep) (steps : List DiffStep) (place : ℕ)
    → touch_count count (one ∷ steps) place ≡ cond (step_touches count one place) 1 0 + touch_count (count_after_step count one) steps place
unfolding touch_count counted_steps
touches_cons count one steps place = count_cons (λ (counted : CountedStep). step_touches counted.count counted.step place) (record { count = count; step = one }) (counted_steps (count_after_step count one) steps)

pub fits_cons : (count : ℕ) (one : DiffStep) (steps : List DiffStep)
    → list_all (λ counted. step_fits counted.count counted.step) (counted_steps count (one ∷ steps)) ≡ (step_fits count one && list_all (λ counted. step_fits counted.count counted.step) (counted_steps (count_after_step count one) steps))
unfolding counted_steps
fits_cons count one steps = refl

-- at the step at an index
touches_next : (count : ℕ) (steps : List DiffStep) (i : ℕ) (d : DiffStep) (place : ℕ) → i < length steps
    → touch_count count (drop i steps) place ≡ cond (step_touches count (get_or steps i d) place) 1 0 + touch_count (count_after_step count (get_or steps i d)) (drop (i + 1) steps) place
touches_next count steps i d place within = ap (λ rest. touch_count count rest place) (drop_more steps i d within) ∙ touches_cons count (get_or steps i d) (drop (i + 1) steps) place

fits_next : (count : ℕ) (steps : List DiffStep) (i : ℕ) (d : DiffStep) → i < length steps
    → list_all (λ counted. step_fits counted.count counted.step) (counted_steps count (drop i steps))
    ≡ (step_fits count (get_or steps i d) && list_all (λ counted. step_fits counted.count counted.step) (counted_steps (count_after_step count (get_or steps i d)) (drop (i + 1) steps)))
fits_next count steps i d within = ap (λ rest. list_all (λ counted. step_fits counted.count counted.step) (counted_steps count rest)) (drop_more steps i d within) ∙ fits_cons count (get_or steps i d) (drop (i + 1) steps)

pub fits_stop : (count : ℕ) (steps : List DiffStep) (i : ℕ) (d : DiffStep) → i < length steps → step_fits count (get_or steps i d) ≡ false
    → list_all (λ counted. step_fits counted.count counted.step) (counted_steps count (drop i steps)) ≡ false
fits_stop count steps i d within e = fits_next count steps i d within ∙ rw e refl

pub fits_more : (count next : ℕ) (steps : List DiffStep) (i : ℕ) (d : DiffStep) → i < length steps → step_fits count (get_or steps i d) ≡ true → next ≡ count_after_step count (get_or steps i d)
    → list_all (λ counted. step_fits counted.count counted.step) (counted_steps count (drop i steps)) ≡ list_all (λ counted. step_fits counted.count counted.step) (counted_steps next (drop (i + 1) steps))
fits_more count next steps i d within e is =
    fits_next count steps i d within ∙ ap (λ b. b && list_all (λ counted. step_fits counted.count counted.step) (counted_steps (count_after_step count (get_or steps i d)) (drop (i + 1) steps))) e
    ∙ ap (λ n. list_all (λ counted. step_fits counted.count counted.step) (counted_steps n (drop (i + 1) steps))) (sym is)

pub left_of_and : (here rest : Bool) → (here && rest) ≡ true → here ≡ true
left_of_and true rest e = refl
left_of_and false rest e = e

pub right_of_and : (here rest : Bool) → (here && rest) ≡ true → rest ≡ true
right_of_and true rest e = e
right_of_and false rest e = absurd (let no : false ≡ true = e in cc)

-- where all steps that are left fit, the next one does
pub fits_here : (count : ℕ) (steps : List DiffStep) (i : ℕ) (d : DiffStep) → i < length steps → list_all (λ counted. step_fits counted.count counted.step) (counted_steps count (drop i steps)) ≡ true
    → step_fits count (get_or steps i d) ≡ true
fits_here count steps i d within e =
    left_of_and (step_fits count (get_or steps i d)) (list_all (λ counted. step_fits counted.count counted.step) (counted_steps (count_after_step count (get_or steps i d)) (drop (i + 1) steps))) (sym (fits_next count steps i d within) ∙ e)

fits_none : (count : ℕ) (steps : List DiffStep) → length steps ≡ 0 → list_all (λ counted. step_fits counted.count counted.step) (counted_steps count steps) ≡ true
unfolding counted_steps
fits_none count [] none = refl
fits_none count (one ∷ steps) none = absurd (let some : 0 < length (one ∷ steps) = omega arith in omega arith)

pub fits_done : (count : ℕ) (steps : List DiffStep) (i : ℕ) → length steps ≤ i → list_all (λ counted. step_fits counted.count counted.step) (counted_steps count (drop i steps)) ≡ true
fits_done count steps i past = fits_none count (drop i steps) (omega (arith, length-drop i steps))

touches_none : (count : ℕ) (steps : List DiffStep) (place : ℕ) → length steps ≡ 0 → touch_count count steps place ≡ 0
unfolding touch_count counted_steps
touches_none count [] place none = refl
touches_none count (one ∷ steps) place none = absurd (let some : 0 < length (one ∷ steps) = omega arith in omega arith)

pub touches_done : (count : ℕ) (steps : List DiffStep) (i place : ℕ) → length steps ≤ i → touch_count count (drop i steps) place ≡ 0
touches_done count steps i place past = touches_none count (drop i steps) place (omega (arith, length-drop i steps))

-- what was counted before a step and after it
pub counted_more : (before now count next : ℕ) (steps : List DiffStep) (i : ℕ) (d : DiffStep) (place : ℕ) → i < length steps
    → now ≡ min 2 (before + cond (step_touches count (get_or steps i d) place) 1 0) → next ≡ count_after_step count (get_or steps i d)
    → min 2 (now + touch_count next (drop (i + 1) steps) place) ≡ min 2 (before + touch_count count (drop i steps) place)
counted_more before now count next steps i d place within more is =
    let here : ℕ = cond (step_touches count (get_or steps i d) place) 1 0 in
    let rest : touch_count count (drop i steps) place ≡ cond (step_touches count (get_or steps i d) place) 1 0 + touch_count next (drop (i + 1) steps) place =
    touches_next count steps i d place within ∙ ap (λ n. cond (step_touches count (get_or steps i d) place) 1 0 + touch_count n (drop (i + 1) steps) place) (sym is) in
    omega arith

-- a part that ends where the list does
pub part_end : (start end len stop at place : ℕ) → place < len → start ≤ at → at ≤ max start stop → stop ≤ at → stop ≡ min end len
    → places_between start at place ≡ places_between start end place
part_end start end len stop at place within from top done is = grind (arith, nat_tests)

pub filter_next : (test : ℕ → Bool) (i : ℕ) → filter test (range_with_len 0 (i + 1)) ≡ filter test (range_with_len 0 i) ++ filter test (i ∷ [])
filter_next test i =
    ap (filter test) (range_parts 0 i 1) ∙ filter-append test (range_with_len 0 i) (range_with_len (0 + i) 1) ∙ ap (λ n. filter test (range_with_len 0 i) ++ filter test (n ∷ [])) (zero-add i)

pub filter_one : (test : ℕ → Bool) (i : ℕ) → test i ≡ true → filter test (range_with_len 0 (i + 1)) ≡ filter test (range_with_len 0 i) ++ i ∷ []
filter_one test i e = filter_next test i ∙ rw e refl

pub filter_not : (test : ℕ → Bool) (i : ℕ) → test i ≡ false → filter test (range_with_len 0 (i + 1)) ≡ filter test (range_with_len 0 i)
filter_not test i e = filter_next test i ∙ rw e (append-nil (filter test (range_with_len 0 i)))

pub counted_done : (now count total : ℕ) (steps : List DiffStep) (i place : ℕ) → length steps ≤ i → now < 3 → min 2 (now + touch_count count (drop i steps) place) ≡ min 2 total → now ≡ min 2 total
counted_done now count total steps i place past few e =
    let none : touch_count count (drop i steps) place ≡ 0 = touches_done count steps i place past in
    omega arith

-- tests that agree at each place of a row keep the same places
filter_by : (first second : ℕ → Bool) (low len : ℕ) → filter first (range_with_len (low + 1) len) ≡ filter second (range_with_len (low + 1) len)
    → first low ≡ second low → (here : Bool) → second low ≡ here → filter first (range_with_len low (suc len)) ≡ filter second (range_with_len low (suc len))
filter_by first second low len rest same true e =
    let first_e : first low ≡ true = same ∙ e in
    rw (first_e, e) (ap (λ xs. low ∷ xs) rest)
filter_by first second low len rest same false e =
    let first_e : first low ≡ false = same ∙ e in
    rw (first_e, e) rest

pub filter_row : (first second : ℕ → Bool) (low len : ℕ) → ((place : ℕ) → low ≤ place → place < low + len → first place ≡ second place)
    → filter first (range_with_len low len) ≡ filter second (range_with_len low len)
filter_row first second low zero each = refl
filter_row first second low (suc len) each =
    filter_by first second low len (filter_row first second (low + 1) len (λ place from to. each place (omega arith) (omega arith))) (each low (omega arith) (omega arith)) (second low) refl
