-- The sectors of a contract and the tree over their roots, change by change.
use Rattle.std.proofs.Common.{◌≡◌, ℕ, suc, ◌+◌, ◌-◌, ◌<◌, ◌≤◌, Bool, true, List, [], ◌∷◌, ◌++◌, length, map, take, drop, slice_set, slice_index_or, refl, sym, ap, ◌∙◌, min, arith, length-append, length-drop, length-take, length-set}
use Rattle.std.specs.Prelude.{◌&&◌}
use Rattle.std.specs.List.{list_all}
use Rattle.std.proofs.Math.ListN.{get_or, get_or-map, set}
use Rattle.std.proofs.lemmas.List.{drop_more, map-set, take-take, take-map, length-map}
use Rattle.sia_diff.specs.declared.steps.DiffStep.{DiffStep}
use Rattle.sia_diff.specs.DiffSteps.{counted_steps, count_after_step, step_fits}
use Rattle.sia_diff.proofs.Counts.{fits_cons, left_of_and, right_of_and}
use Rattle.sia_records.specs.declared.change.Change.{Change}
use Rattle.sia_records.specs.declared.change.Change.TheVariants as changes
use Rattle.sia_records.specs.Stored.{Stored, no_sector, step_of, stored_after, stored_after_one}

-- the roots of sectors
abbrev pub roots : List Stored → List (List ℕ)
roots sectors = map (λ (sector : Stored). sector.root) sectors

-- whether steps fit for so many hashes
abbrev pub fit_for : ℕ → List DiffStep → Bool
fit_for count steps = list_all (λ counted. step_fits counted.count counted.step) (counted_steps count steps)

-- one hash fewer
pub one_fewer : (all now : List (List ℕ)) (i : ℕ) → i < length all → now ≡ take (length all - i) all → take (length now - 1) now ≡ take (length all - (i + 1)) all
one_fewer all now i within is =
    let len : length now ≡ length all - i = ap length is ∙ (omega (arith, length-take (length all - i) all)) in
    let left : length now - 1 ≡ length all - (i + 1) = omega arith in
    let less : length all - (i + 1) ≤ length all - i = omega arith in
    ap (λ n. take n now) left ∙ ap (take (length all - (i + 1))) is ∙ take-take (length all - (i + 1)) (length all - i) all less

-- how many are left
pub some_left : (all now : List (List ℕ)) (i fewer : ℕ) → i < fewer → fewer ≤ length all → now ≡ take (length all - i) all → 1 ≤ length now
some_left all now i fewer within enough is = omega (arith, ap length is, length-take (length all - i) all)

-- roots in each other's place
pub swapped : (sectors : List Stored) (one other : ℕ) → slice_set (slice_set (roots sectors) one (slice_index_or (roots sectors) other [])) other (slice_index_or (roots sectors) one []) ≡ roots (slice_set (slice_set sectors one (slice_index_or sectors other no_sector)) other (slice_index_or sectors one no_sector))
swapped sectors one other =
    let there = get_or-map (λ (sector : Stored). sector.root) sectors one no_sector in
    let here = get_or-map (λ (sector : Stored). sector.root) sectors other no_sector in
    sym (map-set (λ (sector : Stored). sector.root) (slice_set sectors one (slice_index_or sectors other no_sector)) other (slice_index_or sectors one no_sector)
    ∙ (rw (map-set (λ (sector : Stored). sector.root) sectors one (slice_index_or sectors other no_sector), ← there, ← here) refl))

-- how many sectors there are after one change
pub length_one : (sectors : List Stored) (one : Change) → step_fits (length sectors) (step_of one) ≡ true → length (stored_after_one sectors one) ≡ count_after_step (length sectors) (step_of one)
length_one sectors (changes.Append root slot) fits = length-append sectors (record { root = root; slot = slot } ∷ [])
length_one sectors (changes.Trim fewer) fits = omega (arith, length-take (length sectors - fewer) sectors)
length_one sectors (changes.Swap one other) fits = length-set (set sectors one (get_or sectors other no_sector)) other (get_or sectors one no_sector) ∙ length-set sectors one (get_or sectors other no_sector)
length_one sectors (changes.Set place root slot) fits = length-set sectors place (record { root = root; slot = slot })

-- the changes that are left, after one more
pub next_change : (sectors : List Stored) (all : List Change) (i : ℕ) (d : Change) → i < length all → stored_after sectors (drop i all) ≡ stored_after (stored_after_one sectors (get_or all i d)) (drop (i + 1) all)
unfolding stored_after
next_change sectors all i d within = ap (stored_after sectors) (drop_more all i d within)

none_left : (sectors : List Stored) (all : List Change) → length all ≡ 0 → stored_after sectors all ≡ sectors
unfolding stored_after
none_left sectors [] none = refl
none_left sectors (one ∷ others) none = absurd (let some : 0 < length (one ∷ others) = omega arith in omega arith)

-- none is left
pub changes_done : (sectors : List Stored) (all : List Change) (i : ℕ) → length all ≤ i → stored_after sectors (drop i all) ≡ sectors
changes_done sectors all i past = none_left sectors (drop i all) (omega (arith, length-drop i all))

steps_left : (count : ℕ) (all : List Change) (i : ℕ) (d : Change) → i < length all
    → fit_for count (map step_of (drop i all)) ≡ (step_fits count (step_of (get_or all i d)) && fit_for (count_after_step count (step_of (get_or all i d))) (map step_of (drop (i + 1) all)))
steps_left count all i d within = ap (λ rest. fit_for count (map step_of rest)) (drop_more all i d within) ∙ fits_cons count (step_of (get_or all i d)) (map step_of (drop (i + 1) all))

-- where all changes that are left fit, the next one does
pub change_fits : (count : ℕ) (all : List Change) (i : ℕ) (d : Change) → i < length all → fit_for count (map step_of (drop i all)) ≡ true → step_fits count (step_of (get_or all i d)) ≡ true
change_fits count all i d within fits = left_of_and _ (fit_for (count_after_step count (step_of (get_or all i d))) (map step_of (drop (i + 1) all))) (sym (steps_left count all i d within) ∙ fits)

-- and those behind it do after it
pub others_fit : (sectors now : List Stored) (all : List Change) (i : ℕ) (d : Change) → i < length all → fit_for (length sectors) (map step_of (drop i all)) ≡ true → now ≡ stored_after_one sectors (get_or all i d) → fit_for (length now) (map step_of (drop (i + 1) all)) ≡ true
others_fit sectors now all i d within fits is =
    let here : step_fits (length sectors) (step_of (get_or all i d)) ≡ true = change_fits (length sectors) all i d within fits in
    let count : length now ≡ count_after_step (length sectors) (step_of (get_or all i d)) = ap length is ∙ length_one sectors (get_or all i d) here in
    ap (λ n. fit_for n (map step_of (drop (i + 1) all))) count ∙ right_of_and (step_fits (length sectors) (step_of (get_or all i d))) _ (sym (steps_left (length sectors) all i d within) ∙ fits)

-- fewer roots
pub trimmed : (sectors : List Stored) (fewer : ℕ) → take (length (roots sectors) - fewer) (roots sectors) ≡ roots (take (length sectors - fewer) sectors)
trimmed sectors fewer = rw (length-map sectors (λ (sector : Stored). sector.root)) (take-map (λ (sector : Stored). sector.root) (length sectors - fewer) sectors)
