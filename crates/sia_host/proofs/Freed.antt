-- The slots of a contract's sectors, change by change, and those that are freed.
use Rattle.std.proofs.Common.{◌≡◌, ℕ, ◌+◌, ◌-◌, ◌<◌, ◌≤◌, true, List, [], ◌∷◌, ◌++◌, length, map, drop, get_or, set, slice_set, slice_index_or, refl, sym, ap, ◌∙◌, arith, append_assoc, append-nil, length-append, length-drop, length-take, length-set}
use Rattle.std.proofs.Math.ListN.{get_or-map}
use Rattle.std.proofs.lemmas.List.{drop-map, drop_more, length-map, map-append, map-set, take-map}
use Rattle.sia_diff.specs.DiffSteps.{count_after_step, step_fits}
use Rattle.sia_diff.proofs.Counts.{right_of_and}
use Rattle.sia_diff.proofs.Counts.{fits_cons}
use Rattle.sia_records.specs.declared.change.Change.{Change}
use Rattle.sia_records.specs.declared.change.Change.TheVariants as changes
use Rattle.sia_records.specs.Stored.{Stored, no_sector, step_of, stored_after_one}
use Rattle.sia_kept.proofs.Changed.{change_fits, fit_for}
use Rattle.sia_host.specs.Freeing.{freed_by, freed_in, slots_after_one}
use Rattle.sia_host.specs.Writing.{dropped, dropped_by, sector_slot}

-- the slots follow the sectors

slots_after : (sectors : List Stored) (one : Change) → map sector_slot (stored_after_one sectors one) ≡ slots_after_one (map sector_slot sectors) one
slots_after sectors (changes.Append root slot) = map-append sector_slot sectors (record { root = root; slot = slot } ∷ [])
slots_after sectors (changes.Trim fewer) = rw (length-map sectors sector_slot) (sym (take-map sector_slot (length sectors - fewer) sectors))
slots_after sectors (changes.Swap one other) =
    let there = get_or-map sector_slot sectors one no_sector in
    let here = get_or-map sector_slot sectors other no_sector in
    map-set sector_slot (slice_set sectors one (slice_index_or sectors other no_sector)) other (slice_index_or sectors one no_sector)
    ∙ (rw (map-set sector_slot sectors one (slice_index_or sectors other no_sector), ← there, ← here) refl)
slots_after sectors (changes.Set place root slot) = map-set sector_slot sectors place (record { root = root; slot = slot })

-- as do those that one change frees
freed_one : (sectors : List Stored) (one : Change) → dropped_by sectors one ≡ freed_by (map sector_slot sectors) one
freed_one sectors (changes.Append root slot) = refl
freed_one sectors (changes.Trim fewer) = rw (length-map sectors sector_slot) (sym (drop-map sector_slot (length sectors - fewer) sectors))
freed_one sectors (changes.Swap one other) = refl
freed_one sectors (changes.Set place root slot) = ap (λ s. s ∷ []) (sym (get_or-map sector_slot sectors place no_sector))

-- and those that all free
pub freed_all : (sectors : List Stored) (all : List Change) → dropped sectors all ≡ freed_in (map sector_slot sectors) all
unfolding freed_in
freed_all sectors [] = refl
freed_all sectors (one ∷ others) =
    ap (λ slots. slots ++ dropped (stored_after_one sectors one) others) (freed_one sectors one)
    ∙ ap (λ slots. freed_by (map sector_slot sectors) one ++ slots) (freed_all (stored_after_one sectors one) others ∙ ap (λ slots. freed_in slots others) (slots_after sectors one))

-- one change more

-- how many slots there are after one change
slots_counted : (slots : List ℕ) (one : Change) → step_fits (length slots) (step_of one) ≡ true → length (slots_after_one slots one) ≡ count_after_step (length slots) (step_of one)
slots_counted slots (changes.Append root slot) fits = length-append slots (slot ∷ [])
slots_counted slots (changes.Trim fewer) fits = omega (arith, length-take (length slots - fewer) slots)
slots_counted slots (changes.Swap one other) fits = length-set (set slots one (get_or slots other 0)) other (get_or slots one 0) ∙ length-set slots one (get_or slots other 0)
slots_counted slots (changes.Set place root slot) fits = length-set slots place slot

-- the changes that are left are fit
pub left_fit : (slots now : List ℕ) (all : List Change) (i : ℕ) (d : Change) → i < length all → fit_for (length slots) (map step_of (drop i all)) ≡ true → now ≡ slots_after_one slots (get_or all i d) → fit_for (length now) (map step_of (drop (i + 1) all)) ≡ true
left_fit slots now all i d within fits is =
    let one : Change = get_or all i d in
    let here : step_fits (length slots) (step_of one) ≡ true = change_fits (length slots) all i d within fits in
    let count : length now ≡ count_after_step (length slots) (step_of one) = ap length is ∙ slots_counted slots one here in
    let left : fit_for (length slots) (map step_of (one ∷ drop (i + 1) all)) ≡ true = sym (ap (λ rest. fit_for (length slots) (map step_of rest)) (drop_more all i d within)) ∙ fits in
    ap (λ n. fit_for n (map step_of (drop (i + 1) all))) count
    ∙ right_of_and (step_fits (length slots) (step_of one)) (fit_for (count_after_step (length slots) (step_of one)) (map step_of (drop (i + 1) all)))
    (sym (fits_cons (length slots) (step_of one) (map step_of (drop (i + 1) all))) ∙ left)

-- the slots that it frees are put behind the others
pub one_more_freed : (slots now freed more : List ℕ) (all : List Change) (i : ℕ) (d : Change) → i < length all → now ≡ slots_after_one slots (get_or all i d) → more ≡ freed ++ freed_by slots (get_or all i d)
    → more ++ freed_in now (drop (i + 1) all) ≡ freed ++ freed_in slots (drop i all)
unfolding freed_in
one_more_freed slots now freed more all i d within is grown =
    let one : Change = get_or all i d in
    ap (λ front. front ++ freed_in now (drop (i + 1) all)) grown
    ∙ ap (λ s. (freed ++ freed_by slots one) ++ freed_in s (drop (i + 1) all)) is
    ∙ append_assoc freed (freed_by slots one) (freed_in (slots_after_one slots one) (drop (i + 1) all))
    ∙ ap (λ rest. freed ++ freed_in slots rest) (sym (drop_more all i d within))

none_left : (slots : List ℕ) (all : List Change) → length all ≡ 0 → freed_in slots all ≡ []
unfolding freed_in
none_left slots [] none = refl
none_left slots (one ∷ others) none = absurd (let some : 0 < length (one ∷ others) = omega arith in omega arith)

-- behind the last change all are there
pub all_freed : (slots freed : List ℕ) (all : List Change) (i : ℕ) → length all ≤ i → freed ++ freed_in slots (drop i all) ≡ freed
all_freed slots freed all i past =
    ap (λ rest. freed ++ rest) (none_left slots (drop i all) (omega (arith, length-drop i all))) ∙ append-nil freed
