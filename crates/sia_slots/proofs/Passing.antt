-- The slots of a contract's sectors, change by change: those that are taken and those that are freed.
use Rattle.std.proofs.Common.{◌≡◌, ◌∙◌, ◌⊎◌, inl, inr, ℕ, ◌+◌, ◌-◌, ◌<◌, ◌==◌, true, cond, nat_lt, List, [], ◌∷◌, ◌++◌, All, length, map, drop, take, get_or, set, Option, refl, sym, ap, arith}
use Rattle.std.specs.Prelude.{count_by, filter_map}
use Rattle.std.specs.Option.{option_to_list}
use Rattle.std.proofs.lemmas.Bool.{cases_eq, ltb-true}
use Rattle.std.proofs.lemmas.List.{get_or-set_other, get_or-set_same, length-set}
use Rattle.std.proofs.lemmas.List.Elements.{All-get_or, All-head, All-push, All-set, All-tail, All-take}
use Rattle.std.proofs.lemmas.List.Sums.{sum_by_push, sum_by-set, sum_by-take-drop}
use Rattle.sia_diff.specs.DiffSteps.{count_after_step, step_fits}
use Rattle.sia_diff.proofs.Counts.{fits_cons, left_of_and, right_of_and}
use Rattle.sia_records.specs.declared.change.Change.{Change}
use Rattle.sia_records.specs.declared.change.Change.TheVariants as changes
use Rattle.sia_records.specs.Stored.{Stored, no_sector, step_of, stored_after, stored_after_one}
use Rattle.sia_kept.proofs.Changed.{fit_for, length_one}
use Rattle.sia_host.specs.Replaying.{slot_taken}
use Rattle.sia_host.specs.Writing.{dropped, dropped_by}
use Rattle.sia_slots.specs.Slots.{times}
use Rattle.sia_slots.proofs.Times.{times_append, times_cons, times_map}

-- the slots of sectors
abbrev pub slots_of : List Stored → List ℕ
slots_of sectors = map (λ (s : Stored). s.slot) sectors

-- how many sectors lie in a slot
abbrev lying : ℕ → List Stored → ℕ
lying slot sectors = count_by (λ (s : Stored). s.slot == slot) sectors

-- whether one does, as a number
abbrev lies : ℕ → Stored → ℕ
lies slot s = cond (s.slot == slot) 1 0

-- two sectors in each other's place lie where they did
swap_lies : (slot one other : ℕ) (sectors : List Stored) → one < length sectors → other < length sectors
    → lying slot (set (set sectors one (get_or sectors other no_sector)) other (get_or sectors one no_sector)) ≡ lying slot sectors
swap_lies slot one other sectors low high =
    let first = get_or sectors one no_sector in
    let second = get_or sectors other no_sector in
    let half = set sectors one second in
    let long : other < length half = omega (arith, high, length-set sectors one second) in
    let a : lying slot half + lies slot first ≡ lying slot sectors + lies slot second = sum_by-set (lies slot) sectors one second no_sector low in
    let b : lying slot (set half other first) + lies slot (get_or half other no_sector) ≡ lying slot half + lies slot first = sum_by-set (lies slot) half other first no_sector long in
    let c : lies slot (get_or half other no_sector) ≡ lies slot second = ap (lies slot) (there (cases_eq other one)) in
    omega (arith, a, b, c)
  where
    there : (other ≡ one) ⊎ (other ≡ one → ⊥) → get_or (set sectors one (get_or sectors other no_sector)) other no_sector ≡ get_or sectors other no_sector
    there (inl same) = ap (λ n. get_or (set sectors one (get_or sectors other no_sector)) n no_sector) same ∙ get_or-set_same sectors one (get_or sectors other no_sector) no_sector low
    there (inr apart) = get_or-set_other sectors one other (get_or sectors other no_sector) no_sector apart

-- by one change
one_passes : (slot : ℕ) (sectors : List Stored) (one : Change) → step_fits (length sectors) (step_of one) ≡ true
    → times slot (slots_of sectors) + times slot (option_to_list (slot_taken one)) ≡ times slot (slots_of (stored_after_one sectors one)) + times slot (dropped_by sectors one)
one_passes slot sectors (changes.Append root at) fits =
    let s : Stored = record { root = root; slot = at } in
    let taken : times slot (at ∷ []) ≡ lies slot s + 0 = times_cons slot at [] in
    omega (arith, taken, times_map slot sectors, times_map slot (sectors ++ s ∷ []), sum_by_push (lies slot) sectors s)
one_passes slot sectors (changes.Trim fewer) fits =
    let n = length sectors - fewer in
    omega (arith, times_map slot sectors, times_map slot (take n sectors), times_map slot (drop n sectors), sum_by-take-drop (lies slot) sectors n)
one_passes slot sectors (changes.Swap one other) fits =
    let low : one < length sectors = ltb-true _ _ (left_of_and (nat_lt one (length sectors)) (nat_lt other (length sectors)) fits) in
    let high : other < length sectors = ltb-true _ _ (right_of_and (nat_lt one (length sectors)) (nat_lt other (length sectors)) fits) in
    let now = set (set sectors one (get_or sectors other no_sector)) other (get_or sectors one no_sector) in
    omega (arith, times_map slot sectors, times_map slot now, swap_lies slot one other sectors low high)
one_passes slot sectors (changes.Set place root at) fits =
    let s : Stored = record { root = root; slot = at } in
    let old = get_or sectors place no_sector in
    let taken : times slot (at ∷ []) ≡ lies slot s + 0 = times_cons slot at [] in
    let gone : times slot (old.slot ∷ []) ≡ lies slot old + 0 = times_cons slot old.slot [] in
    omega (arith, taken, gone, times_map slot sectors, times_map slot (set sectors place s), sum_by-set (lies slot) sectors place s no_sector (ltb-true place (length sectors) fits))

-- what one change takes stands before what the others take
taken_cons : (slot : ℕ) (taken : Option ℕ) (others : List ℕ) → times slot (option_to_list taken ++ others) ≡ times slot (option_to_list taken) + times slot others
taken_cons slot taken others = times_append slot (option_to_list taken) others

taken_front : (one : Change) (others : List Change) → filter_map slot_taken (one ∷ others) ≡ option_to_list (slot_taken one) ++ filter_map slot_taken others
taken_front (changes.Append root slot) others = refl
taken_front (changes.Trim fewer) others = refl
taken_front (changes.Swap one other) others = refl
taken_front (changes.Set place root slot) others = refl

-- the changes behind one that fits
pub rest_fits : (sectors : List Stored) (one : Change) (others : List Change) → fit_for (length sectors) (map step_of (one ∷ others)) ≡ true
    → (step_fits (length sectors) (step_of one) ≡ true) × (fit_for (length (stored_after_one sectors one)) (map step_of others) ≡ true)
rest_fits sectors one others fits =
    let both = sym (fits_cons (length sectors) (step_of one) (map step_of others)) ∙ fits in
    let here : step_fits (length sectors) (step_of one) ≡ true = left_of_and (step_fits (length sectors) (step_of one)) (fit_for (count_after_step (length sectors) (step_of one)) (map step_of others)) both in
    (here, ap (λ n. fit_for n (map step_of others)) (length_one sectors one here) ∙ right_of_and (step_fits (length sectors) (step_of one)) (fit_for (count_after_step (length sectors) (step_of one)) (map step_of others)) both)

-- by all changes
pub all_pass : (slot : ℕ) (sectors : List Stored) (all : List Change) → fit_for (length sectors) (map step_of all) ≡ true
    → times slot (slots_of sectors) + times slot (filter_map slot_taken all) ≡ times slot (slots_of (stored_after sectors all)) + times slot (dropped sectors all)
unfolding stored_after
all_pass slot sectors [] fits = refl
all_pass slot sectors (one ∷ others) fits =
    let fit = rest_fits sectors one others fits in
    let after = stored_after_one sectors one in
    let taken : times slot (filter_map slot_taken (one ∷ others)) ≡ times slot (option_to_list (slot_taken one)) + times slot (filter_map slot_taken others) =
    ap (times slot) (taken_front one others) ∙ taken_cons slot (slot_taken one) (filter_map slot_taken others) in
    omega (arith, one_passes slot sectors one fit.0, all_pass slot after others fit.1, taken, times_append slot (dropped_by sectors one) (dropped after others))

-- where sectors come from

-- a fact holds of the sector that a change brings, if it brings one
abbrev pub Brings : (Stored → Type 0) → Change → Type 0
Brings P (changes.Append root slot) = P (record { root = root; slot = slot })
Brings P (changes.Set place root slot) = P (record { root = root; slot = slot })
Brings P other = Unit {0}

-- by one change
one_brings : (P : Stored → Type 0) (sectors : List Stored) (one : Change) → step_fits (length sectors) (step_of one) ≡ true → All P sectors → Brings P one → All P (stored_after_one sectors one)
one_brings P sectors (changes.Append root slot) fits all new = All-push P sectors (record { root = root; slot = slot }) all new
one_brings P sectors (changes.Trim fewer) fits all new = All-take P (length sectors - fewer) sectors all
one_brings P sectors (changes.Swap one other) fits all new =
    let low : one < length sectors = ltb-true _ _ (left_of_and (nat_lt one (length sectors)) (nat_lt other (length sectors)) fits) in
    let high : other < length sectors = ltb-true _ _ (right_of_and (nat_lt one (length sectors)) (nat_lt other (length sectors)) fits) in
    All-set P (set sectors one (get_or sectors other no_sector)) other (get_or sectors one no_sector) (All-get_or P sectors one no_sector low all)
    (All-set P sectors one (get_or sectors other no_sector) (All-get_or P sectors other no_sector high all) all)
one_brings P sectors (changes.Set place root slot) fits all new = All-set P sectors place (record { root = root; slot = slot }) new all

-- by all changes
pub all_bring : (P : Stored → Type 0) (sectors : List Stored) (all : List Change) → fit_for (length sectors) (map step_of all) ≡ true → All P sectors → All (Brings P) all → All P (stored_after sectors all)
unfolding stored_after
all_bring P sectors [] fits have new = have
all_bring P sectors (one ∷ others) fits have new =
    let fit = rest_fits sectors one others fits in
    all_bring P (stored_after_one sectors one) others fit.1 (one_brings P sectors one fit.0 have (All-head (Brings P) one others new)) (All-tail (Brings P) one others new)
