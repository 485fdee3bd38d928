-- What the steps do to a list, step by step, and what stays.
use Rattle.std.proofs.Common.{◌≡◌, ℕ, suc, ◌+◌, ◌-◌, ◌*◌, ◌^◌, ◌<◌, ◌≤◌, true, false, List, [], ◌∷◌, ◌++◌, length, map, take, drop, get_or, refl, sym, ◌∙◌, ap, arith, length-append, length-drop, length-take, length-set, append_assoc, append-nil}
use Rattle.std.specs.Prelude.{Bool, cond, count_by, if◌then◌else◌}
use Rattle.std.specs.List.{range_with_len, list_all, filter}
use Rattle.std.proofs.lemmas.Bool.{ltb-true}
use Rattle.std.proofs.lemmas.Bool.Decides.{nat_tests}
use Rattle.std.proofs.Math.ListN.{set}
use Rattle.std.proofs.lemmas.List.{drop_more, drop-drop, length-map, map-append, take_more}
use Rattle.std.proofs.lemmas.List.Sums.{length-filter}
use Rattle.sia_merkle.specs.Roots.{first_hash, tree_root}
use Rattle.sia_merkle.specs.Segments.{segment_root}
use Rattle.sia_diff.specs.declared.steps.DiffStep.{DiffStep}
use Rattle.sia_diff.specs.declared.steps.DiffStep.TheVariants as step
use Rattle.sia_diff.specs.Diffs.{hashes_at, spread}
use Rattle.sia_diff.specs.DiffSteps.{counted_steps, after, after_step, count_after, count_after_step, step_touches, step_fits, touch_count}
use Rattle.sia_cover.proofs.Counts.{below_parts}
use Rattle.sia_diff.proofs.Below.{below_next}
use Rattle.sia_diff.proofs.Counts.{filter_not, filter_one, fits_cons, left_of_and, right_of_and, touches_cons}

-- how long a list is after one step
pub length_step : (hashes : List (List ℕ)) (one : DiffStep) → step_fits (length hashes) one ≡ true → length (after_step hashes one) ≡ count_after_step (length hashes) one
length_step hashes (step.Append hash) fits = length-append hashes (hash ∷ [])
length_step hashes (step.Trim fewer) fits = omega (arith, length-take (length hashes - fewer) hashes)
length_step hashes (step.Swap i j) fits = length-set (set hashes i (get_or hashes j [])) j (get_or hashes i []) ∙ length-set hashes i (get_or hashes j [])
length_step hashes (step.Set i hash) fits = length-set hashes i hash

pub after_next : (hashes : List (List ℕ)) (steps : List DiffStep) (i : ℕ) (d : DiffStep) → i < length steps → after hashes (drop i steps) ≡ after (after_step hashes (get_or steps i d)) (drop (i + 1) steps)
unfolding after
after_next hashes steps i d within = ap (after hashes) (drop_more steps i d within)

after_none : (hashes : List (List ℕ)) (steps : List DiffStep) → length steps ≡ 0 → after hashes steps ≡ hashes
unfolding after
after_none hashes [] none = refl
after_none hashes (one ∷ steps) none = absurd (let some : 0 < length (one ∷ steps) = omega arith in omega arith)

pub after_done : (hashes : List (List ℕ)) (steps : List DiffStep) (i : ℕ) → length steps ≤ i → after hashes (drop i steps) ≡ hashes
after_done hashes steps i past = after_none hashes (drop i steps) (omega (arith, length-drop i steps))

pub first_fits : (count : ℕ) (one : DiffStep) (steps : List DiffStep) → list_all (λ counted. step_fits counted.count counted.step) (counted_steps count (one ∷ steps)) ≡ true → step_fits count one ≡ true
first_fits count one steps fits = left_of_and _ _ (sym (fits_cons count one steps) ∙ fits)

pub rest_fits : (count : ℕ) (one : DiffStep) (steps : List DiffStep) → list_all (λ counted. step_fits counted.count counted.step) (counted_steps count (one ∷ steps)) ≡ true
    → list_all (λ counted. step_fits counted.count counted.step) (counted_steps (count_after_step count one) steps) ≡ true
rest_fits count one steps fits = right_of_and _ _ (sym (fits_cons count one steps) ∙ fits)

pub length_after : (hashes : List (List ℕ)) (steps : List DiffStep) (count : ℕ) → length hashes ≡ count → list_all (λ counted. step_fits counted.count counted.step) (counted_steps count steps) ≡ true → length (after hashes steps) ≡ count_after count steps
unfolding after count_after
length_after hashes [] count is fits = is
length_after hashes (one ∷ steps) count is fits =
    let here : step_fits (length hashes) one ≡ true = ap (λ n. step_fits n one) is ∙ first_fits count one steps fits in
    length_after (after_step hashes one) steps (count_after_step count one) (length_step hashes one here ∙ ap (λ n. count_after_step n one) is) (rest_fits count one steps fits)

-- no count passes the limit
step_bound : (count : ℕ) (one : DiffStep) → count ≤ 65536 → step_fits count one ≡ true → count_after_step count one ≤ 65536
step_bound count (step.Append hash) bound fits = let below : count < 65536 = ltb-true _ _ fits in omega arith
step_bound count (step.Trim fewer) bound fits = omega arith
step_bound count (step.Swap i j) bound fits = bound
step_bound count (step.Set i hash) bound fits = bound

pub count_bound : (count : ℕ) (steps : List DiffStep) → count ≤ 65536 → list_all (λ counted. step_fits counted.count counted.step) (counted_steps count steps) ≡ true → count_after count steps ≤ 65536
unfolding count_after
count_bound count [] bound fits = bound
count_bound count (one ∷ steps) bound fits = count_bound (count_after_step count one) steps (step_bound count one bound (first_fits count one steps fits)) (rest_fits count one steps fits)

-- a place that no step touches is there after each
pub keeps_step : (count : ℕ) (one : DiffStep) (place : ℕ) → place < count → step_touches count one place ≡ false → place < count_after_step count one
keeps_step count (step.Append hash) place within none = omega arith
keeps_step count (step.Trim fewer) place within none = grind (arith, nat_tests)
keeps_step count (step.Swap i j) place within none = within
keeps_step count (step.Set i hash) place within none = within

untouched_by : (touches : Bool) (rest total : ℕ) → total ≡ cond touches 1 0 + rest → total ≡ 0 → (touches ≡ false) × (rest ≡ 0)
untouched_by true rest total is none = absurd (let one : total ≡ 1 + rest = is in omega arith)
untouched_by false rest total is none = (refl, let same : total ≡ 0 + rest = is in omega arith)

pub untouched_parts : (count : ℕ) (one : DiffStep) (steps : List DiffStep) (place : ℕ) → touch_count count (one ∷ steps) place ≡ 0
    → (step_touches count one place ≡ false) × (touch_count (count_after_step count one) steps place ≡ 0)
untouched_parts count one steps place none =
    untouched_by (step_touches count one place) (touch_count (count_after_step count one) steps place) (touch_count count (one ∷ steps) place) (touches_cons count one steps place) none

pub keeps_within : (count : ℕ) (steps : List DiffStep) (place : ℕ) → place < count → touch_count count steps place ≡ 0 → place < count_after count steps
unfolding count_after
keeps_within count [] place within none = within
keeps_within count (one ∷ steps) place within none =
    let parts = untouched_parts count one steps place none in
    keeps_within (count_after_step count one) steps place (keeps_step count one place within parts.0) parts.1

-- the spread hashes, place by place
longer : (chosen : ℕ → Bool) (place : ℕ) (places : List ℕ) (hashes : List (List ℕ)) (here : Bool) → chosen place ≡ here → length (spread chosen places (drop 1 hashes)) ≡ length places → length (spread chosen places hashes) ≡ length places
    → length (spread chosen (place ∷ places) hashes) ≡ suc (length places)
unfolding spread
longer chosen place places hashes true e with_one with_all = rw e (ap suc with_one)
longer chosen place places hashes false e with_one with_all = rw e (ap suc with_all)

pub length_spread : (chosen : ℕ → Bool) (places : List ℕ) (hashes : List (List ℕ)) → length (spread chosen places hashes) ≡ length places
unfolding spread
length_spread chosen [] hashes = refl
length_spread chosen (place ∷ places) hashes = longer chosen place places hashes (chosen place) refl (length_spread chosen places (drop 1 hashes)) (length_spread chosen places hashes)

rank_by : (before more : ℕ) (here : Bool) → here ≡ true → more ≡ before + cond here 1 0 → before < more
rank_by before more true e is = omega arith
rank_by before more false e is = absurd (let no : false ≡ true = e in cc)

pub rank_within : (chosen : ℕ → Bool) (place count : ℕ) → place < count → chosen place ≡ true → count_by chosen (range_with_len 0 place) < count_by chosen (range_with_len 0 count)
rank_within chosen place count within here =
    let whole : count ≡ place + 1 + (count - (place + 1)) = omega arith in
    let more : count_by chosen (range_with_len 0 count) ≡ count_by chosen (range_with_len 0 (place + 1)) + count_by chosen (range_with_len (place + 1) (count - (place + 1))) =
    ap (λ n. count_by chosen (range_with_len 0 n)) whole ∙ below_parts chosen (place + 1) (count - (place + 1)) in
    let next : count_by chosen (range_with_len 0 place) < count_by chosen (range_with_len 0 (place + 1)) = rank_by (count_by chosen (range_with_len 0 place)) (count_by chosen (range_with_len 0 (place + 1))) (chosen place) here (below_next chosen place) in
    omega arith

first_dropped : (hashes : List (List ℕ)) (k : ℕ) → k < length hashes → first_hash (drop k hashes) ≡ get_or hashes k []
first_dropped hashes k within = ap first_hash (drop_more hashes k [] within)

spread_by : (chosen : ℕ → Bool) (place rest below next : ℕ) (leaves : List (List ℕ)) → next ≡ below + cond (chosen place) 1 0 → (chosen place ≡ true → below < length leaves)
    → (here : Bool) → chosen place ≡ here
    → spread chosen (range_with_len place (suc rest)) (drop below leaves) ≡ (if chosen place then get_or leaves below [] else first_hash []) ∷ spread chosen (range_with_len (place + 1) rest) (drop next leaves)
unfolding spread
spread_by chosen place rest below next leaves is within true e =
    let one : below + 1 ≡ next = sym (is ∙ ap (λ b. below + cond b 1 0) e) in
    rw e (ap (λ hash. hash ∷ spread chosen (range_with_len (place + 1) rest) (drop 1 (drop below leaves))) (first_dropped leaves below (within e))
    ∙ ap (λ hashes. get_or leaves below [] ∷ spread chosen (range_with_len (place + 1) rest) hashes) (drop-drop 1 below leaves ∙ ap (λ n. drop n leaves) one))
spread_by chosen place rest below next leaves is within false e =
    let same : below ≡ next = sym (is ∙ ap (λ b. below + cond b 1 0) e ∙ (omega arith)) in
    rw e (ap (λ n. first_hash [] ∷ spread chosen (range_with_len (place + 1) rest) (drop n leaves)) same)

pub spread_next : (chosen : ℕ → Bool) (place count : ℕ) (leaves front : List (List ℕ)) (hash : List ℕ) → place < count → length leaves ≡ count_by chosen (range_with_len 0 count)
    → hash ≡ (if chosen place then get_or leaves (count_by chosen (range_with_len 0 place)) [] else first_hash [])
    → (front ++ hash ∷ []) ++ spread chosen (range_with_len (place + 1) (count - (place + 1))) (drop (count_by chosen (range_with_len 0 (place + 1))) leaves)
    ≡ front ++ spread chosen (range_with_len place (count - place)) (drop (count_by chosen (range_with_len 0 place)) leaves)
spread_next chosen place count leaves front hash within fits is =
    let left : suc (count - (place + 1)) ≡ count - place = omega arith in
    append_assoc front (hash ∷ []) (spread chosen (range_with_len (place + 1) (count - (place + 1))) (drop (count_by chosen (range_with_len 0 (place + 1))) leaves))
    ∙ ap (λ h. front ++ h ∷ spread chosen (range_with_len (place + 1) (count - (place + 1))) (drop (count_by chosen (range_with_len 0 (place + 1))) leaves)) is
    ∙ ap (λ xs. front ++ xs) (sym (spread_by chosen place (count - (place + 1)) (count_by chosen (range_with_len 0 place)) (count_by chosen (range_with_len 0 (place + 1))) leaves (below_next chosen place)
    (λ here. omega (arith, rank_within chosen place count within here)) (chosen place) refl))
    ∙ ap (λ n. front ++ spread chosen (range_with_len place n) (drop (count_by chosen (range_with_len 0 place)) leaves)) left

pub spread_done : (chosen : ℕ → Bool) (place count : ℕ) (leaves front : List (List ℕ)) → count ≤ place → front ++ spread chosen (range_with_len place (count - place)) leaves ≡ front
unfolding spread
spread_done chosen place count leaves front past =
    let none : count - place ≡ 0 = omega arith in
    ap (λ n. front ++ spread chosen (range_with_len place n) leaves) none ∙ append-nil front

-- the hashes at chosen places, one place further
pub at_one : (chosen : ℕ → Bool) (hashes : List (List ℕ)) (place : ℕ) → chosen place ≡ true → hashes_at chosen hashes (place + 1) ≡ hashes_at chosen hashes place ++ get_or hashes place [] ∷ []
at_one chosen hashes place e =
    ap (map (λ other. get_or hashes other [])) (filter_one chosen place e) ∙ map-append (λ other. get_or hashes other []) (filter chosen (range_with_len 0 place)) (place ∷ [])

pub at_not : (chosen : ℕ → Bool) (hashes : List (List ℕ)) (place : ℕ) → chosen place ≡ false → hashes_at chosen hashes (place + 1) ≡ hashes_at chosen hashes place
at_not chosen hashes place e = ap (map (λ other. get_or hashes other [])) (filter_not chosen place e)

pub at_count : (chosen : ℕ → Bool) (hashes : List (List ℕ)) (count : ℕ) → length (hashes_at chosen hashes count) ≡ count_by chosen (range_with_len 0 count)
at_count chosen hashes count = length-map (filter chosen (range_with_len 0 count)) (λ place. get_or hashes place []) ∙ length-filter chosen (range_with_len 0 count)

pub map_next : (get : ℕ → List ℕ) (places : List ℕ) (i : ℕ) → i < length places → map get (take (i + 1) places) ≡ map get (take i places) ++ get (get_or places i 0) ∷ []
map_next get places i within = ap (map get) (take_more places i 0 within) ∙ map-append get (take i places) (get_or places i 0 ∷ [])

pub one_root_at : (hashes : List (List ℕ)) (place : ℕ) → place < length hashes → segment_root hashes 0 place ≡ get_or hashes place []
unfolding tree_root
one_root_at hashes place within =
    let same : place * 2 ^ 0 ≡ place = omega arith in
    ap (λ n. tree_root 0 (take (2 ^ 0) (drop n hashes))) same ∙ ap (λ xs. first_hash (take 1 xs)) (drop_more hashes place [] within)
