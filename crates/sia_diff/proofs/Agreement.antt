-- Two lists that agree at the places that the steps touch agree there after the steps, and all other places stay.
use Rattle.std.proofs.Common.{◌≡◌, ◌≢◌, ℕ, ◌+◌, ◌-◌, ◌<◌, ◌≤◌, true, false, List, [], ◌∷◌, ◌++◌, length, take, get_or, refl, sym, ◌∙◌, ap, arith, length-take, length-set}
use Rattle.std.specs.Prelude.{Bool, ◌&&◌, ◌||◌, cond, nat_eq, nat_le, nat_lt}
use Rattle.std.specs.List.{list_all}
use Rattle.std.proofs.Math.ListN.{set}
use Rattle.std.proofs.lemmas.Bool.{ltb-true, ltb-false, eqb-true, eq-eqb}
use Rattle.std.proofs.lemmas.Bool.Decides.{nat_tests}
use Rattle.std.proofs.lemmas.Grind.{get_or-set_at}
use Rattle.std.proofs.lemmas.List.{get_or_append_left, get_or-append_right, get_or_past, get_or-set_other, get_or-take}
use Rattle.sia_diff.specs.declared.steps.DiffStep.{DiffStep}
use Rattle.sia_diff.specs.declared.steps.DiffStep.TheVariants as step
use Rattle.sia_diff.specs.DiffSteps.{counted_steps, after, after_step, count_after_step, step_touches, step_fits, touch_count}
use Rattle.sia_diff.proofs.Counts.{left_of_and, right_of_and, touches_cons}
use Rattle.sia_diff.proofs.Moves.{first_fits, rest_fits, length_step, keeps_step, untouched_parts}

-- two lists have the same hashes at these places
abbrev pub AgreeOn : (ℕ → Bool) → List (List ℕ) → List (List ℕ) → Type 0
AgreeOn chosen hashes other = (place : ℕ) → chosen place ≡ true → get_or hashes place [] ≡ get_or other place []

-- one place of a list after an edit
append_by : (first second : List (List ℕ)) (hash : List ℕ) (count place : ℕ) → length first ≡ count → length second ≡ count → get_or first place [] ≡ get_or second place []
    → (old : Bool) → nat_lt place count ≡ old → get_or (first ++ hash ∷ []) place [] ≡ get_or (second ++ hash ∷ []) place []
append_by first second hash count place is is' same true e =
    get_or_append_left first (hash ∷ []) [] place (omega (arith, ltb-true _ _ e)) ∙ same ∙ sym (get_or_append_left second (hash ∷ []) [] place (omega (arith, ltb-true _ _ e)))
append_by first second hash count place is is' same false e =
    get_or-append_right first (hash ∷ []) count place [] is (ltb-false _ _ e) ∙ sym (get_or-append_right second (hash ∷ []) count place [] is' (ltb-false _ _ e))

take_by : (first second : List (List ℕ)) (count place : ℕ) → length first ≡ length second → get_or first place [] ≡ get_or second place []
    → (here : Bool) → nat_lt place count ≡ here → get_or (take count first) place [] ≡ get_or (take count second) place []
take_by first second count place is same true e = get_or-take count first place [] (ltb-true _ _ e) ∙ same ∙ sym (get_or-take count second place [] (ltb-true _ _ e))
take_by first second count place is same false e =
    let past : count ≤ place = ltb-false _ _ e in
    get_or_past (take count first) place [] (omega (arith, length-take count first)) ∙ sym (get_or_past (take count second) place [] (omega (arith, length-take count second)))

apart : (place other : ℕ) → nat_eq place other ≡ false → place ≢ other
apart place other e = λ same. (let no : true ≡ false = sym (eq-eqb place other same) ∙ e in cc)

set_by : (first second : List (List ℕ)) (at place : ℕ) (hash hash' : List ℕ) → length first ≡ length second → at < length first → hash ≡ hash' → get_or first place [] ≡ get_or second place []
    → (here : Bool) → nat_eq place at ≡ here → get_or (set first at hash) place [] ≡ get_or (set second at hash') place []
set_by first second at place hash hash' is within same others true e =
    get_or-set_at first at place hash [] (eqb-true _ _ e) within ∙ same ∙ sym (get_or-set_at second at place hash' [] (eqb-true _ _ e) (omega arith))
set_by first second at place hash hash' is within same others false e =
    get_or-set_other first at place hash [] (apart place at e) ∙ others ∙ sym (get_or-set_other second at place hash' [] (apart place at e))

either : (first second : Bool) → second ≡ true → (first || second) ≡ true
either true second e = refl
either false second e = e

own_place : (place : ℕ) → nat_eq place place ≡ true
own_place place = eq-eqb place place refl

second_place : (first second : ℕ) → (nat_eq second first || nat_eq second second) ≡ true
second_place first second = either (nat_eq second first) (nat_eq second second) (own_place second)

first_place : (first second : ℕ) → (nat_eq first first || nat_eq first second) ≡ true
first_place first second = ap (λ b. b || nat_eq first second) (own_place first)

-- after one step
agree_step : (chosen : ℕ → Bool) (one : DiffStep) (count : ℕ) (first second : List (List ℕ)) → length first ≡ count → length second ≡ count → step_fits count one ≡ true
    → ((place : ℕ) → step_touches count one place ≡ true → chosen place ≡ true) → AgreeOn chosen first second → AgreeOn chosen (after_step first one) (after_step second one)
agree_step chosen (step.Append hash) count first second is is' fits touches agree = λ place here. append_by first second hash count place is is' (agree place here) (nat_lt place count) refl
agree_step chosen (step.Trim fewer) count first second is is' fits touches agree = λ place here.
    let same : length first - fewer ≡ length second - fewer = omega arith in
    take_by first second (length first - fewer) place (is ∙ sym is') (agree place here) (nat_lt place (length first - fewer)) refl ∙ ap (λ n. get_or (take n second) place []) same
agree_step chosen (step.Swap i j) count first second is is' fits touches agree = λ place here.
    let i_within : i < count = ltb-true i count (left_of_and (nat_lt i count) (nat_lt j count) fits) in
    let j_within : j < count = ltb-true j count (right_of_and (nat_lt i count) (nat_lt j count) fits) in
    let at_i : get_or first i [] ≡ get_or second i [] = agree i (touches i (first_place i j)) in
    let at_j : get_or first j [] ≡ get_or second j [] = agree j (touches j (second_place i j)) in
    set_by (set first i (get_or first j [])) (set second i (get_or second j [])) j place (get_or first i []) (get_or second i [])
    (length-set first i (get_or first j []) ∙ is ∙ sym (length-set second i (get_or second j []) ∙ is')) (omega (arith, length-set first i (get_or first j []))) at_i
    (set_by first second i place (get_or first j []) (get_or second j []) (is ∙ sym is') (omega arith) at_j (agree place here) (nat_eq place i) refl) (nat_eq place j) refl
agree_step chosen (step.Set i hash) count first second is is' fits touches agree = λ place here.
    let within : i < count = ltb-true _ _ fits in
    set_by first second i place hash hash (is ∙ sym is') (omega arith) refl (agree place here) (nat_eq place i) refl

touched_more : (touches : Bool) (rest total : ℕ) → total ≡ cond touches 1 0 + rest → touches ≡ true → 0 < total
touched_more true rest total is e = omega arith
touched_more false rest total is e = absurd (let no : false ≡ true = e in cc)

touched_later : (touches : Bool) (rest total : ℕ) → total ≡ cond touches 1 0 + rest → 0 < rest → 0 < total
touched_later true rest total is more = omega arith
touched_later false rest total is more = omega arith

pub agree_after : (chosen : ℕ → Bool) (steps : List DiffStep) (count : ℕ) (first second : List (List ℕ)) → length first ≡ count → length second ≡ count
    → list_all (λ counted. step_fits counted.count counted.step) (counted_steps count steps) ≡ true → ((place : ℕ) → 0 < touch_count count steps place → chosen place ≡ true)
    → AgreeOn chosen first second → AgreeOn chosen (after first steps) (after second steps)
unfolding after
agree_after chosen [] count first second is is' fits touches agree = agree
agree_after chosen (one ∷ steps) count first second is is' fits touches agree =
    let here : step_fits count one ≡ true = first_fits count one steps fits in
    let here_first : step_fits (length first) one ≡ true = ap (λ n. step_fits n one) is ∙ here in
    let here_second : step_fits (length second) one ≡ true = ap (λ n. step_fits n one) is' ∙ here in
    agree_after chosen steps (count_after_step count one) (after_step first one) (after_step second one)
    (length_step first one here_first ∙ ap (λ n. count_after_step n one) is) (length_step second one here_second ∙ ap (λ n. count_after_step n one) is') (rest_fits count one steps fits)
    (λ place more. touches place (touched_later (step_touches count one place) (touch_count (count_after_step count one) steps place) (touch_count count (one ∷ steps) place) (touches_cons count one steps place) more))
    (agree_step chosen one count first second is is' here
    (λ place e. touches place (touched_more (step_touches count one place) (touch_count (count_after_step count one) steps place) (touch_count count (one ∷ steps) place) (touches_cons count one steps place) e)) agree)

-- what is not touched stays
neither : (first second : Bool) → (first || second) ≡ false → (first ≡ false) × (second ≡ false)
neither true second e = absurd (let no : true ≡ false = e in cc)
neither false second e = (refl, e)

below_cut : (count fewer place : ℕ) → place < count → (nat_le (count - fewer) place && nat_lt place count) ≡ false → place < count - fewer
below_cut count fewer place within e = grind (arith, nat_tests)

keep_step : (one : DiffStep) (count place : ℕ) (hashes : List (List ℕ)) → length hashes ≡ count → place < count → step_touches count one place ≡ false → get_or (after_step hashes one) place [] ≡ get_or hashes place []
keep_step (step.Append hash) count place hashes is within e = get_or_append_left hashes (hash ∷ []) [] place (omega arith)
keep_step (step.Trim fewer) count place hashes is within e = get_or-take (length hashes - fewer) hashes place [] (omega (arith, below_cut count fewer place within e))
keep_step (step.Swap i j) count place hashes is within e =
    let both = neither (nat_eq place i) (nat_eq place j) e in
    get_or-set_other (set hashes i (get_or hashes j [])) j place (get_or hashes i []) [] (apart place j both.1) ∙ get_or-set_other hashes i place (get_or hashes j []) [] (apart place i both.0)
keep_step (step.Set i hash) count place hashes is within e = get_or-set_other hashes i place hash [] (apart place i e)

pub keep_after : (steps : List DiffStep) (count place : ℕ) (hashes : List (List ℕ)) → length hashes ≡ count → place < count → list_all (λ counted. step_fits counted.count counted.step) (counted_steps count steps) ≡ true
    → touch_count count steps place ≡ 0 → get_or (after hashes steps) place [] ≡ get_or hashes place []
unfolding after
keep_after [] count place hashes is within fits none = refl
keep_after (one ∷ steps) count place hashes is within fits none =
    let parts = untouched_parts count one steps place none in
    let here : step_fits (length hashes) one ≡ true = ap (λ n. step_fits n one) is ∙ first_fits count one steps fits in
    keep_after steps (count_after_step count one) place (after_step hashes one) (length_step hashes one here ∙ ap (λ n. count_after_step n one) is) (keeps_step count one place within parts.0) (rest_fits count one steps fits) parts.1
    ∙ keep_step one count place hashes is within parts.0
