-- How many touched and new places there are below a place.
use Rattle.std.proofs.Common.{◌≡◌, ℕ, zero, suc, ◌+◌, ◌-◌, ◌<◌, ◌≤◌, true, false, List, [], ◌++◌, length, get_or, refl, sym, ◌∙◌, ap, arith, zero-add, length-append}
use Rattle.std.specs.Prelude.{Bool, cond, count_by, nat_lt}
use Rattle.std.specs.List.{range_with_len, filter}
use Rattle.std.specs.List.Sorted.{IsPartitionedBy, IsPartitionPoint}
use Rattle.std.proofs.lemmas.Bool.{le-leb, lt-leb, lt-ltb, le-ltb, ltb-true, ltb-false}
use Rattle.std.proofs.lemmas.List.{get_or_append_left, get_or-append_right}
use Rattle.std.proofs.lemmas.List.Elements.{filter-append}
use Rattle.std.proofs.lemmas.List.Sums.{length-filter, count_by-le-length}
use Rattle.std.proofs.lemmas.List.FromFn.{length-range_with_len}
use Rattle.sia_cover.proofs.Counts.{below_parts, count_all}
use Rattle.sia_cover.proofs.Joins.{count_cons, count_rows, range_parts}
use Rattle.sia_diff.specs.Chosen.{ArePlaces, is_listed, is_chosen}
use Rattle.sia_diff.proofs.Counts.{filter_row}

-- below the old count
pub chosen_old : (old : ℕ) (touched : List ℕ) (place : ℕ) → place < old → is_chosen old touched place ≡ is_listed touched place
unfolding is_chosen
chosen_old old touched place before = rw (lt-leb old place before) refl

pub chosen_new : (old : ℕ) (touched : List ℕ) (place : ℕ) → old ≤ place → is_chosen old touched place ≡ true
unfolding is_chosen
chosen_new old touched place after = rw (le-leb old place after) refl

pub below_old : (old : ℕ) (touched : List ℕ) (place : ℕ) → place ≤ old → count_by (is_chosen old touched) (range_with_len 0 place) ≡ length (filter (is_listed touched) (range_with_len 0 place))
below_old old touched place before =
    sym (length-filter (is_chosen old touched) (range_with_len 0 place))
    ∙ ap length (filter_row (is_chosen old touched) (is_listed touched) 0 place (λ other from to. chosen_old old touched other (omega arith)))

pub below_new : (old : ℕ) (touched : List ℕ) (place : ℕ) → ArePlaces old touched → old ≤ place → count_by (is_chosen old touched) (range_with_len 0 place) ≡ length touched + (place - old)
below_new old touched place places after =
    let whole : place ≡ old + (place - old) = omega arith in
    let first : count_by (is_chosen old touched) (range_with_len 0 old) ≡ length touched = below_old old touched old (omega arith) ∙ ap length (sym places) in
    let second : count_by (is_chosen old touched) (range_with_len (0 + old) (place - old)) ≡ place - old = count_all (is_chosen old touched) (0 + old) (place - old) (λ other from to. chosen_new old touched other (omega arith)) in
    ap (λ n. count_by (is_chosen old touched) (range_with_len 0 n)) whole ∙ count_rows (is_chosen old touched) 0 old (place - old) ∙ (omega arith)

pub few_touched : (old : ℕ) (touched : List ℕ) → ArePlaces old touched → length touched ≤ old
few_touched old touched places =
    omega (arith, ap length places, length-filter (is_listed touched) (range_with_len 0 old), count_by-le-length (is_listed touched) (range_with_len 0 old), length-range_with_len 0 old)

-- what a row's places that pass a test are
row_by : (test : ℕ → Bool) (low len : ℕ) → ((k d : ℕ) → k < length (filter test (range_with_len (low + 1) len)) → (low + 1 ≤ get_or (filter test (range_with_len (low + 1) len)) k d) × (get_or (filter test (range_with_len (low + 1) len)) k d < low + 1 + len))
    → (here : Bool) → test low ≡ here
    → (k d : ℕ) → k < length (filter test (range_with_len low (suc len))) → (low ≤ get_or (filter test (range_with_len low (suc len))) k d) × (get_or (filter test (range_with_len low (suc len))) k d < low + suc len)
row_by test low len rest true e zero d = rw e (λ within. (omega arith, omega arith))
row_by test low len rest true e (suc k) d = rw e (λ within. let at = rest k d (omega arith) in (omega arith, omega arith))
row_by test low len rest false e k d = rw e (λ within. let at = rest k d within in (omega arith, omega arith))

pub row_within : (test : ℕ → Bool) (low len k d : ℕ) → k < length (filter test (range_with_len low len)) → (low ≤ get_or (filter test (range_with_len low len)) k d) × (get_or (filter test (range_with_len low len)) k d < low + len)
row_within test low zero k d within = absurd (let none : k < 0 = within in omega arith)
row_within test low (suc len) k d within = row_by test low len (λ at e in_it. row_within test (low + 1) len at e in_it) (test low) refl k d within

-- a list whose front is below a place, and whose rest isn't
front_is : (k d : ℕ) (xs front rest : List ℕ) → xs ≡ front ++ rest → k < length front → get_or xs k d ≡ get_or front k d
front_is k d xs front rest is within = ap (λ ys. get_or ys k d) is ∙ get_or_append_left front rest d k within

rest_is : (k d : ℕ) (xs front rest : List ℕ) → xs ≡ front ++ rest → length front ≤ k → get_or xs k d ≡ get_or rest (k - length front) d
rest_is k d xs front rest is past = ap (λ ys. get_or ys k d) is ∙ get_or-append_right front rest (length front) k d refl past

both_long : (xs front rest : List ℕ) → xs ≡ front ++ rest → length xs ≡ length front + length rest
both_long xs front rest is = ap length is ∙ length-append front rest

cut_by : (place cut : ℕ) (xs front rest : List ℕ) → xs ≡ front ++ rest → ((k d : ℕ) → k < length front → get_or front k d < place) → ((k d : ℕ) → k < length rest → place ≤ get_or rest k d)
    → cut ≤ length xs → IsPartitionPoint (λ y. nat_lt y place ≡ true) (λ y. nat_lt y place ≡ false) xs cut
    → (before after : Bool) → nat_lt cut (length front) ≡ before → nat_lt (length front) cut ≡ after → cut ≡ length front
cut_by place cut xs front rest is low high within point true after e f =
    let in_front : cut < length front = ltb-true _ _ e in
    let not_below : place ≤ get_or xs cut 0 = ltb-false _ _ (point.1 cut 0 (omega arith) (omega (arith, both_long xs front rest is))) in
    absurd (omega (arith, low cut 0 in_front, front_is cut 0 xs front rest is in_front))
cut_by place cut xs front rest is low high within point false true e f =
    let past : length front < cut = ltb-true _ _ f in
    let some : 0 < length rest = omega (arith, both_long xs front rest is) in
    let below : get_or xs (length front) 0 < place = ltb-true _ _ (point.0 (length front) 0 (omega arith) past) in
    let none : length front - length front ≡ 0 = omega arith in
    let first : get_or xs (length front) 0 ≡ get_or rest 0 0 = rest_is (length front) 0 xs front rest is (omega arith) ∙ ap (λ n. get_or rest n 0) none in
    absurd (omega (arith, high 0 0 some))
cut_by place cut xs front rest is low high within point false false e f =
    let least : length front ≤ cut = ltb-false _ _ e in
    let most : cut ≤ length front = ltb-false _ _ f in
    omega arith

pub cut_at : (place cut : ℕ) (xs front rest : List ℕ) → xs ≡ front ++ rest → ((k d : ℕ) → k < length front → get_or front k d < place) → ((k d : ℕ) → k < length rest → place ≤ get_or rest k d)
    → cut ≤ length xs → IsPartitionPoint (λ y. nat_lt y place ≡ true) (λ y. nat_lt y place ≡ false) xs cut → cut ≡ length front
cut_at place cut xs front rest is low high within point = cut_by place cut xs front rest is low high within point (nat_lt cut (length front)) (nat_lt (length front) cut) refl refl

parted_by : (place i j d : ℕ) (xs front rest : List ℕ) → xs ≡ front ++ rest → ((k e : ℕ) → k < length front → get_or front k e < place) → ((k e : ℕ) → k < length rest → place ≤ get_or rest k e)
    → i ≤ j → j < length xs → nat_lt (get_or xs j d) place ≡ true → (here : Bool) → nat_lt i (length front) ≡ here → nat_lt (get_or xs i d) place ≡ true
parted_by place i j d xs front rest is low high order within e true f =
    let in_front : i < length front = ltb-true _ _ f in
    lt-ltb _ _ (omega (arith, low i d in_front, front_is i d xs front rest is in_front))
parted_by place i j d xs front rest is low high order within e false f =
    let past : length front ≤ j = omega (arith, ltb-false _ _ f) in
    let below : get_or xs j d < place = ltb-true _ _ e in
    absurd (omega (arith, high (j - length front) d (omega (arith, both_long xs front rest is)), rest_is j d xs front rest is past))

pub parted : (place : ℕ) (xs front rest : List ℕ) → xs ≡ front ++ rest → ((k e : ℕ) → k < length front → get_or front k e < place) → ((k e : ℕ) → k < length rest → place ≤ get_or rest k e)
    → IsPartitionedBy (λ y. nat_lt y place) xs
parted place xs front rest is low high = λ i j d order within e. parted_by place i j d xs front rest is low high order within e (nat_lt i (length front)) refl

-- the touched places in front of a place, and those from it on
pub touched_parts : (old : ℕ) (touched : List ℕ) (place : ℕ) → ArePlaces old touched → place ≤ old
    → touched ≡ filter (is_listed touched) (range_with_len 0 place) ++ filter (is_listed touched) (range_with_len place (old - place))
touched_parts old touched place places before =
    let whole : old ≡ place + (old - place) = omega arith in
    places ∙ ap (λ n. filter (is_listed touched) (range_with_len 0 n)) whole ∙ ap (filter (is_listed touched)) (range_parts 0 place (old - place))
    ∙ filter-append (is_listed touched) (range_with_len 0 place) (range_with_len (0 + place) (old - place))
    ∙ ap (λ n. filter (is_listed touched) (range_with_len 0 place) ++ filter (is_listed touched) (range_with_len n (old - place))) (zero-add place)

pub front_low : (touched : List ℕ) (place k d : ℕ) → k < length (filter (is_listed touched) (range_with_len 0 place)) → get_or (filter (is_listed touched) (range_with_len 0 place)) k d < place
front_low touched place k d within = let at = row_within (is_listed touched) 0 place k d within in omega arith

pub rest_high : (touched : List ℕ) (place len k d : ℕ) → k < length (filter (is_listed touched) (range_with_len place len)) → place ≤ get_or (filter (is_listed touched) (range_with_len place len)) k d
rest_high touched place len k d within = let at = row_within (is_listed touched) place len k d within in omega arith

pub below_next : (chosen : ℕ → Bool) (place : ℕ) → count_by chosen (range_with_len 0 (place + 1)) ≡ count_by chosen (range_with_len 0 place) + cond (chosen place) 1 0
below_next chosen place =
    let one : count_by chosen (range_with_len place 1) ≡ cond (chosen place) 1 0 + count_by chosen (range_with_len (place + 1) 0) = count_cons chosen place [] in
    let none : count_by chosen (range_with_len (place + 1) 0) ≡ 0 = refl in
    below_parts chosen place 1 ∙ (omega arith)

told_by : (before now : ℕ) (here : Bool) → now ≡ before + cond here 1 0 → nat_lt before now ≡ here
told_by before now true is = lt-ltb _ _ (omega arith)
told_by before now false is = le-ltb _ _ (omega arith)

pub contains_told : (chosen : ℕ → Bool) (place : ℕ) → nat_lt (count_by chosen (range_with_len 0 place)) (count_by chosen (range_with_len 0 (place + 1))) ≡ chosen place
contains_told chosen place = told_by (count_by chosen (range_with_len 0 place)) (count_by chosen (range_with_len 0 (place + 1))) (chosen place) (below_next chosen place)
