-- How often a slot stands in a list.
use Rattle.std.proofs.Common.{◌≡◌, ◌∙◌, ℕ, zero, suc, ◌+◌, ◌<◌, ◌≤◌, ◌==◌, Bool, true, false, not, cond, List, [], ◌∷◌, ◌++◌, Contains, map, take, get_or, refl, sym, ap, arith}
use Rattle.std.specs.Prelude.{count_by}
use Rattle.std.specs.List.{filter, list_any, range_with_len}
use Rattle.std.proofs.lemmas.Bool.{eq-eqb, eqb-true, ne_eqb, not-true, or_parts}
use Rattle.std.proofs.lemmas.List.Elements.{All-contains, filter_passes}
use Rattle.std.proofs.lemmas.List.Filters.{sum_by-filter_both}
use Rattle.std.proofs.lemmas.List.Sums.{get_or-le-sum_by, sum_by-append, sum_by-cons, sum_by-take-le}
use Rattle.sia_cover.proofs.Joins.{count_none}
use Rattle.sia_records.specs.Stored.{Stored}
use Rattle.sia_kept.specs.State.{is_free_slot}
use Rattle.sia_slots.specs.Slots.{times}

-- how often a slot stands in a list of one
abbrev pub one_if : ℕ → ℕ → ℕ
one_if slot x = cond (x == slot) 1 0

-- in one more
pub times_cons : (slot x : ℕ) (xs : List ℕ) → times slot (x ∷ xs) ≡ one_if slot x + times slot xs
times_cons slot x xs = sum_by-cons (one_if slot) x xs

-- in two lists
pub times_append : (slot : ℕ) (xs ys : List ℕ) → times slot (xs ++ ys) ≡ times slot xs + times slot ys
times_append slot xs ys = sum_by-append (one_if slot) xs ys

-- what a list contains stands in it
pub contained : (slot : ℕ) (xs : List ℕ) → Contains xs slot → 0 < times slot xs
contained slot xs there =
    let here : one_if slot (get_or xs there.0 slot) ≤ times slot xs = get_or-le-sum_by (one_if slot) xs there.0 slot there.1 in
    let one : one_if slot (get_or xs there.0 slot) ≡ 1 = rw (eq-eqb (get_or xs there.0 slot) slot there.2) refl in
    omega (arith, here, one)

found_by : (slot x : ℕ) (xs : List ℕ) (b : Bool) → (x == slot) ≡ b → (0 < times slot xs → Contains xs slot) → 0 < times slot (x ∷ xs) → Contains (x ∷ xs) slot
found_by slot x xs true is later some = (0, omega arith, eqb-true x slot is)
found_by slot x xs false is later some =
    let none : one_if slot x ≡ 0 = rw is refl in
    let there = later (omega (arith, some, none, times_cons slot x xs)) in
    (suc there.0, omega (arith, there.1), there.2)

-- and what stands in it is contained
pub found : (slot : ℕ) (xs : List ℕ) → 0 < times slot xs → Contains xs slot
found slot [] some = absurd (omega (arith, some))
found slot (x ∷ xs) some = found_by slot x xs (x == slot) refl (found slot xs) some

-- of the first of a list no slot stands there more often than in all of it
pub times_take : (slot n : ℕ) (xs : List ℕ) → times slot (take n xs) ≤ times slot xs
times_take slot n xs = sum_by-take-le (one_if slot) xs n

-- nor of those that pass a test
pub times_filter : (test : ℕ → Bool) (slot : ℕ) (xs : List ℕ) → times slot (filter test xs) ≤ times slot xs
times_filter test slot xs = omega (arith, sum_by-filter_both test (λ x. not (test x)) (λ _. refl) (one_if slot) xs)

-- what stands among those passes the test
pub passes : (test : ℕ → Bool) (slot : ℕ) (xs : List ℕ) → 0 < times slot (filter test xs) → test slot ≡ true
passes test slot xs some = All-contains (λ x. test x ≡ true) (filter test xs) slot (filter_passes test xs) (found slot (filter test xs) some)

-- a row of numbers has each once at most
row_once_by : (slot low len : ℕ) (b : Bool) → (low == slot) ≡ b → times slot (range_with_len (low + 1) len) ≤ 1 → times slot (range_with_len low (suc len)) ≤ 1
row_once_by slot low len true is later =
    let same : low ≡ slot = eqb-true low slot is in
    let none : times slot (range_with_len (low + 1) len) ≡ 0 = count_none (λ (other : ℕ). other == slot) (low + 1) len (λ place from to. ne_eqb place slot (λ at. omega (arith, at, from, same))) in
    let one : one_if slot low ≡ 1 = rw is refl in
    omega (arith, times_cons slot low (range_with_len (low + 1) len), none, one)
row_once_by slot low len false is later =
    let none : one_if slot low ≡ 0 = rw is refl in
    omega (arith, times_cons slot low (range_with_len (low + 1) len), none, later)

pub row_once : (slot low len : ℕ) → times slot (range_with_len low len) ≤ 1
row_once slot low zero = omega arith
row_once slot low (suc len) = row_once_by slot low len (low == slot) refl (row_once slot (low + 1) len)

-- what isn't among some doesn't stand there
none_there : (slot : ℕ) (xs : List ℕ) → list_any (λ (other : ℕ). other == slot) xs ≡ false → times slot xs ≡ 0
none_there slot [] is = refl
none_there slot (x ∷ xs) is =
    let parts = or_parts (x == slot) (list_any (λ (other : ℕ). other == slot) xs) is in
    let none : one_if slot x ≡ 0 = rw parts.0 refl in
    omega (arith, times_cons slot x xs, none, none_there slot xs parts.1)

-- so a free slot isn't live
pub free_none : (slot : ℕ) (live : List ℕ) → is_free_slot live slot ≡ true → times slot live ≡ 0
free_none slot live is = none_there slot live (not-true (list_any (λ (other : ℕ). other == slot) live) is)

-- in the slots of sectors
pub times_map : (slot : ℕ) (sectors : List Stored) → times slot (map (λ (s : Stored). s.slot) sectors) ≡ count_by (λ (s : Stored). s.slot == slot) sectors
times_map slot [] = refl
times_map slot (x ∷ xs) =
    times_cons slot x.slot (map (λ (s : Stored). s.slot) xs) ∙ ap (λ n. one_if slot x.slot + n) (times_map slot xs)
    ∙ sym (sum_by-cons (λ (s : Stored). cond (s.slot == slot) 1 0) x xs)
