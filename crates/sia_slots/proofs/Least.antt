-- The free slots of a shelf, and how many there are at least.
use Rattle.std.proofs.Common.{◌≡◌, ◌∙◌, ⊎_elim, ℕ, ◌+◌, ◌-◌, ◌<◌, ◌≤◌, ◌==◌, ◌||◌, Bool, true, false, not, cond, min, List, [], ◌∷◌, length, take, length-take, refl, sym, ap, arith}
use Rattle.std.specs.Prelude.{count_by}
use Rattle.std.specs.List.{filter, list_any, range_with_len}
use Rattle.std.proofs.lemmas.Bool.{cases_lt, eq-eqb, eqb-true}
use Rattle.std.proofs.lemmas.List.{take-append-le, take-take}
use Rattle.std.proofs.lemmas.List.Elements.{filter-append}
use Rattle.std.proofs.lemmas.List.Sums.{length-filter}
use Rattle.sia_cover.proofs.Counts.{count_all}
use Rattle.sia_cover.proofs.Joins.{count_cons, range_parts}
use Rattle.sia_commands.specs.declared.step.Room.{Room}
use Rattle.sia_kept.specs.State.{is_free_slot, live_slots}
use Rattle.sia_host.specs.Answered.{Host}
use Rattle.sia_host.specs.Replaying.{HasLeast, least_free}
use Rattle.sia_slots.specs.Slots.{free_below}
use Rattle.sia_slots.proofs.Times.{row_once}

-- where one test fails at most where another passes or a third does
count_split : (p q r : ℕ → Bool) → ((k : ℕ) → cond (p k) 1 0 ≤ cond (q k) 1 0 + cond (r k) 1 0) → (xs : List ℕ) → count_by p xs ≤ count_by q xs + count_by r xs
count_split p q r each [] = omega arith
count_split p q r each (x ∷ xs) = omega (arith, each x, count_split p q r each xs, count_cons p x xs, count_cons q x xs, count_cons r x xs)

-- a slot that isn't free any more with one more that is live is that one
one_more_by : (a b c : Bool) → (a ≡ true → c ≡ true) → cond (not b) 1 0 ≤ cond (not (a || b)) 1 0 + cond c 1 0
one_more_by true true c so = omega arith
one_more_by true false c so = rw (so refl) (omega arith)
one_more_by false b c so = omega arith

one_more : (live : List ℕ) (x k : ℕ) → cond (is_free_slot live k) 1 0 ≤ cond (is_free_slot (x ∷ live) k) 1 0 + cond (k == x) 1 0
one_more live x k = one_more_by (x == k) (list_any (λ (other : ℕ). other == k) live) (k == x) (λ is. eq-eqb k x (sym (eqb-true x k is)))

-- of a row all are free but as many as are live
many_free : (live : List ℕ) (low len : ℕ) → len ≤ count_by (is_free_slot live) (range_with_len low len) + length live
many_free [] low len = omega (arith, count_all (is_free_slot []) low len (λ place from to. refl))
many_free (x ∷ live) low len =
    omega (arith, many_free live low len, count_split (is_free_slot live) (is_free_slot (x ∷ live)) (λ (k : ℕ). k == x) (one_more live x) (range_with_len low len), row_once x low len)

-- the free slots of a longer row begin with those of a shorter one
longer : (live : List ℕ) (m a k : ℕ) → m ≤ length (free_below a live) → take m (free_below (a + k) live) ≡ take m (free_below a live)
longer live m a k few =
    ap (λ xs. take m (filter (is_free_slot live) xs)) (range_parts 0 a k)
    ∙ ap (take m) (filter-append (is_free_slot live) (range_with_len 0 a) (range_with_len (0 + a) k))
    ∙ take-append-le m (free_below a live) (filter (is_free_slot live) (range_with_len (0 + a) k)) few

-- so the first ones are the same where there are enough in both
same_front : (live : List ℕ) (m a b : ℕ) → m ≤ length (free_below a live) → m ≤ length (free_below b live) → take m (free_below a live) ≡ take m (free_below b live)
same_front live m a b few enough = ⊎_elim (λ under. up under) (λ over. down over) (cases_lt a b)
  where
    up : a < b → take m (free_below a live) ≡ take m (free_below b live)
    up under =
        let all : a + (b - a) ≡ b = omega (arith, under) in
        sym (longer live m a (b - a) few) ∙ ap (λ n. take m (free_below n live)) all

    down : b ≤ a → take m (free_below a live) ≡ take m (free_below b live)
    down over =
        let all : b + (a - b) ≡ a = omega (arith, over) in
        ap (λ n. take m (free_below n live)) (sym all) ∙ longer live m b (a - b) enough

-- the first free slots of a shelf are the least ones
pub front_is_least : (free live : List ℕ) (n slots m : ℕ) → free ≡ take n (free_below slots live) → m ≤ length free → take m free ≡ least_free live m
front_is_least free live n slots m is few =
    let many : length free ≡ min n (length (free_below slots live)) = ap length is ∙ length-take n (free_below slots live) in
    let least : length (free_below (length live + m) live) ≡ count_by (is_free_slot live) (range_with_len 0 (length live + m)) = length-filter (is_free_slot live) (range_with_len 0 (length live + m)) in
    let enough : m ≤ length (free_below (length live + m) live) = omega (arith, least, many_free live 0 (length live + m)) in
    let here : m ≤ length (free_below slots live) = omega (arith, many, few) in
    let within : m ≤ n = omega (arith, many, few) in
    ap (take m) is ∙ take-take m n (free_below slots live) within ∙ same_front live m slots (length live + m) here enough

pub has_least : (h : Host) (room : Room) (n slots : ℕ) → room.free ≡ take n (free_below slots (live_slots h.state)) → HasLeast h room
has_least h room n slots is m few = front_is_least room.free (live_slots h.state) n slots m is few
