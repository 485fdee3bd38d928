-- Where slots pass, none is live twice.
use Rattle.std.proofs.Common.{◌≡◌, ◌⊎◌, inl, inr, ℕ, zero, suc, ◌+◌, ◌<◌, ◌≤◌, true, List, All, Contains, take, refl, sym, ap, subst, arith}
use Rattle.std.specs.List.{range_with_len}
use Rattle.std.proofs.lemmas.List.Elements.{All-cons, All-filter, All-nil, All-take}
use Rattle.sia_kept.specs.State.{is_free_slot}
use Rattle.sia_slots.specs.Slots.{NamedOnce, SlotsPass, StaysOnce, free_below, times}
use Rattle.sia_slots.proofs.Times.{contained, found, free_none, passes, row_once, times_filter, times_take}

-- the slots of a row are below its end
row_below : (high low len : ℕ) → low + len ≤ high → All (λ (slot : ℕ). slot < high) (range_with_len low len)
row_below high low zero fits = All-nil (λ (slot : ℕ). slot < high)
row_below high low (suc len) fits =
    All-cons (λ (slot : ℕ). slot < high) low (range_with_len (low + 1) len) (omega (arith, fits)) (row_below high (low + 1) len (omega (arith, fits)))

-- those that are taken are free, and each is taken once at most
taken_free : (live : List ℕ) (slots n k slot : ℕ) (taken : List ℕ) → taken ≡ take k (take n (free_below slots live)) → times slot taken ≤ times slot (free_below slots live)
taken_free live slots n k slot taken is =
    let same : times slot taken ≡ times slot (take k (take n (free_below slots live))) = ap (times slot) is in
    omega (arith, same, times_take slot k (take n (free_below slots live)), times_take slot n (free_below slots live))

-- so no slot is live and taken, nor twice either
live_or_taken : (live : List ℕ) (slots n k slot : ℕ) (taken : List ℕ) → NamedOnce live → taken ≡ take k (take n (free_below slots live)) → times slot live + times slot taken ≤ 1
live_or_taken live slots n k slot taken once is = by (times slot taken) refl
  where
    few : times slot taken ≤ times slot (free_below slots live)
    few = taken_free live slots n k slot taken is

    by : (t : ℕ) → times slot taken ≡ t → times slot live + times slot taken ≤ 1
    by zero none = omega (arith, none, once slot)
    by (suc t) some =
        let free : is_free_slot live slot ≡ true = passes (is_free_slot live) slot (range_with_len 0 slots) (omega (arith, some, few)) in
        omega (arith, free_none slot live free, few, times_filter (is_free_slot live) slot (range_with_len 0 slots), row_once slot 0 slots)

-- a slot that was live or taken is contained
either : (live taken : List ℕ) (slot : ℕ) → 0 < times slot live + times slot taken → Contains live slot ⊎ Contains taken slot
either live taken slot some = by (times slot live) refl
  where
    by : (n : ℕ) → times slot live ≡ n → Contains live slot ⊎ Contains taken slot
    by zero none = inr (found slot taken (omega (arith, none, some)))
    by (suc n) many = inl (found slot live (omega (arith, many)))

pub stays_once : (live : List ℕ) (slots n k : ℕ) (taken after freed : List ℕ) → NamedOnce live → taken ≡ take k (take n (free_below slots live)) → SlotsPass live taken after freed → StaysOnce slots live taken after freed
stays_once live slots n k taken after freed once is pass =
    let few : (slot : ℕ) → times slot live + times slot taken ≤ 1 = λ slot. live_or_taken live slots n k slot taken once is in
    let later : NamedOnce after = λ slot. omega (arith, few slot, pass slot) in
    let out : NamedOnce freed = λ slot. omega (arith, few slot, pass slot) in
    let gone : (slot : ℕ) → Contains freed slot → (Contains after slot → ⊥) × (Contains live slot ⊎ Contains taken slot) =
    λ slot free. let some = contained slot freed free in
    ((λ still. omega (arith, contained slot after still, some, few slot, pass slot)), either live taken slot (omega (arith, some, pass slot))) in
    let below : All (λ (slot : ℕ). slot < slots) taken =
    subst (λ xs. All (λ (slot : ℕ). slot < slots) xs) (sym is) (All-take (λ (slot : ℕ). slot < slots) k (take n (free_below slots live)) (All-take (λ (slot : ℕ). slot < slots) n (free_below slots live)
    (All-filter (is_free_slot live) (λ (slot : ℕ). slot < slots) (range_with_len 0 slots) (row_below slots 0 slots (omega arith))))) in
    (later, gone, out, below)
