-- Marks of places, and the least places that have none.
use Rattle.std.proofs.Common.{◌≡◌, ◌≢◌, ◌∙◌, ◌+◌, ◌<◌, ◌≤◌, ◌==◌, ◌||◌, ℕ, Bool, true, false, not, List, [], ◌∷◌, ◌++◌, length, map, take, drop, append-nil, get_or, set, replicate, refl, sym, ap, arith}
use Rattle.std.specs.List.{filter, flat_map, list_any, range_with_len}
use Rattle.std.proofs.lemmas.Bool.{eqb-true, eq-eqb}
use Rattle.std.proofs.lemmas.List.{get_or-set_same, get_or-set_other, get_or-replicate, length-replicate, take_all, take_more, drop_all}
use Rattle.std.proofs.lemmas.Grind.{flat_map-append}
use Rattle.std.proofs.lemmas.List.Folds.{list_any_more}
use Rattle.sia_records.specs.Stored.{Stored}
use Rattle.sia_kept.specs.State.{Kept, is_free_slot}
use Rattle.sia_host.specs.Replaying.{least_free}
use Rattle.sia_host.specs.Marks.{AreMarked, is_unmarked}
use Rattle.sia_diff.proofs.Counts.{filter_row}

or_done : (a b : Bool) → (a || (b || true)) ≡ true
or_done true b = refl
or_done false true = refl
or_done false false = refl

or_stays : (a b : Bool) → (a || (b || false)) ≡ (a || b)
or_stays true b = refl
or_stays false true = refl
or_stays false false = refl

-- a place is among the first of these
abbrev among_first : List ℕ → ℕ → ℕ → Bool
among_first places i k = list_any (λ (place : ℕ). place == k) (take i places)

one_more : (start : List Bool) (places : List ℕ) (i k : ℕ) (b : Bool) → i < length places → (get_or places i 0 == k) ≡ b
    → (get_or start k false || among_first places (i + 1) k) ≡ (get_or start k false || (among_first places i k || b))
one_more start places i k b within is =
    ap (λ c. get_or start k false || c) (list_any_more (λ (place : ℕ). place == k) places i 0 within ∙ ap (λ c. among_first places i k || c) is)

-- a place more is marked
pub marked_more : (start marks : List Bool) (places : List ℕ) (i : ℕ) → i < length places → length marks ≡ length start → get_or places i 0 < length marks
    → AreMarked start marks (take i places) → AreMarked start (set marks (get_or places i 0) true) (take (i + 1) places)
marked_more start marks places i within sized here before k below = by (get_or places i 0 == k) refl
  where
    by : (b : Bool) → (get_or places i 0 == k) ≡ b → get_or (set marks (get_or places i 0) true) k false ≡ (get_or start k false || among_first places (i + 1) k)
    by true is =
        let at : get_or places i 0 ≡ k = eqb-true (get_or places i 0) k is in
        let small : k < length marks = omega arith in
        ap (λ n. get_or (set marks n true) k false) at ∙ get_or-set_same marks k true false small ∙ sym (one_more start places i k true within is ∙ or_done (get_or start k false) (among_first places i k))
    by false is =
        let other : k ≢ get_or places i 0 = λ same. absurd (let again : (get_or places i 0 == k) ≡ true = eq-eqb (get_or places i 0) k (sym same) in cc) in
        get_or-set_other marks (get_or places i 0) k true false other ∙ before k below ∙ sym (one_more start places i k false within is ∙ or_stays (get_or start k false) (among_first places i k))

-- a place behind the marks
pub marked_past : (start marks : List Bool) (places : List ℕ) (i : ℕ) → i < length places → length marks ≡ length start → length marks ≤ get_or places i 0
    → AreMarked start marks (take i places) → AreMarked start marks (take (i + 1) places)
marked_past start marks places i within sized past before k below = by (get_or places i 0 == k) refl
  where
    by : (b : Bool) → (get_or places i 0 == k) ≡ b → get_or marks k false ≡ (get_or start k false || among_first places (i + 1) k)
    by true is = let at : get_or places i 0 ≡ k = eqb-true (get_or places i 0) k is in absurd (omega arith)
    by false is = before k below ∙ sym (one_more start places i k false within is ∙ or_stays (get_or start k false) (among_first places i k))

-- none is marked yet
pub none_marked : (marks : List Bool) → AreMarked marks marks []
none_marked marks k below = by (get_or marks k false)
  where
    by : (b : Bool) → b ≡ (b || false)
    by true = refl
    by false = refl

-- all are marked
pub all_marked : (start marks : List Bool) (places : List ℕ) (i : ℕ) → length places ≤ i → AreMarked start marks (take i places) → AreMarked start marks places
all_marked start marks places i past so k below = so k below ∙ ap (λ ps. get_or start k false || list_any (λ (place : ℕ). place == k) ps) (take_all i places past)

-- where just the live slots are marked, the least places without a mark are the least free slots
pub least_are_free : (live : List ℕ) (count : ℕ) (start marks : List Bool) (free : List ℕ) → start ≡ replicate (length live + count) false → length marks ≡ length start → AreMarked start marks live
    → free ≡ take count (filter (is_unmarked marks) (range_with_len 0 (length marks))) → free ≡ least_free live count
least_are_free live count start marks free begins sized marked is =
    let long : length start ≡ length live + count = ap length begins ∙ length-replicate (length live + count) false in
    let many : length marks ≡ length live + count = sized ∙ long in
    let same : (k : ℕ) → 0 ≤ k → k < 0 + (length live + count) → is_unmarked marks k ≡ is_free_slot live k = (λ k low high.
    let inside : k < length live + count = omega arith in
    let below : k < length start = omega arith in
    let clear : get_or start k false ≡ false = ap (λ xs. get_or xs k false) begins ∙ get_or-replicate (length live + count) k false false inside in
    ap not (marked k below ∙ ap (λ b. b || list_any (λ (place : ℕ). place == k) live) clear)) in
    is ∙ ap (λ n. take count (filter (is_unmarked marks) (range_with_len 0 n))) many ∙ ap (take count) (filter_row (is_unmarked marks) (is_free_slot live) 0 (length live + count) same)

-- what is written back over all that was there is all that is there
pub whole_again : (now items : List Bool) (len : ℕ) → len ≡ length items → length now ≡ length items → take len (now ++ drop (length now) items) ≡ now
whole_again now items len all same =
    let none : drop (length now) items ≡ [] = drop_all (length now) items (omega arith) in
    ap (λ rest. take len (now ++ rest)) none ∙ ap (take len) (append-nil now) ∙ take_all len now (omega arith)

-- the slots of one contract more
pub live_more : (contracts : List Kept) (i : ℕ) (live now : List ℕ) (c : Kept) → i < length contracts → c ≡ get_or contracts i c
    → live ≡ flat_map (λ (k : Kept). map (λ (s : Stored). s.slot) k.sectors) (take i contracts) → now ≡ live ++ map (λ (s : Stored). s.slot) c.sectors
    → now ≡ flat_map (λ (k : Kept). map (λ (s : Stored). s.slot) k.sectors) (take (i + 1) contracts)
live_more contracts i live now c within is so_far grown =
    let slots = λ (k : Kept). map (λ (s : Stored). s.slot) k.sectors in
    let more : take (i + 1) contracts ≡ take i contracts ++ c ∷ [] = take_more contracts i c within ∙ ap (λ k. take i contracts ++ k ∷ []) (sym is) in
    let all : flat_map slots (take (i + 1) contracts) ≡ flat_map slots (take i contracts) ++ slots c =
    ap (flat_map slots) more ∙ flat_map-append slots (take i contracts) (c ∷ []) ∙ ap (λ xs. flat_map slots (take i contracts) ++ xs) (append-nil (slots c)) in
    grown ∙ ap (λ xs. xs ++ slots c) so_far ∙ sym all
