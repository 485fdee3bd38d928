-- Lists of words by their elements, and the twelve rounds one by one.
use Rattle.std.proofs.Common.{◌≡◌, ℕ, ◌%◌, ◌/◌, ◌^◌, ◌<◌, Bool, if◌then◌else◌, List, [], ◌∷◌, length, map, bit_xor, slice_index, refl, sym, ◌∙◌, arith}
use Rattle.std.specs.Int.{w64, bit_not}
use Rattle.std.specs.List.{range_with_len}
use Rattle.std.proofs.lemmas.Grind.{same_number_lists}
use Rattle.std.proofs.lemmas.List.FromFn.{get_or-map-range_with_len, length-map-range_with_len}
use Rattle.sia_blake.specs.Blake2b.{mixed, round, rounds, initialization, working_words}

-- a list of n words is its elements, one after another
pub listed : (n : ℕ) (v : List ℕ) → length v ≡ n → map (slice_index v) (range_with_len 0 n) ≡ v
listed n v long =
    let len : length (map (slice_index v) (range_with_len 0 n)) ≡ n = length-map-range_with_len (slice_index v) 0 n in
    same_number_lists _ v (len ∙ sym long)
    (λ k below. get_or-map-range_with_len (slice_index v) 0 n k k 0 (omega arith) (omega arith))

-- the eight mixings of a round, each from the words that the ones before it left
pub round_of : (v0 v1 v2 v3 v4 v5 v6 v7 v8 v9 v10 v11 v12 v13 v14 v15 : ℕ) (m : List ℕ) (q0 q1 q2 q3 q4 q5 q6 q7 : ℕ × ℕ × ℕ × ℕ)
    → q0 ≡ mixed v0 v4 v8 v12 (slice_index m 0) (slice_index m 1)
    → q1 ≡ mixed v1 v5 v9 v13 (slice_index m 2) (slice_index m 3)
    → q2 ≡ mixed v2 v6 v10 v14 (slice_index m 4) (slice_index m 5)
    → q3 ≡ mixed v3 v7 v11 v15 (slice_index m 6) (slice_index m 7)
    → q4 ≡ mixed q0.0 q1.1 q2.2 q3.3 (slice_index m 8) (slice_index m 9)
    → q5 ≡ mixed q1.0 q2.1 q3.2 q0.3 (slice_index m 10) (slice_index m 11)
    → q6 ≡ mixed q2.0 q3.1 q0.2 q1.3 (slice_index m 12) (slice_index m 13)
    → q7 ≡ mixed q3.0 q0.1 q1.2 q2.3 (slice_index m 14) (slice_index m 15)
    → q4.0 ∷ q5.0 ∷ q6.0 ∷ q7.0 ∷ q7.1 ∷ q4.1 ∷ q5.1 ∷ q6.1
    ∷ q6.2 ∷ q7.2 ∷ q4.2 ∷ q5.2 ∷ q5.3 ∷ q6.3 ∷ q7.3 ∷ q4.3 ∷ []
    ≡ round (v0 ∷ v1 ∷ v2 ∷ v3 ∷ v4 ∷ v5 ∷ v6 ∷ v7
    ∷ v8 ∷ v9 ∷ v10 ∷ v11 ∷ v12 ∷ v13 ∷ v14 ∷ v15 ∷ []) m
unfolding round
round_of v0 v1 v2 v3 v4 v5 v6 v7 v8 v9 v10 v11 v12 v13 v14 v15 m q0 q1 q2 q3 q4 q5 q6 q7 e0 e1 e2 e3 e4 e5 e6 e7 =
    rw (e7, e6, e5, e4, e3, e2, e1, e0) refl

-- no row is left
pub rounds_none : (v m : List ℕ) → v ≡ rounds v m []
unfolding rounds
rounds_none v m = refl

-- the round of the first row, and then the others
pub rounds_step : (v m row : List ℕ) (rows : List (List ℕ)) (v1 v2 : List ℕ)
    → v1 ≡ round v (map (slice_index m) row) → v2 ≡ rounds v1 m rows → v2 ≡ rounds v m (row ∷ rows)
unfolding rounds
rounds_step v m row rows v1 v2 first others = rw (← first) others

-- the working words of a count below 2 ^ 64, whose high word is zero
pub working_words_of : (h : List ℕ) (t flag : ℕ) (last : Bool) → t < 2 ^ 64
    → flag ≡ (if last then bit_not w64 (slice_index initialization 6) else slice_index initialization 6)
    → slice_index h 0 ∷ slice_index h 1 ∷ slice_index h 2 ∷ slice_index h 3
    ∷ slice_index h 4 ∷ slice_index h 5 ∷ slice_index h 6 ∷ slice_index h 7
    ∷ slice_index initialization 0 ∷ slice_index initialization 1
    ∷ slice_index initialization 2 ∷ slice_index initialization 3
    ∷ bit_xor (slice_index initialization 4) t ∷ slice_index initialization 5 ∷ flag ∷ slice_index initialization 7 ∷ []
    ≡ working_words h t last
unfolding working_words
working_words_of h t flag last fits is =
    let low : t % 2 ^ 64 ≡ t = omega arith in
    let high : t / 2 ^ 64 ≡ 0 = omega arith in
    rw (low, high, is) refl
