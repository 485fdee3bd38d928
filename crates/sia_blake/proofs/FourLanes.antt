-- Vectors of four lanes.
use Rattle.std.proofs.Common.{◌≡◌, ℕ, zero, suc, ◌<◌, ◌-◌, ◌*◌, ◌/◌, ◌%◌, ◌^◌, List, [], ◌∷◌, length, slice_index, bit_or, bit_xor, true, arith, refl, ◌∙◌}
use Rattle.std.specs.Simd.Lanes.{zip2}
use Rattle.sia_blake.specs.Blake2b.{xor_rotate, initial_hash, working_words, rounds, schedule, words, folded, compress, hash_after, filled_block, digest_bytes, blake2b_256}
use Rattle.sia_blake.proofs.Blocks.{digest_of}

-- what holds of each of the four lanes
pub below_four : (P : ℕ → Type 0) → P 0 → P 1 → P 2 → P 3 → (j : ℕ) → j < 4 → P j
below_four P p0 p1 p2 p3 zero h = p0
below_four P p0 p1 p2 p3 (suc zero) h = p1
below_four P p0 p1 p2 p3 (suc (suc zero)) h = p2
below_four P p0 p1 p2 p3 (suc (suc (suc zero))) h = p3
below_four P p0 p1 p2 p3 (suc (suc (suc (suc n)))) h = absurd (omega arith)

-- what holds of each list of four elements
pub four_lanes : (P : List ℕ → Type 0) → ((a b c d : ℕ) → P (a ∷ b ∷ c ∷ d ∷ [])) → (xs : List ℕ) → length xs ≡ 4 → P xs
four_lanes P p (a ∷ b ∷ c ∷ d ∷ []) h = p a b c d
four_lanes P p [] h = absurd (omega arith)
four_lanes P p (a ∷ []) h = absurd (omega arith)
four_lanes P p (a ∷ b ∷ []) h = absurd (omega arith)
four_lanes P p (a ∷ b ∷ c ∷ []) h = absurd (omega arith)
four_lanes P p (a ∷ b ∷ c ∷ d ∷ e ∷ xs) h = absurd (omega arith)

-- two shifts of each lane and an or are a rotation
abbrev Rotates : ℕ → List ℕ → List ℕ → Type 0
Rotates k a b = (j : ℕ) → j < 4
    → slice_index (zip2 bit_or
    (zip2 (λ x n. x / 2 ^ n) (zip2 bit_xor a b) (k ∷ k ∷ k ∷ k ∷ []))
    (zip2 (λ x n. x * 2 ^ n % 2 ^ 64) (zip2 bit_xor a b) ((64 - k) ∷ (64 - k) ∷ (64 - k) ∷ (64 - k) ∷ []))) j
    ≡ xor_rotate (slice_index a j) (slice_index b j) k

pub shifts_rotate : (k : ℕ) → 0 < k → k < 64 → (a : List ℕ) → length a ≡ 4 → (b : List ℕ) → length b ≡ 4 → Rotates k a b
shifts_rotate k low high =
    let right : k % 64 ≡ k = omega arith in
    let left : (64 - k) % 64 ≡ 64 - k = omega arith in
    four_lanes (λ a. (b : List ℕ) → length b ≡ 4 → Rotates k a b) (λ a0 a1 a2 a3.
    four_lanes (Rotates k (a0 ∷ a1 ∷ a2 ∷ a3 ∷ [])) (λ b0 b1 b2 b3.
    below_four _ (rw (right, left) refl) (rw (right, left) refl) (rw (right, left) refl) (rw (right, left) refl)))

-- a word in each lane, under two exclusive ors
abbrev Folds : ℕ → List ℕ → List ℕ → Type 0
Folds h a b = (j : ℕ) → j < 4
    → slice_index (zip2 bit_xor (zip2 bit_xor (h ∷ h ∷ h ∷ h ∷ []) a) b) j ≡ bit_xor (bit_xor h (slice_index a j)) (slice_index b j)

pub fold_lanes : (h : ℕ) (a : List ℕ) → length a ≡ 4 → (b : List ℕ) → length b ≡ 4 → Folds h a b
fold_lanes h =
    four_lanes (λ a. (b : List ℕ) → length b ≡ 4 → Folds h a b) (λ a0 a1 a2 a3.
    four_lanes (Folds h (a0 ∷ a1 ∷ a2 ∷ a3 ∷ [])) (λ b0 b1 b2 b3. below_four _ refl refl refl refl))

-- a message of 65 bytes has one block
pub digest_of_one_block : (first : ℕ) (piece hash d : List ℕ) → length piece ≡ 64
    → hash ≡ folded initial_hash (rounds (working_words initial_hash 65 true) (words (filled_block (first ∷ piece))) schedule)
    → d ≡ digest_bytes hash → d ≡ blake2b_256 (first ∷ piece)
unfolding compress hash_after
digest_of_one_block first piece hash d long is ends =
    let m : List ℕ = first ∷ piece in
    let len : length m ≡ 65 = omega arith in
    digest_of m 0 initial_hash hash d (omega arith) refl (is ∙ rw len refl) ends
