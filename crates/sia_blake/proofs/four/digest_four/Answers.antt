use Rattle.std.proofs.Common.{◌≡◌, ℕ, ◌*◌, ◌<◌, List, [], ◌∷◌, take, drop, slice_index_or, true, ap, ap₂, ◌∙◌, arith, lit<}
use Rattle.std.proofs.lemmas.List.{length-take-le, length-drop}
use Rattle.sia_blake.specs.Blake2b.{folded, initial_hash, rounds, working_words, words, filled_block, schedule, digest_bytes, blake2b_256}
use Rattle.sia_blake.proofs.FourLanes.{below_four, digest_of_one_block}
use Rattle.sia_blake.proofs.four.digest_four.Goals as goal

pub returns : goal.returns
returns c =
    let piece = λ (j : ℕ). take 64 (drop (64 * j) c.args.pieces.now) in
    let hash : (j : ℕ) → j < 4 → slice_index_or c.hashes.result j [] ≡ folded initial_hash (rounds (working_words initial_hash 65 true) (words (filled_block (c.args.first ∷ piece j))) schedule) =
    λ j below. c.hashes.ensures j below ∙ c.folded.ensures j below
    ∙ ap (folded initial_hash) (c.rounds.ensures j below
    ∙ ap₂ (λ (v m : List ℕ). rounds v m schedule) (c.first_words.ensures j below) (c.four_words.ensures j below)) in
    let one : (j : ℕ) (d : List ℕ) → j < 4 → d ≡ digest_bytes (slice_index_or c.hashes.result j []) → d ≡ blake2b_256 (c.args.first ∷ piece j) =
    λ j d below is. digest_of_one_block c.args.first (piece j) _ d (length-take-le 64 (drop (64 * j) c.args.pieces.now) (omega (arith, length-drop (64 * j) c.args.pieces.now))) (hash j below) is in
    below_four _ (one 0 _ (lit< tt) c.digest_bytes.ensures) (one 1 _ (lit< tt) c.digest_bytes-2.ensures)
    (one 2 _ (lit< tt) c.digest_bytes-3.ensures) (one 3 _ (lit< tt) c.digest_bytes-4.ensures)
