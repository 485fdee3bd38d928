-- The blocks of a message.
use Rattle.std.proofs.Common.{◌≡◌, ℕ, suc, ◌+◌, ◌-◌, ◌*◌, List, length, take, drop, true, false, refl, ◌∙◌, arith, add-one}
use Rattle.sia_blake.specs.Blake2b.{compress, hash_after, blocks_before_last, filled_block, final_hash, digest_bytes, blake2b_256}

-- one more block that isn't the last, the bytes from `at` to `end`
pub hash_after_next : (m : List ℕ) (n at end : ℕ) (h next : List ℕ) → at ≡ n * 128 → end ≡ at + 128 → h ≡ hash_after m n
    → next ≡ compress h (take (end - at) (drop at m)) end false → next ≡ hash_after m (n + 1)
unfolding hash_after
hash_after_next m n at end h next at_is end_is before is =
    let width : end - at ≡ 128 = omega arith in
    let whole : end ≡ suc n * 128 = omega arith in
    is ∙ rw (add-one, width, whole, at_is, before) refl

-- the digest, from the hash before the last block
pub digest_of : (m : List ℕ) (n : ℕ) (h last d : List ℕ) → n ≡ blocks_before_last m → h ≡ hash_after m n
    → last ≡ compress h (filled_block (drop (n * 128) m)) (length m) true → d ≡ digest_bytes last
    → d ≡ blake2b_256 m
unfolding blake2b_256 final_hash
digest_of m n h last d n_is before last_is is = rw (is, last_is, before, n_is) refl
