-- A message that comes in pieces.
use Rattle.std.proofs.Common.{◌≡◌, ℕ, zero, suc, ◌+◌, ◌-◌, ◌*◌, ◌/◌, ◌<◌, ◌≤◌, List, ◌++◌, length, take, drop, false, refl, sym, ap, ◌∙◌, arith, append_assoc, length-append}
use Rattle.std.proofs.lemmas.List.{take_all, take-append-le, drop-append-le, length-drop, take-append-drop, take-take, drop-take}
use Rattle.std.proofs.Math.Seq.{drop-append_seam}
use Rattle.sia_blake.specs.Blake2b.{compress, hash_after, blocks_before_last}
use Rattle.sia_blake.specs.Absorbing.{IsAbsorbed, IsPassed}
use Rattle.sia_blake.specs.declared.state.HashState.{HashState}
use Rattle.sia_blake.proofs.Blocks.{hash_after_next}

-- whole blocks of m stay what they are where m goes on
pub hash_after-append : (m x : List ℕ) (n : ℕ) → n * 128 ≤ length m → hash_after (m ++ x) n ≡ hash_after m n
unfolding hash_after
hash_after-append m x zero fits = refl
hash_after-append m x (suc n) fits =
    let before : hash_after (m ++ x) n ≡ hash_after m n = hash_after-append m x n (omega arith) in
    let rest : drop (n * 128) (m ++ x) ≡ drop (n * 128) m ++ x = drop-append-le (n * 128) m x (omega arith) in
    let block : take 128 (drop (n * 128) m ++ x) ≡ take 128 (drop (n * 128) m) =
    take-append-le 128 (drop (n * 128) m) x (omega (arith, length-drop (n * 128) m)) in
    rw (before, rest, block) refl

-- bytes for which the buffer has room
pub absorbed_fill : (s : HashState) (m x b : List ℕ) → IsAbsorbed s m → s.used + length x ≤ 128
    → take (s.used + length x) b ≡ take s.used s.buffer ++ x
    → IsAbsorbed (record { h = s.h; buffer = b; used = s.used + length x; taken = s.taken }) (m ++ x)
absorbed_fill s m x b held room filled =
    let n : ℕ = blocks_before_last m in
    let len : length (m ++ x) ≡ length m + length x = length-append m x in
    let taken : s.taken ≡ n * 128 = held.taken in
    let used : s.taken + s.used ≡ length m = held.used in
    let same : n ≡ blocks_before_last (m ++ x) = omega arith in
    record {
      taken = taken ∙ ap (λ (k : ℕ). k * 128) same;
      used = omega arith;
      hash = held.hash ∙ sym (hash_after-append m x n (omega arith)) ∙ ap (hash_after (m ++ x)) same;
      buffer = filled ∙ ap (λ (y : List ℕ). y ++ x) held.buffer ∙ sym (drop-append-le s.taken m x (omega arith));
    }

-- the full buffer, once more bytes come
pub passed_buffer : (s : HashState) (m h : List ℕ) → IsAbsorbed s m → s.used ≡ 128 → length s.buffer ≡ 128
    → h ≡ compress s.h s.buffer (s.taken + 128) false
    → IsPassed (record { h = h; buffer = s.buffer; used = s.used; taken = s.taken + 128 }) m
passed_buffer s m h held full long is =
    let n : ℕ = blocks_before_last m in
    let taken : s.taken ≡ n * 128 = held.taken in
    let used : s.taken + s.used ≡ length m = held.used in
    let count : n + 1 ≡ length m / 128 = omega arith in
    let width : s.taken + 128 - s.taken ≡ 128 = omega arith in
    let block : s.buffer ≡ take (s.taken + 128 - s.taken) (drop s.taken m) =
    sym (take_all 128 s.buffer (omega arith)) ∙ rw full at held.buffer
    ∙ sym (take_all (s.taken + 128 - s.taken) (drop s.taken m) (omega (arith, length-drop s.taken m))) in
    record {
      taken = omega arith;
      whole = omega arith;
      hash = hash_after_next m n s.taken (s.taken + 128) s.h h taken refl held.hash
          (is ∙ ap (λ (b : List ℕ). compress s.h b (s.taken + 128) false) block) ∙ ap (hash_after m) count;
    }

-- one more block, once more bytes come
pub passed_block : (s : HashState) (m block h : List ℕ) → IsPassed s m → length block ≡ 128
    → h ≡ compress s.h block (s.taken + 128) false
    → IsPassed (record { h = h; buffer = s.buffer; used = s.used; taken = s.taken + 128 }) (m ++ block)
passed_block s m block h held long is =
    let n : ℕ = length m / 128 in
    let len : length (m ++ block) ≡ length m + length block = length-append m block in
    let taken : s.taken ≡ length m = held.taken in
    let whole : length m ≡ n * 128 = held.whole in
    let count : n + 1 ≡ length (m ++ block) / 128 = omega arith in
    let at : s.taken ≡ n * 128 = omega arith in
    let rest : block ≡ take (s.taken + 128 - s.taken) (drop s.taken (m ++ block)) =
    rw (taken, drop-append_seam m block) (sym (take_all (length m + 128 - length m) block (omega arith))) in
    record {
      taken = omega arith;
      whole = omega arith;
      hash = hash_after_next (m ++ block) n s.taken (s.taken + 128) s.h h at refl
          (held.hash ∙ sym (hash_after-append m block n (omega arith)))
          (is ∙ ap (λ (b : List ℕ). compress s.h b (s.taken + 128) false) rest) ∙ ap (hash_after (m ++ block)) count;
    }

-- the last bytes, once they go into the buffer
pub absorbed_rest : (s : HashState) (m x b : List ℕ) → IsPassed s m → 0 < length x → length x ≤ 128 → take (length x) b ≡ x
    → IsAbsorbed (record { h = s.h; buffer = b; used = length x; taken = s.taken }) (m ++ x)
absorbed_rest s m x b held some few kept =
    let n : ℕ = length m / 128 in
    let len : length (m ++ x) ≡ length m + length x = length-append m x in
    let taken : s.taken ≡ length m = held.taken in
    let whole : length m ≡ n * 128 = held.whole in
    let count : n ≡ blocks_before_last (m ++ x) = omega arith in
    record {
      taken = omega arith;
      used = omega arith;
      hash = held.hash ∙ sym (hash_after-append m x n (omega arith)) ∙ ap (hash_after (m ++ x)) count;
      buffer = kept ∙ rw taken (sym (drop-append_seam m x));
    }

-- 128 bytes more of x, after m
pub one_more_block : (m x : List ℕ) (a b : ℕ) → b ≡ a + 128 → (m ++ take a x) ++ take (a + 128 - a) (drop a x) ≡ m ++ take b x
one_more_block m x a b is =
    let width : a + 128 - a ≡ 128 = omega arith in
    let front : take a (take (a + 128) x) ≡ take a x = take-take a (a + 128) x (omega arith) in
    let back : drop a (take (a + 128) x) ≡ take 128 (drop a x) = drop-take a 128 x in
    let joined : take a (take (a + 128) x) ++ drop a (take (a + 128) x) ≡ take (a + 128) x = take-append-drop a (take (a + 128) x) in
    rw (width, append_assoc, is) (ap (λ (y : List ℕ). m ++ y) (rw (front, back) at joined))

-- what is left of x, after m
pub the_rest : (m x : List ℕ) (a : ℕ) → (m ++ take a x) ++ drop a x ≡ m ++ x
the_rest m x a = append_assoc m (take a x) (drop a x) ∙ ap (λ (y : List ℕ). m ++ y) (take-append-drop a x)
