-- What the state of a hash between two pieces of a message holds.
use Rattle.std.specs.Prelude.{◌≡◌, ℕ, ◌+◌, ◌*◌, ◌/◌, List, length, take, drop}
use Rattle.sia_blake.specs.Blake2b.{hash_after, blocks_before_last}
use Rattle.sia_blake.specs.declared.state.HashState.{HashState}

-- the state s holds the message m: all its blocks but the last are in the hash, and the rest is in the buffer
pub record IsAbsorbed (s : HashState) (m : List ℕ) : Type 0 where
  pub taken : s.taken ≡ blocks_before_last m * 128
  pub used : s.taken + s.used ≡ length m
  pub hash : s.h ≡ hash_after m (blocks_before_last m)
  pub buffer : take s.used s.buffer ≡ drop s.taken m

-- all of m is in the hash of s, in whole blocks, none of them as the last one: more of the message must come
pub record IsPassed (s : HashState) (m : List ℕ) : Type 0 where
  pub taken : s.taken ≡ length m
  pub whole : length m ≡ length m / 128 * 128
  pub hash : s.h ≡ hash_after m (length m / 128)
