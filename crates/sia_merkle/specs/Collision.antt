-- What a broken digest would show: two messages of one digest (RFC 7693 claims that none can be found).
use Rattle.std.specs.Prelude.{ℕ, ◌≡◌, ◌≢◌, List}
use Rattle.sia_blake.specs.Blake2b.{blake2b_256}

-- first and second are different byte strings with one digest
pub record Collision (first second : List ℕ) : Type 0 where
  pub differ : first ≢ second
  pub one_digest : blake2b_256 first ≡ blake2b_256 second
