-- So many digests were made, and the last one is the bytes'.
use Rattle.std.proofs.Common.{◌≡◌, ◌<◌}
use Rattle.sia_blake.specs.Blake2b.{blake2b_256}
use Rattle.sia_bench.proofs.run.digest_again.Given as goal

abbrev pub invariant-again : goal.invariant-again
invariant-again l = (l.count ≡ l.counter) × (0 < l.counter → l.last ≡ blake2b_256 l.bytes)
