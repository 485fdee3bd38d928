use Rattle.std.proofs.Common.{◌≡◌}
use Rattle.sia_blake.specs.Blake2b.{hash_after}
use Rattle.sia_blake.proofs.digest.Given as goal

abbrev pub invariant-blocks-2 : goal.invariant-blocks-2
invariant-blocks-2 l = l.h ≡ hash_after l.bytes l.i
