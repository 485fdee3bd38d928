use Rattle.std.proofs.Common.{◌≡◌, take}
use Rattle.sia_merkle.proofs.whole.root_by_hash.Given as goal

abbrev pub invariant-loop-hash : goal.invariant-loop-hash
invariant-loop-hash l = l.stack ≡ take l.hash-index l.hashes
