use Rattle.std.proofs.Common.{arith}
use Rattle.sia_merkle.specs.Roots.{leaf_digest}
use Rattle.sia_merkle.proofs.Fours.{four_digests}
use Rattle.sia_merkle.proofs.groups.four_leaves.Goals as goal

pub returns : goal.returns
unfolding leaf_digest
returns c = four_digests c.args.bytes.now c.digest_four.result c.requires (omega arith) c.digest_four.ensures
