use Rattle.std.proofs.Common.{refl}
use Rattle.sia_blake.specs.Blake2b.{folded}
use Rattle.sia_blake.proofs.compression.folded.Goals as goal

pub returns : goal.returns
unfolding folded
returns c = refl
