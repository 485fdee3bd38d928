use Rattle.std.proofs.Common.{refl}
use Rattle.sia_blake.specs.Blake2b.{hash_after}
use Rattle.sia_blake.proofs.state.HashState.new.Goals as goal

pub returns : goal.returns
unfolding hash_after
returns c = record { taken = refl; used = refl; hash = refl; buffer = refl }
