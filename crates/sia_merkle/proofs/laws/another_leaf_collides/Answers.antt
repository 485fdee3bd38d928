use Rattle.sia_merkle.proofs.LeafSoundness.{another_leaf}
use Rattle.sia_merkle.proofs.laws.another_leaf_collides.Goals as goal

pub returns : goal.returns
returns c = λ bytes root leaf place hashes within is sized correct other. another_leaf bytes root leaf place hashes within is sized correct other
