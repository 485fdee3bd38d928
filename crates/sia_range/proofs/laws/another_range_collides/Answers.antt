use Rattle.sia_merkle.specs.Roots.{leaves_of}
use Rattle.sia_range.proofs.RangeSoundness.{another_range}
use Rattle.sia_range.proofs.laws.another_range_collides.Goals as goal

pub returns : goal.returns
returns c = λ bytes root range hashes a b some within is sized accepted. another_range bytes root a b (leaves_of range) hashes some within is sized accepted
