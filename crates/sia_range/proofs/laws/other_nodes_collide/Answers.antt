use Rattle.sia_range.proofs.RangeSoundness.{another_nodes}
use Rattle.sia_range.proofs.laws.other_nodes_collide.Goals as goal

pub returns : goal.returns
returns c = λ list root roots hashes a b some within is sized roots_sized hashes_sized accepted. another_nodes list root a b roots hashes some within is sized roots_sized hashes_sized accepted
