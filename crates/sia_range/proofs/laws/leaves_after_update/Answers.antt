use Rattle.sia_range.proofs.ByteLeaves.{replaced_leaves}
use Rattle.sia_range.proofs.laws.leaves_after_update.Goals as goal

pub returns : goal.returns
returns c = replaced_leaves
