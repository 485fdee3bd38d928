use Rattle.sia_records.proofs.Roots.{roots_after}
use Rattle.sia_records.proofs.laws.roots_follow.Goals as goal

pub returns : goal.returns
returns c = roots_after
