use Rattle.sia_cover.proofs.Covering.{all_largest}
use Rattle.sia_cover.proofs.laws.segments_are_largest.Goals as goal

pub returns : goal.returns
returns c = all_largest
