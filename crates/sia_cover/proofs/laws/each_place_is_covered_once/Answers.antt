use Rattle.sia_cover.proofs.Covering.{once}
use Rattle.sia_cover.proofs.laws.each_place_is_covered_once.Goals as goal

pub returns : goal.returns
returns c = once
