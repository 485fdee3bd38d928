use Rattle.std.proofs.Common.{arith}
use Rattle.sia_range.proofs.RangePlaces.{count_between}
use Rattle.sia_range.proofs.between.BetweenPlaceSet.below.Goals as goal

pub returns : goal.returns
returns c = omega (arith, c.min.ensures, c.saturating_sub.ensures, count_between c.args.self.now.start c.args.self.now.end 0 c.args.place)
