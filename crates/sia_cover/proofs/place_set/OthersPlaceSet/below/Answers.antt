use Rattle.std.proofs.Common.{arith}
use Rattle.sia_cover.proofs.Counts.{below_fits, count_others}
use Rattle.sia_cover.proofs.place_set.OthersPlaceSet.below.Goals as goal

pub overflow_sub-result : goal.overflow_sub-result
overflow_sub-result g c = omega (arith, c.below.ensures, below_fits (g.P.PlaceSet.holds c.args.self.now.0.now) c.args.place)

pub returns : goal.returns
returns g c = omega (arith, c.below.ensures, count_others (g.P.PlaceSet.holds c.args.self.now.0.now) 0 c.args.place)
