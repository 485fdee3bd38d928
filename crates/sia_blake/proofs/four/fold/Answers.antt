use Rattle.sia_blake.proofs.FourLanes.{fold_lanes}
use Rattle.sia_blake.proofs.four.fold.Goals as goal

pub returns : goal.returns
returns c = fold_lanes c.args.h c.args.low c.fits-low.0 c.args.high c.fits-high.0
