use Rattle.sia_blake.proofs.FourLanes.{shifts_rotate}
use Rattle.sia_blake.proofs.four.xor_rotate.Goals as goal

pub returns : goal.returns
returns c = shifts_rotate c.args.bits c.requires.0 c.requires.1 c.args.a c.fits-a.0 c.args.b c.fits-b.0
