use Rattle.std.proofs.Common.{refl}
use Rattle.sia_pieces.specs.Solving.{reciprocal}
use Rattle.sia_pieces.proofs.field.inverse.Goals as goal

pub returns : goal.returns
unfolding reciprocal
returns c = refl
