use Rattle.std.proofs.Common.{length}
use Rattle.sia_pieces.proofs.solve.+solve.Given as goal

abbrev pub decreases-solve : goal.decreases-solve
decreases-solve l = length l.pieces.now
