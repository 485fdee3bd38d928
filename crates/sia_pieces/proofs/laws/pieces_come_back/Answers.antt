use Rattle.sia_pieces.proofs.Joins.{come_back}
use Rattle.sia_pieces.proofs.laws.pieces_come_back.Goals as goal

pub returns : goal.returns
returns c = come_back
