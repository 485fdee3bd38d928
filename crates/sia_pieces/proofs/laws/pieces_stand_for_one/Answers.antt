use Rattle.sia_pieces.proofs.Joins.{stand_for_one}
use Rattle.sia_pieces.proofs.laws.pieces_stand_for_one.Goals as goal

pub returns : goal.returns
returns c = stand_for_one
