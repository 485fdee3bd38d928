-- A turn starts with one pass, which may put the value in.
use Rattle.sia_turn.proofs.Ending.{starts}
use Rattle.sia_turn.proofs.turn.Turn.new.Goals as goal

pub vacant-requires : goal.vacant-requires
vacant-requires g c = starts _ _ c.requires.seats.0 c.requires.seats.1
