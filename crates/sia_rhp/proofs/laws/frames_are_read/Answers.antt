use Rattle.sia_rhp.proofs.FrameLaws.{frames_are_read}
use Rattle.sia_rhp.proofs.laws.frames_are_read.Goals as goal

pub returns : goal.returns
returns c = frames_are_read
