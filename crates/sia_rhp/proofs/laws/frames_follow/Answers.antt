use Rattle.sia_rhp.proofs.FrameLaws.{frames_follow}
use Rattle.sia_rhp.proofs.laws.frames_follow.Goals as goal

pub returns : goal.returns
returns c = frames_follow
