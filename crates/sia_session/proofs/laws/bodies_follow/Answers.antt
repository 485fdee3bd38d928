use Rattle.std.proofs.Common.{ap}
use Rattle.sia_session.specs.Served.{talk_over}
use Rattle.sia_session.specs.Talk.{limit_of}
use Rattle.sia_session.proofs.Streams.{frames_more}
use Rattle.sia_session.proofs.laws.bodies_follow.Goals as goal

pub returns : goal.returns
returns c = λ now room bytes body more is. ap (talk_over now.number now.sector now.state) (frames_more (limit_of now.sector) room bytes body more is)
