use Rattle.std.proofs.Common.{◌^◌}
use Rattle.sia_rhp.specs.Frames.{frame_of, frames_of}
use Rattle.sia_session.specs.Script.{say}
use Rattle.sia_session.specs.Served.{talk_in}
use Rattle.sia_session.specs.Talk.{limit_of}
use Rattle.sia_session.proofs.Quiet.{live_then, quiet_said, quiet_talk}
use Rattle.sia_session.proofs.laws.talks_stay_live.Goals as goal

pub returns : goal.returns
returns c = λ now challenge read sent before acts how conversed.
    live_then now.number challenge before acts how (say (frame_of challenge) (talk_in now (2 ^ 40) read)) sent
    (quiet_said (frame_of challenge) (talk_in now (2 ^ 40) read) (quiet_talk now.number now.sector now.state (frames_of (limit_of now.sector) (2 ^ 40) read).bodies (frames_of (limit_of now.sector) (2 ^ 40) read).last)) conversed
