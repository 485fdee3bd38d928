use Rattle.std.proofs.Common.{◌+◌, ap}
use Rattle.sia_rhp.specs.Frames.{frame_of}
use Rattle.sia_bench.proofs.Framing.{sent_more}
use Rattle.sia_bench.proofs.frames.send_often.Goals as goal

pub loop-preserved : goal.loop-preserved
loop-preserved g c =
    (ap (λ n. n + 1) c.loop.invariant.0, sent_more c.loop.counter (frame_of c.args.body.now) (g.L.Link.taken c.args.link.now) (g.L.Link.taken c.loop.link) (g.L.Link.taken c.send.new.link) c.loop.invariant.1 c.in_ok-send.ensures.all)
