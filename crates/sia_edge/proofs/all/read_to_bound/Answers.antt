use Rattle.sia_edge.proofs.Progress.{nothing_left}
use Rattle.sia_edge.proofs.all.read_to_bound.Goals as goal

pub returns-in-End-clause-end : goal.returns-in-End-clause-end
returns-in-End-clause-end g c whole =
    nothing_left (g.S.Source.left c.args.source.now) (g.S.Source.left c.loop.source) (g.S.Source.left c.read.new.self) c.args.out.now c.loop.out c.loop.total c.loop.invariant.0 c.in-End.ensures.bytes.0 c.in-End.ensures.bytes.1
