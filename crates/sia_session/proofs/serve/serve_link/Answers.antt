use Rattle.sia_session.proofs.Following.{alone_both}
use Rattle.sia_session.proofs.Serving.{served, not_entered}
use Rattle.sia_session.proofs.serve.serve_link.Goals as goal

pub returns-in-Err-clause-served : goal.returns-in-Err-clause-served
returns-in-Err-clause-served g c = not_entered c.args.sector c.in-Err.stop (g.L.Link.left c.args.link.now) (g.K.Desk.acts c.args.desk.now) (g.K.Desk.acts c.begin.new.desk) (g.L.Link.taken c.args.link.now) c.in-Err.ensures.acts

pub returns-in-Ok-clause-served : goal.returns-in-Ok-clause-served
returns-in-Ok-clause-served g c =
    served c.args.sector c.in-Ok.session c.in-Ok.challenge c.greet-ended.result c.greet-ended.new.session.number (g.L.Link.left c.args.link.now) (g.L.Link.left c.greet-ended.new.link) (g.K.Desk.acts c.args.desk.now) (g.K.Desk.acts c.begin.new.desk) (g.K.Desk.acts c.greet-ended.new.desk) (g.K.Desk.acts c.end.new.desk) (g.L.Link.taken c.args.link.now) (g.L.Link.taken c.greet-ended.new.link)
    c.in-Ok.ensures.acts (rw c.as_slice.ensures at c.greet-ended.ensures.talk) c.end.ensures.acts c.greet-ended.ensures.number

pub returns-in-Ok-clause-alone : goal.returns-in-Ok-clause-alone
returns-in-Ok-clause-alone g c =
    alone_both g.K.Desk.stays g.K.Desk.stops g.K.Desk.sector c.args.desk.now c.begin.new.desk c.end.new.desk g.met.K.Desk.stays_on c.begin.ensures.alone
    (alone_both g.K.Desk.stays g.K.Desk.stops g.K.Desk.sector c.begin.new.desk c.greet-ended.new.desk c.end.new.desk g.met.K.Desk.stays_on c.greet-ended.ensures.alone c.end.ensures.alone)
