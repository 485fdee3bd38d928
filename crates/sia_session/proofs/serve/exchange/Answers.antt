use Rattle.sia_session.specs.Served.{script_for}
use Rattle.sia_session.proofs.Exchanging.{exchanged_stop, exchanged_sent}
use Rattle.sia_session.proofs.serve.exchange.Goals as goal

pub returns-in-Err-clause-acts : goal.returns-in-Err-clause-acts
returns-in-Err-clause-acts g c =
    exchanged_stop (script_for c.args.session.now c.args.body.now) c.take.new.self.state c.in-Err.stop (g.K.Desk.acts c.args.desk.now) (g.K.Desk.acts c.take.new.desk) (g.L.Link.taken c.args.link.now) c.in-Err.ensures.acts

pub returns-in-Ok-clause-acts : goal.returns-in-Ok-clause-acts
returns-in-Ok-clause-acts g c =
    exchanged_sent (script_for c.args.session.now c.args.body.now) c.take.new.self.state c.in-Ok.taken c.send_taken.result (g.K.Desk.acts c.args.desk.now) (g.K.Desk.acts c.take.new.desk) (g.L.Link.taken c.args.link.now) (g.L.Link.taken c.send_taken.new.link) c.in-Ok.ensures.acts c.send_taken.ensures.stop c.send_taken.ensures.sent
