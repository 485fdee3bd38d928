use Rattle.std.proofs.Common.{◌^◌}
use Rattle.sia_session.specs.Served.{talk_in}
use Rattle.sia_session.proofs.Following.{alone_none}
use Rattle.sia_session.proofs.Serving.{greeted, greeted_some}
use Rattle.sia_session.proofs.serve.greet.Goals as goal

pub returns-in-Err-clause-talk : goal.returns-in-Err-clause-talk
returns-in-Err-clause-talk g c =
    greeted_some (λ read. talk_in c.args.session.now (2 ^ 40) read) c.args.challenge.now (g.L.Link.left c.args.link.now) (g.L.Link.left c.send.new.link) (g.K.Desk.acts c.args.desk.now) (g.L.Link.taken c.args.link.now) (g.L.Link.taken c.send.new.link) c.send.ensures.apart c.in-Err.ensures.some

pub returns-in-Err-clause-alone : goal.returns-in-Err-clause-alone
returns-in-Err-clause-alone g c = alone_none g.K.Desk.stays g.K.Desk.stops g.K.Desk.sector c.args.desk.now g.met.K.Desk.stays_itself

pub returns-in-Ok-clause-talk : goal.returns-in-Ok-clause-talk
returns-in-Ok-clause-talk g c =
    greeted c.converse.result (λ read. talk_in c.args.session.now (2 ^ 40) read) c.args.challenge.now (g.L.Link.left c.args.link.now) (g.L.Link.left c.converse.new.link) (g.K.Desk.acts c.args.desk.now) (g.K.Desk.acts c.converse.new.desk) (g.L.Link.taken c.args.link.now) (g.L.Link.taken c.send.new.link) (g.L.Link.taken c.converse.new.link) c.in-Ok.ensures.all (rw c.send.ensures.apart at c.converse.ensures.talk)
