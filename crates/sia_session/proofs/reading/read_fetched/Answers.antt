use Rattle.sia_session.specs.Replies.{spelled_reply}
use Rattle.sia_session.specs.Talk.{sends, with_fetched, read_with}
use Rattle.std.proofs.Common.{ap}
use Rattle.sia_session.proofs.Answering.{quietly}
use Rattle.sia_session.proofs.Following.{alone_none, memory_caused}
use Rattle.sia_session.proofs.reading.read_fetched.Goals as goal

pub returns-in-Refused-clause-acts : goal.returns-in-Refused-clause-acts
returns-in-Refused-clause-acts g c =
    quietly (g.K.Desk.acts c.args.desk.now) (sends (spelled_reply c.in-Refused.reply) c.args.state) (with_fetched c.args.state (read_with c.args.state c.args.session c.args.request) c.args.fetched) c.finish.result
    (ap (with_fetched c.args.state (read_with c.args.state c.args.session c.args.request)) c.in-Refused.is)
    (rw c.new-heard.ensures at c.finish.ensures.sends)

pub returns-in-Refused-clause-alone : goal.returns-in-Refused-clause-alone
returns-in-Refused-clause-alone g c = alone_none g.K.Desk.stays g.K.Desk.stops g.K.Desk.sector c.args.desk.now g.met.K.Desk.stays_itself

pub returns-in-Refused-clause-stop : goal.returns-in-Refused-clause-stop
returns-in-Refused-clause-stop g c = memory_caused g.K.Desk.stops c.args.desk.now c.args.desk.now c.finish.result c.finish.ensures.stop
