use Rattle.sia_session.proofs.Answering.{drops}
use Rattle.sia_session.proofs.Following.{alone_none, memory_caused}
use Rattle.sia_session.proofs.requests.answer_proposed.Goals as goal

pub returns-in_default-clause-acts : goal.returns-in_default-clause-acts
returns-in_default-clause-acts g c =
    drops (g.K.Desk.acts c.args.desk.now) c.args.proposal c.state_before.result c.args.session c.args.request c.drop_proposal.result c.state_before.ensures c.in_default.not-FormSign c.in_default.not-WriteSign c.in_default.not-RenewSign c.drop_proposal.ensures.says

pub returns-in_default-clause-alone : goal.returns-in_default-clause-alone
returns-in_default-clause-alone g c = alone_none g.K.Desk.stays g.K.Desk.stops g.K.Desk.sector c.args.desk.now g.met.K.Desk.stays_itself

pub returns-in_default-clause-stop : goal.returns-in_default-clause-stop
returns-in_default-clause-stop g c = memory_caused g.K.Desk.stops c.args.desk.now c.args.desk.now c.drop_proposal.result c.drop_proposal.ensures.stop
