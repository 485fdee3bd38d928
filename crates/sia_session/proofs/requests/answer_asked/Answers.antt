use Rattle.std.proofs.Common.{ap}
use Rattle.sia_session.specs.Talk.{asked_of, says}
use Rattle.sia_session.proofs.Answering.{quietly}
use Rattle.sia_session.proofs.Following.{alone_none, memory_caused}
use Rattle.sia_session.proofs.requests.answer_asked.Goals as goal

pub returns-in-FormSign-clause-acts : goal.returns-in-FormSign-clause-acts
returns-in-FormSign-clause-acts g c = quietly (g.K.Desk.acts c.args.desk.now) (says 4 c.args.state) (asked_of c.args.state c.args.session c.args.sector c.args.request) c.say.result (ap (asked_of c.args.state c.args.session c.args.sector) c.in-FormSign.is) c.say.ensures.says

pub returns-in-FormSign-clause-alone : goal.returns-in-FormSign-clause-alone
returns-in-FormSign-clause-alone g c = alone_none g.K.Desk.stays g.K.Desk.stops g.K.Desk.sector c.args.desk.now g.met.K.Desk.stays_itself

pub returns-in-FormSign-clause-stop : goal.returns-in-FormSign-clause-stop
returns-in-FormSign-clause-stop g c = memory_caused g.K.Desk.stops c.args.desk.now c.args.desk.now c.say.result c.say.ensures.stop

pub returns-in-WriteSign-clause-acts : goal.returns-in-WriteSign-clause-acts
returns-in-WriteSign-clause-acts g c = quietly (g.K.Desk.acts c.args.desk.now) (says 4 c.args.state) (asked_of c.args.state c.args.session c.args.sector c.args.request) c.say-in-WriteSign.result (ap (asked_of c.args.state c.args.session c.args.sector) c.in-WriteSign.is) c.say-in-WriteSign.ensures.says

pub returns-in-WriteSign-clause-alone : goal.returns-in-WriteSign-clause-alone
returns-in-WriteSign-clause-alone g c = alone_none g.K.Desk.stays g.K.Desk.stops g.K.Desk.sector c.args.desk.now g.met.K.Desk.stays_itself

pub returns-in-WriteSign-clause-stop : goal.returns-in-WriteSign-clause-stop
returns-in-WriteSign-clause-stop g c = memory_caused g.K.Desk.stops c.args.desk.now c.args.desk.now c.say-in-WriteSign.result c.say-in-WriteSign.ensures.stop

pub returns-in-RenewSign-clause-acts : goal.returns-in-RenewSign-clause-acts
returns-in-RenewSign-clause-acts g c = quietly (g.K.Desk.acts c.args.desk.now) (says 4 c.args.state) (asked_of c.args.state c.args.session c.args.sector c.args.request) c.say-in-RenewSign.result (ap (asked_of c.args.state c.args.session c.args.sector) c.in-RenewSign.is) c.say-in-RenewSign.ensures.says

pub returns-in-RenewSign-clause-alone : goal.returns-in-RenewSign-clause-alone
returns-in-RenewSign-clause-alone g c = alone_none g.K.Desk.stays g.K.Desk.stops g.K.Desk.sector c.args.desk.now g.met.K.Desk.stays_itself

pub returns-in-RenewSign-clause-stop : goal.returns-in-RenewSign-clause-stop
returns-in-RenewSign-clause-stop g c = memory_caused g.K.Desk.stops c.args.desk.now c.args.desk.now c.say-in-RenewSign.result c.say-in-RenewSign.ensures.stop
