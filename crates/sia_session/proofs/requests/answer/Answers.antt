use Rattle.sia_session.specs.Talk.{limit_of}
use Rattle.sia_session.proofs.Answering.{body_answered, body_refused}
use Rattle.sia_session.proofs.Following.{alone_none, memory_caused}
use Rattle.sia_session.proofs.requests.answer.Goals as goal

pub returns-in-Err-clause-acts : goal.returns-in-Err-clause-acts
returns-in-Err-clause-acts g c =
    body_refused (g.K.Desk.acts c.args.desk.now) c.args.state c.args.session c.args.sector (limit_of c.args.sector) c.args.body.now c.in-Err.fault c.refuse.result (rw c.body_limit.ensures at c.in-Err.ensures.first_fault) c.refuse.ensures.says c.refuse.ensures.memory

pub returns-in-Err-clause-alone : goal.returns-in-Err-clause-alone
returns-in-Err-clause-alone g c = alone_none g.K.Desk.stays g.K.Desk.stops g.K.Desk.sector c.args.desk.now g.met.K.Desk.stays_itself

pub returns-in-Err-clause-stop : goal.returns-in-Err-clause-stop
returns-in-Err-clause-stop g c = memory_caused g.K.Desk.stops c.args.desk.now c.args.desk.now c.refuse.result c.refuse.ensures.stop

pub returns-in-Ok-clause-acts : goal.returns-in-Ok-clause-acts
returns-in-Ok-clause-acts g c =
    body_answered (g.K.Desk.acts c.args.desk.now) (g.K.Desk.acts c.answer_request.new.desk) c.args.state c.args.session c.args.sector (limit_of c.args.sector) c.args.body.now c.in-Ok.request c.answer_request.result (rw c.body_limit.ensures at c.in-Ok.ensures.first_fault) c.answer_request.ensures.acts
