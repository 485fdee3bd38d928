use Rattle.std.proofs.Common.{inr}
use Rattle.sia_commands.specs.declared.reply.Reply.{Reply}
use Rattle.sia_session.specs.Replies.{spelled_reply, after_proposal}
use Rattle.sia_session.specs.Talk.{sends}
use Rattle.sia_session.proofs.Following.{asked_said, memory_caused, stopped}
use Rattle.sia_session.proofs.asking.propose.Goals as goal

pub returns-in-Err-clause-acts : goal.returns-in-Err-clause-acts
returns-in-Err-clause-acts g c = stopped c.args.session c.args.command (λ (said : Reply). sends (spelled_reply said) (after_proposal c.args.proposal c.args.before said)) (g.K.Desk.acts c.args.desk.now) (g.K.Desk.acts c.act.new.self) c.in-Err.stop c.in-Err.stop c.in-Err.ensures.acts

pub returns-in-Err-clause-stop : goal.returns-in-Err-clause-stop
returns-in-Err-clause-stop g c = inr c.in-Err.ensures.cause

pub returns-in-Ok-clause-acts : goal.returns-in-Ok-clause-acts
returns-in-Ok-clause-acts g c =
    asked_said c.args.session c.args.command (λ (said : Reply). sends (spelled_reply said) (after_proposal c.args.proposal c.args.before said)) (g.K.Desk.acts c.args.desk.now) (g.K.Desk.acts c.act.new.self) c.in-Ok.reply c.finish.result c.requires c.in-Ok.ensures.acts
    (rw (c.after_proposal-state.ensures, c.new-heard.ensures) at c.finish.ensures.sends)

pub returns-in-Ok-clause-stop : goal.returns-in-Ok-clause-stop
returns-in-Ok-clause-stop g c = memory_caused g.K.Desk.stops c.args.desk.now c.act.new.self c.finish.result c.finish.ensures.stop
