use Rattle.std.proofs.Common.{inr}
use Rattle.sia_commands.specs.declared.command.Command.TheVariants as command
use Rattle.sia_commands.specs.declared.reply.Reply.{Reply}
use Rattle.sia_session.specs.Replies.{spelled_reply, after_unlock}
use Rattle.sia_session.specs.Talk.{sends}
use Rattle.sia_session.proofs.Following.{asked_said, memory_caused, stopped}
use Rattle.sia_session.proofs.asking.unlock.Goals as goal

pub returns-in-Err-clause-acts : goal.returns-in-Err-clause-acts
returns-in-Err-clause-acts g c = stopped c.args.session command.Unlock (λ (said : Reply). sends (spelled_reply said) (after_unlock c.args.before said)) (g.K.Desk.acts c.args.desk.now) (g.K.Desk.acts c.act.new.self) c.in-Err.stop c.in-Err.stop c.in-Err.ensures.acts

pub returns-in-Err-clause-stop : goal.returns-in-Err-clause-stop
returns-in-Err-clause-stop g c = inr c.in-Err.ensures.cause

pub returns-in-Ok-clause-acts : goal.returns-in-Ok-clause-acts
returns-in-Ok-clause-acts g c =
    asked_said c.args.session command.Unlock (λ (said : Reply). sends (spelled_reply said) (after_unlock c.args.before said)) (g.K.Desk.acts c.args.desk.now) (g.K.Desk.acts c.act.new.self) c.in-Ok.reply c.finish.result (λ is. cc) c.in-Ok.ensures.acts
    (rw (c.after_unlock-state.ensures, c.new-heard.ensures) at c.finish.ensures.sends)

pub returns-in-Ok-clause-stop : goal.returns-in-Ok-clause-stop
returns-in-Ok-clause-stop g c = memory_caused g.K.Desk.stops c.args.desk.now c.act.new.self c.finish.result c.finish.ensures.stop
