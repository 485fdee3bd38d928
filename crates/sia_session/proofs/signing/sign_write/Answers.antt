use Rattle.std.proofs.Common.{sym, ap}
use Rattle.std.specs.Prelude.{option_map}
use Rattle.sia_records.specs.Writes.{Prepared}
use Rattle.sia_commands.specs.declared.command.Command.TheVariants as command
use Rattle.sia_session.specs.Replies.{write_in, state_before}
use Rattle.sia_session.proofs.Answering.{signs_none, signs_some}
use Rattle.sia_session.proofs.Following.{alone_none, memory_caused}
use Rattle.sia_session.proofs.signing.sign_write.Goals as goal

pub returns-in-None-clause-acts : goal.returns-in-None-clause-acts
returns-in-None-clause-acts g c =
    signs_none (g.K.Desk.acts c.args.desk.now) (state_before c.args.proposal) c.args.session (option_map (λ (write : Prepared). command.WriteSign write c.args.signature) (write_in c.args.proposal)) c.say.result
    (ap (option_map (λ (write : Prepared). command.WriteSign write c.args.signature)) (sym c.in-None.ensures)) (rw c.state_before-before.ensures at c.say.ensures.says)

pub returns-in-None-clause-alone : goal.returns-in-None-clause-alone
returns-in-None-clause-alone g c = alone_none g.K.Desk.stays g.K.Desk.stops g.K.Desk.sector c.args.desk.now g.met.K.Desk.stays_itself

pub returns-in-None-clause-stop : goal.returns-in-None-clause-stop
returns-in-None-clause-stop g c = memory_caused g.K.Desk.stops c.args.desk.now c.args.desk.now c.say.result c.say.ensures.stop

pub returns-in-Some-clause-acts : goal.returns-in-Some-clause-acts
returns-in-Some-clause-acts g c =
    signs_some (g.K.Desk.acts c.args.desk.now) (g.K.Desk.acts c.ask.new.desk) (state_before c.args.proposal) c.args.session (option_map (λ (write : Prepared). command.WriteSign write c.args.signature) (write_in c.args.proposal)) (command.WriteSign c.in-Some.write c.args.signature) c.ask.result
    (ap (option_map (λ (write : Prepared). command.WriteSign write c.args.signature)) (sym c.in-Some.ensures)) (rw c.state_before-before.ensures at c.ask.ensures.acts)
