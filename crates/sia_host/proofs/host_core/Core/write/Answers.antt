-- The write was judged, so that its proof follows, or the refusal.
use Rattle.std.proofs.Common.{◌≡◌, None, Some, ap}
use Rattle.sia_rhp.specs.declared.answer.Answer.TheVariants as answer
use Rattle.sia_commands.specs.declared.call.Call.{Call}
use Rattle.sia_commands.specs.declared.event.Kind.TheVariants as kind
use Rattle.sia_commands.specs.declared.event.Outcome.TheVariants as outcome
use Rattle.sia_commands.specs.declared.reply.Reply.TheVariants as reply
use Rattle.sia_host.specs.Answered.{answered}
use Rattle.sia_host.specs.Paying.{open_now}
use Rattle.sia_host.specs.Writing.{write_fault, write_proof}
use Rattle.sia_host.proofs.Held.{follows_so, refuses_so}
use Rattle.sia_host.proofs.host_core.Core.write.Goals as goal

pub returns-in-Err-Code-clause-gives : goal.returns-in-Err-Code-clause-gives
returns-in-Err-Code-clause-gives c =
    let call : Call = record { worker = c.args.worker; session = c.args.session; kind = kind.Write } in
    let h = c.args.self.now in
    refuses_so h call (open_now h c.args.session) (write_fault h c.args.room.now c.args.write)
    (λ k a. a ≡ answered h call (Some k.id) outcome.Fine (reply.Said (answer.Write (write_proof k c.args.write))) None)
    c.in-Err-Code.code c.refuse.result c.refuse.new.self (rw c.in-Err-Code.field-0-is at c.in-Err-Code.ensures) (rw (← c.held-held.ensures) c.refuse.ensures.gives)

pub returns-clause-gives : goal.returns-clause-gives
returns-clause-gives c =
    let call : Call = record { worker = c.args.worker; session = c.args.session; kind = kind.Write } in
    let h = c.args.self.now in
    follows_so h call (open_now h c.args.session) (write_fault h c.args.room.now c.args.write)
    (λ k a. a ≡ answered h call (Some k.id) outcome.Fine (reply.Said (answer.Write (write_proof k c.args.write))) None)
    c.in-Ok.contract.now (answered h call (Some c.in-Ok.contract.now.id) outcome.Fine (reply.Said (answer.Write c.in_ok-proof-in-Ok.proof)) None) c.answer.result c.answer.new.self c.in-Ok.ensures
    (ap (λ proof. answered h call (Some c.in-Ok.contract.now.id) outcome.Fine (reply.Said (answer.Write proof)) None) c.in_ok-proof-in-Ok.ensures)
    (rw (← c.contract.view_is) c.answer.ensures.gives)
