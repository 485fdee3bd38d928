-- The phase follows from what was noted.
use Rattle.std.proofs.Common.{◌∙◌, List, length, ap, subst, sym}
use Rattle.std.specs.Prelude.{nat_lt}
use Rattle.sia_commands.specs.declared.event.Event.{Event}
use Rattle.sia_host.specs.Answered.{Gives, Host}
use Rattle.sia_host.specs.Answers.{IsAnswer}
use Rattle.sia_host.proofs.Stepped.{stepped_one}
use Rattle.sia_host.proofs.host_core.Core.step.Goals as goal

pub returns-clause-answers : goal.returns-clause-answers
returns-clause-answers g c =
    let h = c.args.self.now in
    let Fits = IsAnswer g.C.SigCheck.verdict (g.G.Signer.Makes (g.G.Signer.public_key c.args.signer.now)) h c.args.room.now c.args.worker c.args.session c.args.command in
    stepped_one Fits h _ c.in_ok-step.step c.present-past.result _ c.after-self-inside.result
    (subst (λ (m : Host). Gives Fits h c.in_ok-step.step m) (sym c.self-2.view_is) c.in_ok-step.ensures.answers)
    c.present-past.ensures
    (ap (λ (es : List Event). nat_lt (length es) (length c.events.result.now)) (c.events-events.ensures ∙ ap (λ (m : Host). m.events) c.self.view_is) ∙ ap (λ (es : List Event). nat_lt (length h.events) (length es)) c.events.ensures)
    c.after-self-inside.ensures
