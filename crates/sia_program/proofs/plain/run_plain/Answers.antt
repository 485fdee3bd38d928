use Rattle.std.proofs.Common.{◌≡◌, Err, ap}
use Rattle.sia_program.proofs.Tellings.{answered_stopped}
use Rattle.sia_program.proofs.plain.run_plain.Goals as goal

pub returns-in-Err-clause-answered : goal.returns-in-Err-clause-answered
returns-in-Err-clause-answered g c form named =
    let read = c.in-Some.ensures in
    let same : c.in-Some.form ≡ form = cc in
    rw (← same) (answered_stopped g.C.SigCheck.verdict c.in-Some.form c.in-Err.stop _ _ _ c.tell.ensures c.in-Err.ensures.quiet (λ outside. c.in-Err.ensures.failed (ap Err outside)) c.in-Err.ensures.told)
