-- The contract is one that the host knows.
use Rattle.std.proofs.Common.{subst, sym}
use Rattle.sia_kept.specs.State.{IsSound}
use Rattle.sia_host.specs.Answered.{Host}
use Rattle.sia_host.proofs.Replayed.{found_now, renews_on}
use Rattle.sia_host.proofs.host_core.Core.renewal_follows.Goals as goal

pub returns-in-Some-clause-sound : goal.returns-in-Some-clause-sound
returns-in-Some-clause-sound g c =
    renews_on g.C.SigCheck.verdict c.args.self.now c.args.tx.now _ c.in-Some.old.now c.renews.result (subst (λ (h : Host). IsSound h.settings.sector h.settings.host_key h.state.contracts) c.self.view_is c.self.invariant.0)
    (found_now _ _ _ _ c.self.view_is (sym c.in-Some.ensures)) c.renews.ensures.follows c.renews.ensures.cleared
