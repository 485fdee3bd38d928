-- The host is sound, and stays so with the renewal.
use Rattle.std.proofs.Common.{subst}
use Rattle.sia_host.specs.Answered.{Host}
use Rattle.sia_host.specs.Proposals.{Proposes}
use Rattle.sia_host.specs.Renewing.{renew_judged}
use Rattle.sia_host.proofs.Renewals.{proposed_sound}
use Rattle.sia_kept.specs.State.{IsSound}
use Rattle.sia_host.proofs.host_core.Core.propose_renew.Goals as goal

pub returns-clause-sound : goal.returns-clause-sound
returns-clause-sound c =
    let h = c.args.self.now in
    let sound : IsSound h.settings.sector h.settings.host_key h.state.contracts = subst (λ (x : Host). IsSound x.settings.sector x.settings.host_key x.state.contracts) c.self.view_is c.self.invariant.0 in
    let proposes : Proposes h c.args.tx.now (renew_judged h c.args.session c.args.tx.now) c.host_part.result = rw c.in_ok-collateral.ensures.terms c.host_part.ensures in
    proposed_sound h c.args.session c.args.tx.now c.host_part.result sound proposes c.in_ok-collateral.ensures.clears
