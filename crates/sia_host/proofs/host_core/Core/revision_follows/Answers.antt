-- The contract is one that the host knows.
use Rattle.std.proofs.Common.{◌∙◌, ap, subst, sym}
use Rattle.sia_kept.specs.State.{IsSound, contract_among}
use Rattle.sia_host.specs.Answered.{Host}
use Rattle.sia_host.proofs.Replayed.{stores_on}
use Rattle.sia_host.proofs.host_core.Core.revision_follows.Goals as goal

pub returns-in-Some-clause-stores : goal.returns-in-Some-clause-stores
returns-in-Some-clause-stores g c =
    let s = c.args.signed.now in
    stores_on g.C.SigCheck.verdict c.args.self.now s.revision s.renter s.host s.changes c.in-Some.contract.now c.revises.result (subst (λ (h : Host). IsSound h.settings.sector h.settings.host_key h.state.contracts) c.self.view_is c.self.invariant.0)
    (sym (c.in-Some.ensures ∙ ap (λ (h : Host). contract_among s.revision.parent h.state.contracts) c.self.view_is)) c.revises.ensures.follows c.revises.ensures.same
