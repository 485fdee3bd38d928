-- The sectors pass on, so the host stays sound; and no step was taken back.
use Rattle.std.proofs.Common.{◌∙◌, ap, subst, sym}
use Rattle.sia_kept.specs.State.{IsSound, after_renewal}
use Rattle.sia_host.specs.Answered.{Host}
use Rattle.sia_host.specs.Spoiling.{is_spoiled}
use Rattle.sia_host.proofs.host_core.Core.replay_renewed.Goals as goal

pub invariant_of-self-2 : goal.invariant_of-self-2
invariant_of-self-2 g c = (
  subst (IsSound c.self.inside.settings.sector c.self.inside.settings.host_key) (sym c.in_ok-renew_kept.ensures.ok)
      (subst (λ (h : Host). IsSound h.settings.sector h.settings.host_key (after_renewal h.settings.host_key c.args.tx h.state.contracts c.args.tx.revisions)) (sym c.self.view_is) (c.in_ok-renewal_follows.ensures.sound c.if-not-branch.false)),
  c.self.invariant.1 ∙ (ap (λ (h : Host). is_spoiled h.phase) c.self.view_is ∙ c.requires),
  tt,
)
