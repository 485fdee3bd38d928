-- The contract stores what the changes make of its sectors, so the host stays sound; and no step was taken back.
use Rattle.std.proofs.Common.{◌≡◌, ◌∙◌, Some, ap, subst, sym}
use Rattle.sia_kept.specs.State.{IsSound, IsStored, Kept, contract_among, revised_contract}
use Rattle.sia_kept.proofs.Sound.{sound_revised}
use Rattle.sia_host.specs.Answered.{Host}
use Rattle.sia_host.specs.Spoiling.{is_spoiled}
use Rattle.sia_host.proofs.host_core.Core.replay_revised.Goals as goal

pub invariant_of-self-2 : goal.invariant_of-self-2
invariant_of-self-2 g c =
    let s = c.args.signed in (
      subst (IsSound c.self.inside.settings.sector c.self.inside.settings.host_key) (sym c.in_ok-revise_kept.ensures.ok)
          (sound_revised c.self.inside.settings.sector c.self.inside.settings.host_key s.revision s.renter s.host s.changes c.self.inside.contracts c.self.invariant.0
          (subst (λ (h : Host). (k : Kept) → contract_among s.revision.parent h.state.contracts ≡ Some k → IsStored h.settings.sector h.settings.host_key (revised_contract s.revision s.renter s.host s.changes k)) (sym c.self.view_is)
          (c.in_ok-revision_follows.ensures.stores c.if-not-branch.false))),
      c.self.invariant.1 ∙ (ap (λ (h : Host). is_spoiled h.phase) c.self.view_is ∙ c.requires),
      tt,
    )
