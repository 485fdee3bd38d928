-- The contract isn't known and stores what it has, so the host stays sound; and no step was taken back.
use Rattle.std.proofs.Common.{◌≡◌, ◌∙◌, true, false, [], All, ap, subst, sym}
use Rattle.sia_ids.specs.Transactions.{contract_id as id_of}
use Rattle.sia_kept.specs.State.{IsStored, formed_by, is_among}
use Rattle.sia_kept.proofs.Sound.{sound_formed}
use Rattle.sia_host.specs.Answered.{Host}
use Rattle.sia_host.specs.Replaying.{formed_replays}
use Rattle.sia_host.specs.Spoiling.{is_spoiled}
use Rattle.sia_host.proofs.Replayed.{formed_new, formed_stores}
use Rattle.sia_host.proofs.host_core.Core.replay_formed.Goals as goal

pub invariant_of-self-2 : goal.invariant_of-self-2
invariant_of-self-2 g c =
    let follows : formed_replays g.C.SigCheck.verdict c.args.self.now c.args.renter_key.now c.args.tx ≡ true = sym c.in_ok-formation_follows.ensures ∙ c.if-not-branch.false in
    let new = formed_new g.C.SigCheck.verdict c.args.self.now c.args.renter_key.now c.args.tx follows in (
      sound_formed c.self.inside.settings.sector c.self.inside.settings.host_key c.args.renter_key.now c.args.tx c.self.inside.contracts c.push_kept.new.contracts c.in_ok-kept.kept c.self.invariant.0
          (subst (λ (h : Host). is_among (id_of c.args.tx 0) h.state.contracts ≡ false) (sym c.self.view_is) new)
          (subst (λ (h : Host). All (IsStored h.settings.sector h.settings.host_key) (formed_by h.settings.host_key c.args.renter_key.now c.args.tx [] c.args.tx.contracts)) (sym c.self.view_is)
          (formed_stores g.C.SigCheck.verdict c.args.self.now c.args.renter_key.now c.args.tx follows))
          c.in_ok-kept.ensures c.in_ok-push_kept.ensures.ok,
      c.self.invariant.1 ∙ (ap (λ (h : Host). is_spoiled h.phase) c.self.view_is ∙ c.requires),
      tt,
    )
