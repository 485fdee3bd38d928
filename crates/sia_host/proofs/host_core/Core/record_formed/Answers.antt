-- The new contract's identifier isn't known, and it stores what it has, so the host stays sound.
use Rattle.std.proofs.Common.{◌≡◌, false, [], All, subst, sym}
use Rattle.sia_ids.specs.Transactions.{contract_id as id_of}
use Rattle.sia_host.specs.Answered.{Host}
use Rattle.sia_kept.specs.State.{IsStored, formed_by, is_among}
use Rattle.sia_kept.proofs.Sound.{sound_formed}
use Rattle.sia_host.proofs.Logged.{noted_so, reserved}
use Rattle.sia_host.proofs.host_core.Core.record_formed.Goals as goal

pub invariant_of-self-2 : goal.invariant_of-self-2
invariant_of-self-2 c = (
  sound_formed c.self.inside.settings.sector c.self.inside.settings.host_key c.args.renter_key.now c.args.tx c.self.inside.contracts c.push_kept.new.contracts c.in_ok-kept.kept c.self.invariant.0
      (subst (λ (h : Host). is_among (id_of c.args.tx 0) h.state.contracts ≡ false) (sym c.self.view_is) c.requires.new)
      (subst (λ (h : Host). All (IsStored h.settings.sector h.settings.host_key) (formed_by h.settings.host_key c.args.renter_key.now c.args.tx [] c.args.tx.contracts)) (sym c.self.view_is) c.requires.stored)
      c.in_ok-kept.ensures c.in_ok-push_kept.ensures.ok,
  (reserved c.self.inside.phase c.self.inside.log c.reserve.new.self c.in_ok-reserve.ensures.ok c.self.invariant.1 c.self.invariant.2).spoiled,
  (reserved c.self.inside.phase c.self.inside.log c.reserve.new.self c.in_ok-reserve.ensures.ok c.self.invariant.1 c.self.invariant.2).last,
)

pub invariant_of-self-3 : goal.invariant_of-self-3
invariant_of-self-3 c = (
  sound_formed c.self.inside.settings.sector c.self.inside.settings.host_key c.args.renter_key.now c.args.tx c.self.inside.contracts c.push_kept.new.contracts c.in_ok-kept.kept c.self.invariant.0
      (subst (λ (h : Host). is_among (id_of c.args.tx 0) h.state.contracts ≡ false) (sym c.self.view_is) c.requires.new)
      (subst (λ (h : Host). All (IsStored h.settings.sector h.settings.host_key) (formed_by h.settings.host_key c.args.renter_key.now c.args.tx [] c.args.tx.contracts)) (sym c.self.view_is) c.requires.stored)
      c.in_ok-kept.ensures c.in_ok-push_kept.ensures.ok,
  (noted_so c.self.inside.phase c.reserve.new.self c.note.new.self _ c.note.ensures (reserved c.self.inside.phase c.self.inside.log c.reserve.new.self c.in_ok-reserve.ensures.ok c.self.invariant.1 c.self.invariant.2)).spoiled,
  (noted_so c.self.inside.phase c.reserve.new.self c.note.new.self _ c.note.ensures (reserved c.self.inside.phase c.self.inside.log c.reserve.new.self c.in_ok-reserve.ensures.ok c.self.invariant.1 c.self.invariant.2)).last,
)
