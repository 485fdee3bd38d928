-- The revision stores what it makes of its contract's sectors, so the host stays sound.
use Rattle.std.proofs.Common.{◌≡◌, ℕ, List, Some, IsTrue, length, map, subst, sym}
use Rattle.sia_diff.specs.DiffSteps.{is_fit}
use Rattle.sia_types.specs.declared.file_contracts.Revision.{Revision}
use Rattle.sia_records.specs.declared.change.Change.{Change}
use Rattle.sia_records.specs.Stored.{step_of}
use Rattle.sia_kept.specs.State.{IsSound, IsStored, Kept, changed_at, contract_among, revised_contract}
use Rattle.sia_kept.proofs.Sound.{sound_revised}
use Rattle.sia_host.specs.Answered.{Host}
use Rattle.sia_host.proofs.Logged.{noted_so, reserved}
use Rattle.sia_host.proofs.host_core.Core.record_revised.Goals as goal

sound_so : (sector : ℕ) (host_key : List ℕ) (revision : Revision) (renter host : List ℕ) (changes : List Change) (old new : List Kept) → IsSound sector host_key old
    → ((k : Kept) → contract_among revision.parent old ≡ Some k → IsStored sector host_key (revised_contract revision renter host changes k))
    → new ≡ changed_at revision.parent (revised_contract revision renter host changes) old → IsSound sector host_key new
sound_so sector host_key revision renter host changes old new sound stores is = subst (λ xs. IsSound sector host_key xs) (sym is) (sound_revised sector host_key revision renter host changes old sound stores)

pub invariant_of-self-2 : goal.invariant_of-self-2
invariant_of-self-2 c = (
  sound_so c.self.inside.settings.sector c.self.inside.settings.host_key c.args.signed.revision c.args.signed.renter c.args.signed.host c.args.signed.changes c.self.inside.contracts c.revise_kept.new.contracts c.self.invariant.0
      (subst (λ (h : Host). (k : Kept) → contract_among c.args.signed.revision.parent h.state.contracts ≡ Some k → IsStored h.settings.sector h.settings.host_key (revised_contract c.args.signed.revision c.args.signed.renter c.args.signed.host c.args.signed.changes k)) (sym c.self.view_is) c.requires.stores)
      c.in_ok-revise_kept.ensures.ok,
  (reserved c.self.inside.phase c.self.inside.log c.reserve.new.self c.in_ok-reserve.ensures.ok c.self.invariant.1 c.self.invariant.2).spoiled,
  (reserved c.self.inside.phase c.self.inside.log c.reserve.new.self c.in_ok-reserve.ensures.ok c.self.invariant.1 c.self.invariant.2).last,
)

pub invariant_of-self-3 : goal.invariant_of-self-3
invariant_of-self-3 c = (
  sound_so c.self.inside.settings.sector c.self.inside.settings.host_key c.args.signed.revision c.args.signed.renter c.args.signed.host c.args.signed.changes c.self.inside.contracts c.revise_kept.new.contracts c.self.invariant.0
      (subst (λ (h : Host). (k : Kept) → contract_among c.args.signed.revision.parent h.state.contracts ≡ Some k → IsStored h.settings.sector h.settings.host_key (revised_contract c.args.signed.revision c.args.signed.renter c.args.signed.host c.args.signed.changes k)) (sym c.self.view_is) c.requires.stores)
      c.in_ok-revise_kept.ensures.ok,
  (noted_so c.self.inside.phase c.reserve.new.self c.note.new.self _ c.note.ensures (reserved c.self.inside.phase c.self.inside.log c.reserve.new.self c.in_ok-reserve.ensures.ok c.self.invariant.1 c.self.invariant.2)).spoiled,
  (noted_so c.self.inside.phase c.reserve.new.self c.note.new.self _ c.note.ensures (reserved c.self.inside.phase c.self.inside.log c.reserve.new.self c.in_ok-reserve.ensures.ok c.self.invariant.1 c.self.invariant.2)).last,
)

pub revise_kept-requires : goal.revise_kept-requires
revise_kept-requires c = record {
  apart = c.self.invariant.0.apart;
  fit = subst (λ (h : Host). (k : Kept) → contract_among c.args.signed.revision.parent h.state.contracts ≡ Some k → IsTrue (is_fit (length k.sectors) (map step_of c.args.signed.changes))) (sym c.self.view_is) c.requires.fit;
}
