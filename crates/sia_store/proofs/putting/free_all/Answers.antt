use Rattle.std.proofs.Common.{arith, ◌≡◌, ◌+◌, ◌<◌, ◌≤◌, ℕ, List, length, refl, sym, ap, subst, ◌∙◌}
use Rattle.std.specs.Prelude.{slice_index_or, slice_set}
use Rattle.std.specs.List.{Contains}
use Rattle.std.proofs.lemmas.List.{length-set, get_or_default}
use Rattle.sia_shelf.specs.declared.mark.Mark.{Mark}
use Rattle.sia_shelf.specs.declared.mark.Mark.TheVariants as mark
use Rattle.sia_shelf.specs.Shelf.{ShelfState, mark_of}
use Rattle.sia_store.proofs.Freeing.{freed_more, live_more, unfreed_more, in_range}
use Rattle.sia_store.proofs.putting.free_all.Goals as goal

pub loop-slot-preserved : goal.loop-slot-preserved
loop-slot-preserved g c =
    let slots = c.args.slots.now in
    let i = c.loop-slot.slot-index in
    let inv = c.loop-slot.invariant in
    let marks = c.loop-slot.shelf.marks in
    let lt = c.loop-slot-test.true in
    let slot = slice_index_or slots i 0 in
    let is : c.free.new.self ≡ record { disk = c.loop-slot.shelf.disk; sector = c.loop-slot.shelf.sector; marks = slice_set marks slot mark.Free } = c.free.ensures in
    let m : c.free.new.self.marks ≡ slice_set marks slot mark.Free = ap (λ (s : ShelfState g.row.S.Denot). s.marks) is in
    let here : slot < length marks = in_range marks slot (inv.live i (omega arith) lt) in
    let F : List Mark → Type 0 = λ ms. (k : ℕ) → k < i + 1 → k < length slots → mark_of ms (slice_index_or slots k 0) ≡ mark.Free in
    let L : List Mark → Type 0 = λ ms. (k : ℕ) → i + 1 ≤ k → k < length slots → mark_of ms (slice_index_or slots k 0) ≡ mark.Live in
    let O : List Mark → Type 0 = λ ms. (other : ℕ) → (Contains slots other → ⊥) → mark_of ms other ≡ mark_of c.args.shelf.now.marks other in
    record {
      disk = ap (λ (s : ShelfState g.row.S.Denot). s.disk) is ∙ inv.disk;
      sector = ap (λ (s : ShelfState g.row.S.Denot). s.sector) is ∙ inv.sector;
      count = ap length m ∙ (length-set marks slot mark.Free ∙ inv.count);
      freed = subst F (sym m) (freed_more marks slots i lt c.requires.once here inv.freed);
      live = subst L (sym m) (live_more marks slots i c.requires.once inv.live);
      others = subst O (sym m) (unfreed_more c.args.shelf.now.marks marks slots i lt inv.others);
    }

pub returns-clause-marks : goal.returns-clause-marks
returns-clause-marks g c = record {
  count = c.loop-slot.invariant.count;
  freed = λ slot there.
      let lt : there.0 < length c.args.slots.now = there.1 in
      ap (mark_of c.loop-slot.shelf.marks) (sym there.2 ∙ get_or_default c.args.slots.now there.0 slot 0 lt)
      ∙ c.loop-slot.invariant.freed there.0 (omega (arith, lt, c.loop-slot-test.false)) lt;
  others = c.loop-slot.invariant.others;
}
