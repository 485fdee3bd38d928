use Rattle.std.proofs.Common.{arith, ◌≡◌, ◌+◌, ℕ, length, inl, sym, ap, subst, ◌∙◌}
use Rattle.std.specs.Prelude.{slice_index_or}
use Rattle.std.specs.List.{Contains}
use Rattle.std.proofs.lemmas.List.{get_or_default}
use Rattle.sia_shelf.specs.Shelf.{mark_of}
use Rattle.sia_book.proofs.MarkedLive.{Marked, marked, live_more, either_more, free_still}
use Rattle.sia_book.proofs.slots.mark_all.Goals as goal

pub loop-slot-preserved : goal.loop-slot-preserved
loop-slot-preserved g c =
    let i = c.loop-slot.slot-index in
    let live = c.args.live.now in
    let slot = slice_index_or live i 0 in
    let inv = c.loop-slot.invariant in
    let lt = c.loop-slot-test.true in
    let within = (c.requires.whole slot (i, lt, get_or_default live i slot 0 lt)).0 in
    let m : Marked c.loop-slot.shelf c.mark.new.self slot = marked c.loop-slot.shelf c.mark.new.self slot c.mark.result (omega (arith, within, inv.count)) inv.either c.mark.ensures.marked c.mark.ensures.kept c.mark.ensures.exact in
    record {
      disk = m.disk ∙ inv.disk;
      sector = m.sector ∙ inv.sector;
      count = m.count ∙ inv.count;
      marked = live_more c.loop-slot.shelf c.mark.new.self live i m inv.marked;
      either = either_more c.loop-slot.shelf c.mark.new.self slot m inv.either;
      others = free_still c.loop-slot.shelf c.mark.new.self live i lt m inv.others;
    }

pub returns-clause-marks : goal.returns-clause-marks
returns-clause-marks g c = record {
  count = c.loop-slot.invariant.count;
  are_live = λ slot there.
      ap (mark_of c.loop-slot.shelf.marks) (sym there.2 ∙ get_or_default c.args.live.now there.0 slot 0 there.1)
      ∙ c.loop-slot.invariant.marked there.0 (omega (arith, there.1, c.loop-slot-test.false)) there.1;
  are_free = c.loop-slot.invariant.others;
}
