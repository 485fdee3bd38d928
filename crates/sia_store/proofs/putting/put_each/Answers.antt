use Rattle.std.proofs.Common.{arith, ◌≡◌, ◌+◌, ℕ, List, length, take, drop, refl, sym, ap, subst, ◌∙◌}
use Rattle.std.specs.Prelude.{slice_index_or, slice_set}
use Rattle.std.specs.List.{All, Contains}
use Rattle.std.proofs.lemmas.List.{length-set, take_all}
use Rattle.sia_shelf.specs.declared.mark.Mark.{Mark}
use Rattle.sia_shelf.specs.declared.mark.Mark.TheVariants as mark
use Rattle.sia_shelf.specs.Shelf.{IsFirstFree, free_slots, mark_of}
use Rattle.sia_shelf.specs.Slots.{Has, KeepsOthers}
use Rattle.sia_edge.specs.Disk.{Changes}
use Rattle.sia_commands.specs.declared.step.PutJob.{PutJob}
use Rattle.sia_store.specs.Lying.{KeepsBut, put_slots}
use Rattle.sia_store.proofs.Marking.{can_put, all_put_more, others_more, slot_there}
use Rattle.sia_store.proofs.PutImages.{more_changed, wrote_more}
use Rattle.sia_store.proofs.putting.put_each.Goals as goal

pub put-requires-clause-slot : goal.put-requires-clause-slot
put-requires-clause-slot g c =
    (can_put c.first_free_may_be_put.ensures c.loop-put.shelf.marks c.args.puts.now (free_slots c.args.shelf.now.marks) c.loop-put.put-index c.put-item.result c.requires.slots c.loop-put-test.true c.put-item.is c.loop-put.invariant.free).0

pub returns-in_err-put-clause-changes : goal.returns-in_err-put-clause-changes
returns-in_err-put-clause-changes g c =
    let K : ℕ → Type 0 = λ s. Changes (KeepsOthers s c.put-item.result.slot) (g.S.Disk.standing c.loop-put.shelf.disk) (g.S.Disk.standing c.put.new.self.disk) in
    let there = subst (λ (p : PutJob). Contains (put_slots c.args.puts.now) p.slot) (sym c.put-item.is) (slot_there c.args.puts.now c.loop-put.put-index c.put-item.result c.loop-put-test.true) in
    more_changed c.args.shelf.now.sector c.put-item.result.slot (put_slots c.args.puts.now) there c.loop-put.invariant.changes (subst K c.loop-put.invariant.sector c.put.ensures.changes)

pub loop-put-preserved : goal.loop-put-preserved
loop-put-preserved g c =
    let x = c.put-item.result in
    let i = c.loop-put.put-index in
    let puts = c.args.puts.now in
    let inv = c.loop-put.invariant in
    let marks = c.loop-put.shelf.marks in
    let lt = c.loop-put-test.true in
    let is = c.put-item.is in
    let can = can_put c.first_free_may_be_put.ensures marks puts (free_slots c.args.shelf.now.marks) i x c.requires.slots lt is inv.free in
    let m : c.put.new.self.marks ≡ slice_set marks x.slot mark.Put = c.in_ok-put.ensures.marked in
    let first = subst (λ (p : PutJob). IsFirstFree marks p.slot) is can.0 in
    let free = subst (λ (p : PutJob). mark_of marks p.slot ≡ mark.Free) is can.0.free in
    let K : ℕ → Type 0 = λ s. Changes (KeepsOthers s x.slot) (g.S.Disk.standing c.loop-put.shelf.disk) (g.S.Disk.standing c.put.new.self.disk) in
    let there = subst (λ (p : PutJob). Contains (put_slots puts) p.slot) (sym is) (slot_there puts i x lt) in
    let A : PutJob → Type 0 = λ y. All (λ (p : PutJob). mark_of (slice_set marks y.slot mark.Put) p.slot ≡ mark.Put) (take (i + 1) puts) in
    let B : PutJob → Type 0 = λ y. (slot : ℕ) → (Contains (put_slots puts) slot → ⊥) → mark_of (slice_set marks y.slot mark.Put) slot ≡ mark_of c.args.shelf.now.marks slot in
    let C : List Mark → Type 0 = λ ms. All (λ (p : PutJob). mark_of ms p.slot ≡ mark.Put) (take (i + 1) puts) in
    let D : List Mark → Type 0 = λ ms. (slot : ℕ) → (Contains (put_slots puts) slot → ⊥) → mark_of ms slot ≡ mark_of c.args.shelf.now.marks slot in
    record {
      sector = c.put.ensures.sector ∙ inv.sector;
      count = ap length m ∙ (length-set marks x.slot mark.Put ∙ inv.count);
      free = ap free_slots m ∙ can.1;
      marked = subst C (sym m) (subst A (sym is) (all_put_more marks puts i x lt first inv.marked));
      others = subst D (sym m) (subst B (sym is) (others_more c.args.shelf.now.marks marks puts i x lt inv.others));
      changes = more_changed c.args.shelf.now.sector x.slot (put_slots puts) there inv.changes (subst K inv.sector c.put.ensures.changes);
      wrote = λ told.
          let old = (g.S.Disk.standing c.loop-put.shelf.disk).seen in
          let new = (g.S.Disk.standing c.put.new.self.disk).seen in
          let O : ℕ → PutJob → Type 0 = λ s y. KeepsOthers s y.slot old new in
          let W : ℕ → PutJob → Type 0 = λ s y. Has s y.slot y.bytes new in
          let keeps = subst (O c.args.shelf.now.sector) is (subst (λ s. O s x) inv.sector (c.put.ensures.others told)) in
          let V : List ℕ → Type 0 = λ bytes. Has c.loop-put.shelf.sector x.slot bytes new in
          let has = subst (W c.args.shelf.now.sector) is (subst (λ s. W s x) inv.sector (subst V c.as_slice.ensures (c.in_ok-put.ensures.wrote told))) in
          wrote_more c.args.shelf.now.sector marks puts i x old new lt free inv.marked keeps has (inv.wrote told);
    }

pub returns-clause-marked : goal.returns-clause-marked
returns-clause-marked g c =
    let P : List PutJob → Type 0 = All (λ (p : PutJob). mark_of c.loop-put.shelf.marks p.slot ≡ mark.Put) in
    subst P (take_all c.loop-put.put-index c.args.puts.now (omega (arith, c.loop-put-test.false))) c.loop-put.invariant.marked

pub returns-clause-wrote : goal.returns-clause-wrote
returns-clause-wrote g c = λ told.
    let P : List PutJob → Type 0 = All (λ (p : PutJob). Has c.args.shelf.now.sector p.slot p.bytes (g.S.Disk.standing c.loop-put.shelf.disk).seen) in
    subst P (take_all c.loop-put.put-index c.args.puts.now (omega (arith, c.loop-put-test.false))) (c.loop-put.invariant.wrote told)
