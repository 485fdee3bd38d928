use Rattle.std.proofs.Common.{◌≡◌, ◌<◌, ℕ, length, map, set, arith, ap, ◌∙◌}
use Rattle.std.proofs.lemmas.List.{length-set, length-map}
use Rattle.sia_shelf.specs.Shelf.{mark_of, settled, free_slots}
use Rattle.sia_shelf.specs.declared.mark.Mark.TheVariants as mark
use Rattle.sia_bench.proofs.Putting.{live_more, free_above, kept_more, none_free}
use Rattle.sia_bench.proofs.sectors.put_each.Goals as goal

pub loop-slot-preserved : goal.loop-slot-preserved
loop-slot-preserved g c =
    let marks = c.loop-slot.shelf.marks in
    let slot = c.loop-slot.slot in
    let is : c.sync.new.self.marks ≡ map settled (set marks slot mark.Put) = c.in_ok-sync.ensures.marked ∙ ap (map settled) c.in_ok-put.ensures.marked in
    let size : length c.sync.new.self.marks ≡ c.args.slots = ap length is ∙ length-map (set marks slot mark.Put) settled ∙ length-set marks slot mark.Put ∙ c.loop-slot.invariant.1 in
    let there : slot < length marks = omega (arith, c.loop-slot.invariant.1, c.loop-slot-test.true) in (
      c.in_ok-sync.ensures.sector ∙ c.in_ok-put.ensures.sector ∙ c.loop-slot.invariant.0,
      size,
      λ k under. ap (λ all. mark_of all k) is ∙ live_more marks slot there c.loop-slot.invariant.2 k under,
      λ k over. ap (λ all. mark_of all k) is ∙ free_above marks slot c.loop-slot.invariant.3 k over,
      λ told. kept_more c.args.shelf.now.sector c.loop-slot.shelf.sector c.put.new.self.sector slot c.args.bytes.now (g.D.Disk.standing c.loop-slot.shelf.disk).seen (g.D.Disk.standing c.put.new.self.disk).seen (g.D.Disk.standing c.sync.new.self.disk) c.loop-slot.invariant.0 c.in_ok-put.ensures.sector c.in_ok-sync.ensures.quiet.same (c.in_ok-put.ensures.wrote told) (c.in_ok-put.ensures.others told) c.in_ok-sync.ensures.kept (λ k below. (c.loop-slot.invariant.4 told k below).0),
    )

pub returns-clause-count : goal.returns-clause-count
returns-clause-count g c =
    let marks = c.loop-slot.shelf.marks in
    let live : (slot : ℕ) → slot < length marks → mark_of marks slot ≡ mark.Live =
    λ slot lt. c.loop-slot.invariant.2 slot (omega (arith, lt, c.loop-slot.invariant.1, c.loop-slot-test.false)) in
    let none : length (free_slots marks) ≡ 0 = ap length (none_free 0 marks live) in
    omega (arith, c.saturating_sub.ensures, c.free_count.ensures, none)
