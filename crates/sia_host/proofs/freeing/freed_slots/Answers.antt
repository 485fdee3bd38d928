-- One change more frees the slots of the sectors that it drops.
use Rattle.std.proofs.Common.{◌∙◌, ◌++◌, [], ap, sym, length, map}
use Rattle.std.proofs.lemmas.List.{length-map}
use Rattle.sia_diff.proofs.Fit.{fit_done}
use Rattle.sia_records.specs.declared.change.Change.TheVariants as changes
use Rattle.sia_records.specs.Stored.{step_of}
use Rattle.sia_kept.proofs.Changed.{change_fits, fit_for}
use Rattle.sia_host.specs.Freeing.{freed_in}
use Rattle.sia_host.specs.Writing.{sector_slot}
use Rattle.sia_host.proofs.Freed.{all_freed, freed_all, left_fit, one_more_freed}
use Rattle.sia_host.proofs.freeing.freed_slots.Goals as goal

pub loop-change-init : goal.loop-change-init
loop-change-init c = record {
  rest = ap (λ front. front ++ freed_in c.in_ok-slots.slots.items c.args.changes.now) c.new-freed.ensures;
  fits = ap (λ slots. fit_for (length slots) (map step_of c.args.changes.now)) c.in_ok-slots.ensures
      ∙ ap (λ n. fit_for n (map step_of c.args.changes.now)) (length-map c.args.sectors.now sector_slot) ∙ fit_done _ _ c.requires;
}

pub free_by-requires : goal.free_by-requires
free_by-requires c = change_fits (length c.loop-change.slots.items) c.args.changes.now c.loop-change.change-index (changes.Append [] 0) c.loop-change-test.true c.loop-change.invariant.fits

pub loop-change-preserved : goal.loop-change-preserved
loop-change-preserved c = record {
  rest = one_more_freed c.loop-change.slots.items _ c.loop-change.freed _ c.args.changes.now c.loop-change.change-index (changes.Append [] 0) c.loop-change-test.true c.in_ok-free_by.ensures.slots c.in_ok-free_by.ensures.freed ∙ c.loop-change.invariant.rest;
  fits = left_fit c.loop-change.slots.items _ c.args.changes.now c.loop-change.change-index (changes.Append [] 0) c.loop-change-test.true c.loop-change.invariant.fits c.in_ok-free_by.ensures.slots;
}

pub returns : goal.returns
returns c =
    sym (all_freed c.loop-change.slots.items c.loop-change.freed c.args.changes.now c.loop-change.change-index c.loop-change-test.false) ∙ c.loop-change.invariant.rest
    ∙ ap (λ slots. freed_in slots c.args.changes.now) c.in_ok-slots.ensures ∙ sym (freed_all c.args.sectors.now c.args.changes.now)
