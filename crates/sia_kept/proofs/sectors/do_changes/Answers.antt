-- Each change is done in room that is there.
use Rattle.std.proofs.Common.{◌≡◌, ◌∙◌, ◌+◌, [], ap, sym, arith, drop, length}
use Rattle.sia_records.specs.declared.change.Change.TheVariants as changes
use Rattle.sia_records.specs.Stored.{stored_after}
use Rattle.sia_kept.proofs.Changed.{change_fits, changes_done, next_change, others_fit}
use Rattle.sia_kept.proofs.sectors.do_changes.Goals as goal

pub do_change-requires-clause-fits : goal.do_change-requires-clause-fits
do_change-requires-clause-fits g c = change_fits (length c.loop-change.stored.items) c.args.changes.now c.loop-change.change-index (changes.Append [] 0) c.loop-change-test.true c.loop-change.invariant.fits

pub do_change-requires-clause-spare : goal.do_change-requires-clause-spare
do_change-requires-clause-spare g c = λ below. omega (arith, below, c.requires.spare, c.loop-change.invariant.total, c.loop-change.invariant.more, c.loop-change-test.true)

pub do_change-requires-clause-room : goal.do_change-requires-clause-room
do_change-requires-clause-room g c = λ below. omega (arith, below, c.requires.room, c.loop-change.invariant.room, c.loop-change.invariant.more, c.loop-change-test.true)

pub loop-change-preserved : goal.loop-change-preserved
loop-change-preserved g c = record {
  rest = ap (λ sectors. stored_after sectors (drop (c.loop-change.change-index + 1) c.args.changes.now)) c.do_change.ensures.stored
      ∙ sym (next_change c.loop-change.stored.items c.args.changes.now c.loop-change.change-index (changes.Append [] 0) c.loop-change-test.true) ∙ c.loop-change.invariant.rest;
  tree = c.do_change.ensures.tree;
  fits = others_fit c.loop-change.stored.items c.do_change.new.stored.items c.args.changes.now c.loop-change.change-index (changes.Append [] 0) c.loop-change-test.true c.loop-change.invariant.fits c.do_change.ensures.stored;
  total = c.do_change.ensures.spare ∙ c.loop-change.invariant.total;
  room = omega (arith, c.do_change.ensures.room, c.loop-change.invariant.room);
  more = omega (arith, c.do_change.ensures.more, c.loop-change.invariant.more);
}

pub returns : goal.returns
returns g c = record {
  stored = sym (changes_done c.loop-change.stored.items c.args.changes.now c.loop-change.change-index c.loop-change-test.false) ∙ c.loop-change.invariant.rest;
  tree = c.loop-change.invariant.tree;
}
