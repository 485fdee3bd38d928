-- One session more is changed.
use Rattle.std.proofs.Common.{arith}
use Rattle.std.proofs.lemmas.List.Edits.{map_over_more}
use Rattle.sia_kept.proofs.Events.{one_more_changed}
use Rattle.sia_kept.proofs.log.change.Goals as goal

pub loop-i-preserved : goal.loop-i-preserved
loop-i-preserved c = record {
  items = one_more_changed _ _ _ _ _ _ _ c.loop-i.invariant.items (omega (arith, c.loop-i-test.true, c.len-i-end.ensures, c.args.sessions.now.ok.0)) c.index-session.ensures c.changed.ensures;
  capacity = c.loop-i.invariant.capacity;
  len = c.loop-i.invariant.len;
}
