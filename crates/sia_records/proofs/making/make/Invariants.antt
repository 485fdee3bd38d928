use Rattle.std.proofs.Common.{drop}
use Rattle.std.specs.Vec.Iter.{into_iter_items}
use Rattle.sia_records.specs.Making.{MakesSoFar}
use Rattle.sia_records.proofs.making.make.Given as goal

abbrev pub invariant-loop-action : goal.invariant-loop-action
invariant-loop-action l = MakesSoFar l.actions (drop l.action-index l.actions) l.fn.fetched (into_iter_items l.rest) l.made
