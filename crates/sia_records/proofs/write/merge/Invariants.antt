use Rattle.std.proofs.Common.{◌≡◌, ◌++◌}
use Rattle.std.specs.Vec.Iter.{into_iter_items}
use Rattle.sia_records.specs.Making.{merged}
use Rattle.sia_records.proofs.write.merge.Given as goal

abbrev pub invariant-loop-action : goal.invariant-loop-action
invariant-loop-action l = merged l.fn.actions l.fn.changed ≡ l.sectors ++ merged (into_iter_items l.action-iterator) (into_iter_items l.rest)
