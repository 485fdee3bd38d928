-- The others that the iterator has left are still to be taken in.
use Rattle.std.specs.Vec.Iter.{into_iter_items}
use Rattle.sia_turn.proofs.Gathering.{Gathering}
use Rattle.sia_turn.proofs.turn.Turn.gather.Given as goal

abbrev pub invariant-loop-other : goal.invariant-loop-other
invariant-loop-other g l =
    (goal.iterator-loop-other g).can_next l.other-iterator ×
    (goal.iterator-loop-other g).is_finite l.other-iterator × Gathering l.self.turn l.fn.others.items (into_iter_items l.other-iterator) l.fn.pass l.pass
