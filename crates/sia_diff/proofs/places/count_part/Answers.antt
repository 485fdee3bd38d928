use Rattle.std.proofs.Common.{◌∙◌, ◌+◌, min, get_or, ap, arith, length}
use Rattle.std.specs.Prelude.{cond}
use Rattle.sia_diff.proofs.Counts.{part_end}
use Rattle.sia_diff.proofs.places.count_part.Goals as goal

pub returns-clause-more : goal.returns-clause-more
returns-clause-more c = λ place within.
    c.loop-place.invariant.more place within
    ∙ ap (λ b. min 2 (get_or c.args.counts.now place 0 + cond b 1 0))
    (part_end c.args.start c.args.end (length c.args.counts.now) c.min-place-end.result c.loop-place.place place within (omega arith) c.loop-place.invariant.top c.loop-place-test.false (omega (arith, c.min-place-end.ensures)))
