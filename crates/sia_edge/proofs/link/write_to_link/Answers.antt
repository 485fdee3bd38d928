use Rattle.std.proofs.Common.{◌++◌, take, arith, ◌∙◌}
use Rattle.std.proofs.lemmas.Grind.{common_steps}
use Rattle.sia_edge.proofs.Progress.{appends_both}
use Rattle.sia_edge.proofs.link.write_to_link.Goals as goal

pub loop-rest-preserved : goal.loop-rest-preserved
loop-rest-preserved g c =
    let one = c.loop-rest.invariant.0 in
    ((one.0 ++ take c.in-Taken.count c.loop-rest.rest.now, grind (arith, common_steps), appends_both _ _ _ _ _ one.2 c.in-Taken.ensures.bytes), omega (arith, c.in-Taken.ensures.cause.later), c.in-Taken.ensures.apart ∙ c.loop-rest.invariant.2)
