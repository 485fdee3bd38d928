use Rattle.std.proofs.Common.{◌≡◌, length, arith, ◌∙◌}
use Rattle.sia_edge.proofs.Filling.{filled_fits}
use Rattle.sia_edge.proofs.Fillings.{lost_so_far, filled_more, filled_full}
use Rattle.sia_edge.proofs.link.fill_from_link.Goals as goal

pub returns-in-Failed-clause-lost : goal.returns-in-Failed-clause-lost
returns-in-Failed-clause-lost g c = lost_so_far _ (g.L.Link.left c.loop-filled.link) _ c.loop-filled.buffer c.loop-filled.filled c.loop-filled.invariant.so_far c.in-Failed.ensures.bytes

pub loop-filled-preserved : goal.loop-filled-preserved
loop-filled-preserved g c =
    let so_far = c.loop-filled.invariant in
    let read = c.in-Bytes.ensures in
    record {
      so_far = filled_more _ (g.L.Link.left c.loop-filled.link) _ _ _ _ _ _ so_far.within read.bound.1 so_far.so_far read.bytes;
      within = filled_fits _ _ _ _ _ so_far.within read.bound.1;
      apart = read.apart ∙ so_far.apart;
      later = omega (arith, so_far.later, read.cause.later);
    }

pub returns-clause-bytes : goal.returns-clause-bytes
returns-clause-bytes g c =
    let full : c.loop-filled.filled ≡ length c.loop-filled.buffer = omega (arith, c.loop-filled.invariant.within, c.loop-filled-test.false) in
    filled_full _ (g.L.Link.left c.loop-filled.link) c.loop-filled.buffer c.loop-filled.filled full c.loop-filled.invariant.so_far
