use Rattle.std.proofs.Common.{arith}
use Rattle.sia_pieces.proofs.Solutions.{raised_are, raised_done, raised_kept}
use Rattle.sia_pieces.proofs.solve.raise.Goals as goal

pub loop-i-preserved : goal.loop-i-preserved
loop-i-preserved c = record {
  done = raised_done c.args.place c.args.values.now c.loop-i.values c.loop-i.i _ (omega arith) (omega arith) c.gf_mul.ensures c.loop-i.invariant.done c.loop-i.invariant.kept;
  kept = raised_kept c.args.values.now c.loop-i.values c.loop-i.i _ (omega arith) c.loop-i.invariant.kept;
}

pub returns : goal.returns
returns c = raised_are c.args.place c.args.values.now c.loop-i.values c.loop-i.i (omega arith) (omega arith) c.loop-i.invariant.done c.loop-i.invariant.kept
