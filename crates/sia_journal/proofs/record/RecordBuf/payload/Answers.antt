use Rattle.std.proofs.Common.{arith, ap, length}
use Rattle.sia_journal.proofs.Frames.{body_size}
use Rattle.sia_journal.proofs.record.RecordBuf.payload.Goals as goal

pub slice_bounds-result-count : goal.slice_bounds-result-count
slice_bounds-result-count c = omega (arith, ap length c.as_slice-body.ensures, body_size _ _ c.self.invariant)

pub slice_bounds-result-start : goal.slice_bounds-result-start
slice_bounds-result-start c = omega (arith, ap length c.as_slice-body.ensures, body_size _ _ c.self.invariant)
