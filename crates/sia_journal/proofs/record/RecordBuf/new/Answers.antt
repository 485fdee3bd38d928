use Rattle.sia_journal.proofs.Frames.{body_made}
use Rattle.sia_journal.proofs.record.RecordBuf.new.Goals as goal

pub invariant_of-result : goal.invariant_of-result
invariant_of-result c = (body_made _ _ _ _ c.new-body.ensures c.in_ok-put_bytes.ensures.ok c.in_ok-push.ensures.ok).0

pub returns : goal.returns
returns c = (body_made _ _ _ _ c.new-body.ensures c.in_ok-put_bytes.ensures.ok c.in_ok-push.ensures.ok).1
