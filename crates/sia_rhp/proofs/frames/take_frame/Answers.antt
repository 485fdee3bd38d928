use Rattle.sia_rhp.proofs.FrameLemmas.{frame_too_long, frame_behind}
use Rattle.sia_rhp.proofs.frames.take_frame.Goals as goal

pub returns-then-length-limit-clause-bytes : goal.returns-then-length-limit-clause-bytes
returns-then-length-limit-clause-bytes g c =
    let first = rw c.in-Ok-Some.field-0-is at c.in-Ok-Some.ensures in
    frame_too_long c.args.limit c.args.room c.in-Ok-Some.length _ _ c.if-length-limit.true first.bytes

pub returns-else-length-limit-clause-bytes : goal.returns-else-length-limit-clause-bytes
returns-else-length-limit-clause-bytes g c =
    let first = rw c.in-Ok-Some.field-0-is at c.in-Ok-Some.ensures in
    frame_behind c.args.limit c.args.room c.in-Ok-Some.length c.take_body.result _ _ _ c.if-length-limit.false first.bytes c.take_body.ensures.bytes
