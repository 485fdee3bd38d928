use Rattle.std.proofs.Common.{◌≡◌, ◌≤◌, ◌<◌, length, min, arith}
use Rattle.sia_rhp.proofs.FrameLemmas.{body_short, body_long, body_whole_of}
use Rattle.sia_rhp.proofs.frames.take_body.Goals as goal

pub returns-then-count-want-clause-bytes : goal.returns-then-count-want-clause-bytes
returns-then-count-want-clause-bytes g c =
    let size : length c.fill_from_link.new.buffer ≡ min c.args.length c.args.room = omega (arith, c.in-Ok.ensures.len) in
    let few : c.in-Ok-fill_from_link.count < min c.args.length c.args.room = omega (arith, c.if-count-want.true) in
    body_short c.args.length c.args.room c.in-Ok-fill_from_link.count _ _ c.fill_from_link.new.buffer size few c.in-Ok-fill_from_link.ensures.bytes

pub returns-then-room-length-clause-bytes : goal.returns-then-room-length-clause-bytes
returns-then-room-length-clause-bytes g c =
    let size : length c.fill_from_link.new.buffer ≡ min c.args.length c.args.room = omega (arith, c.in-Ok.ensures.len) in
    let whole : min c.args.length c.args.room ≤ c.in-Ok-fill_from_link.count = omega (arith, c.if-count-want.false) in
    body_long c.args.length c.args.room c.in-Ok-fill_from_link.count _ _ c.fill_from_link.new.buffer size whole c.if-room-length.true c.in-Ok-fill_from_link.ensures.bytes

pub returns-else-room-length-clause-bytes : goal.returns-else-room-length-clause-bytes
returns-else-room-length-clause-bytes g c =
    let size : length c.fill_from_link.new.buffer ≡ min c.args.length c.args.room = omega (arith, c.in-Ok.ensures.len) in
    let all : length c.fill_from_link.new.buffer ≡ c.in-Ok.body.len = omega (arith, c.in-Ok.ensures.len) in
    let whole : min c.args.length c.args.room ≤ c.in-Ok-fill_from_link.count = omega (arith, c.if-count-want.false) in
    body_whole_of c.args.length c.args.room c.in-Ok-fill_from_link.count _ _ _ c.fill_from_link.new.buffer _ _ size all c.from_vec.ensures whole c.if-room-length.false c.in-Ok-fill_from_link.ensures.bytes
