use Rattle.std.proofs.Common.{◌≡◌, ◌<◌, length, min, arith}
use Rattle.sia_rhp.proofs.FrameLemmas.{length_none, length_short, length_whole}
use Rattle.sia_rhp.proofs.frames.take_length.Goals as goal

pub returns-in-Ok-eq0-clause-bytes : goal.returns-in-Ok-eq0-clause-bytes
returns-in-Ok-eq0-clause-bytes g c =
    let size : length c.fill_from_link.new.buffer ≡ min c.args.room 8 = omega (arith, c.if-room.false) in
    let some : 0 < length c.fill_from_link.new.buffer = omega arith in
    length_none c.args.room c.in-Ok-eq0.field-0 _ _ c.fill_from_link.new.buffer size c.in-Ok-eq0.field-0-test some c.in-Ok-eq0.ensures.bytes

pub returns-in-Ok-eq8-clause-bytes : goal.returns-in-Ok-eq8-clause-bytes
returns-in-Ok-eq8-clause-bytes g c =
    let size : length c.fill_from_link.new.buffer ≡ 8 = omega arith in
    length_whole c.args.room c.in-Ok-eq8.field-0 _ _ _ c.fill_from_link.new.buffer size c.if-room.false c.in-Ok-eq8.field-0-test c.from_le_bytes.ensures c.in-Ok-eq8.ensures.bytes

pub returns-in-Ok-clause-bytes : goal.returns-in-Ok-clause-bytes
returns-in-Ok-clause-bytes g c =
    let size : length c.fill_from_link.new.buffer ≡ min c.args.room 8 = omega (arith, c.if-room.false) in
    let within : c.in-Ok.field-0 < length c.fill_from_link.new.buffer = omega (arith, c.in-Ok.field-0-test.1, c.in-Ok.ensures.bound) in
    length_short c.args.room c.in-Ok.field-0 _ _ c.fill_from_link.new.buffer size c.in-Ok.field-0-test.0.1 within c.in-Ok.ensures.bytes
