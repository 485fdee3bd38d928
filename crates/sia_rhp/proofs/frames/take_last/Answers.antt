use Rattle.std.proofs.Common.{◌≡◌, ◌<◌, length, min, arith}
use Rattle.sia_rhp.proofs.FrameLemmas.{length_long, length_none, length_short}
use Rattle.sia_rhp.proofs.frames.take_last.Goals as goal

pub returns-then-count-last-clause-bytes : goal.returns-then-count-last-clause-bytes
returns-then-count-last-clause-bytes g c =
    let size : length c.fill_from_link.new.buffer ≡ min (length c.args.last.now) 8 = omega (arith, c.requires) in
    length_long (length c.args.last.now) c.in-Ok.count _ _ c.fill_from_link.new.buffer size c.requires c.if-count-last.true c.in-Ok.ensures.bytes

pub returns-then-count-eq0-clause-bytes : goal.returns-then-count-eq0-clause-bytes
returns-then-count-eq0-clause-bytes g c =
    let size : length c.fill_from_link.new.buffer ≡ min (length c.args.last.now) 8 = omega (arith, c.requires) in
    let some : 0 < length c.fill_from_link.new.buffer = omega (arith, c.if-count-last.false, c.if-count-eq0.true) in
    length_none (length c.args.last.now) c.in-Ok.count _ _ c.fill_from_link.new.buffer size c.if-count-eq0.true some c.in-Ok.ensures.bytes

pub returns-else-count-eq0-clause-bytes : goal.returns-else-count-eq0-clause-bytes
returns-else-count-eq0-clause-bytes g c =
    let size : length c.fill_from_link.new.buffer ≡ min (length c.args.last.now) 8 = omega (arith, c.requires) in
    let within : c.in-Ok.count < length c.fill_from_link.new.buffer = omega (arith, c.if-count-last.false, c.in-Ok.ensures.bound) in
    length_short (length c.args.last.now) c.in-Ok.count _ _ c.fill_from_link.new.buffer size c.if-count-eq0.false within c.in-Ok.ensures.bytes
