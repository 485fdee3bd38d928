use Rattle.std.proofs.Common.{◌++◌, ◌+◌, ◌^◌, ◌<◌, take, drop, arith, rules, ap, ◌∙◌}
use Rattle.sia_journal.proofs.ReadingBack.{filled, sized, next_few, next_long, next_read}
use Rattle.sia_journal.proofs.journal.Journal.read_next_onto.Goals as goal

pub returns-then-left-lt9-clause-next : goal.returns-then-left-lt9-clause-next
returns-then-left-lt9-clause-next g c = λ told header read left holds stands.
    next_few header holds.sized read (g.D.Disk.standing c.args.self.now.disk).seen c.args.self.now.gate c.args.place.now c.requires.ready.ends stands left c.args.out.now.items c.args.out.now.items holds.is c.if-left-lt9.true

pub returns-then-size-left-clause-next : goal.returns-then-size-left-clause-next
returns-then-size-left-clause-next g c = λ told header read left holds stands.
    let small : c.args.self.now.gate < 2 ^ 64 = omega (arith, c.requires.ready.within, c.requires.ready.bounded) in
    let bytes = filled c.read_whole.new.buffer (g.D.Disk.standing c.args.self.now.disk).seen (c.args.place.now + 1) 8 c.read_whole.result c.in_ok-done.ensures.ok (search rules) (c.read_whole.ensures.bytes told) in
    next_long header holds.sized read (g.D.Disk.standing c.args.self.now.disk).seen c.args.self.now.gate c.args.place.now c.requires.ready.ends stands c.read_whole.new.buffer c.from_le_bytes-size.result small bytes c.from_le_bytes-size.ensures left c.args.out.now.items c.args.out.now.items holds.is c.if-left-lt9.false c.if-size-left.true

pub returns-clause-next : goal.returns-clause-next
returns-clause-next g c = λ told header read left holds stands.
    let small : c.args.self.now.gate < 2 ^ 64 = omega (arith, c.requires.ready.within, c.requires.ready.bounded) in
    let bytes = filled c.read_whole.new.buffer (g.D.Disk.standing c.args.self.now.disk).seen (c.args.place.now + 1) 8 c.read_whole.result c.in_ok-done.ensures.ok (search rules) (c.read_whole.ensures.bytes told) in
    next_read header holds.sized read (g.D.Disk.standing c.args.self.now.disk).seen c.args.self.now.gate c.args.place.now c.requires.ready.ends stands c.read_whole.new.buffer c.from_le_bytes-size.result small bytes c.from_le_bytes-size.ensures left c.args.out.now.items c.read_onto.new.bytes.items holds.is c.if-left-lt9.false
    (c.in_ok-read_onto.ensures.bytes told ∙ ap (λ file. c.args.out.now.items ++ take c.from_le_bytes-size.result (drop (c.args.place.now + 9) file)) c.read_whole.ensures.quiet.same)

pub returns-in_err-read_onto-clause-fits : goal.returns-in_err-read_onto-clause-fits
returns-in_err-read_onto-clause-fits g c = λ told header read left payload holds stands room same.
    let small : c.args.self.now.gate < 2 ^ 64 = omega (arith, c.requires.ready.within, c.requires.ready.bounded) in
    let bytes = filled c.read_whole.new.buffer (g.D.Disk.standing c.args.self.now.disk).seen (c.args.place.now + 1) 8 c.read_whole.result c.in_ok-done.ensures.ok (search rules) (c.read_whole.ensures.bytes told) in
    let count = sized header holds.sized read (g.D.Disk.standing c.args.self.now.disk).seen c.args.self.now.gate c.args.place.now c.requires.ready.ends stands c.read_whole.new.buffer c.from_le_bytes-size.result small bytes c.from_le_bytes-size.ensures payload left holds.is in
    let never = c.read_onto.ensures.room (omega (arith, room, count)) in
    search (rules, never)
