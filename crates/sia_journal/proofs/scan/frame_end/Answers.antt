use Rattle.std.proofs.Common.{arith}
use Rattle.sia_journal.proofs.Walking.{frame_whole}
use Rattle.sia_journal.proofs.scan.frame_end.Goals as goal

pub returns-clause-frame : goal.returns-clause-frame
returns-clause-frame g c = λ told.
    frame_whole (g.D.Disk.standing c.args.disk.now).seen c.in_ok-bytes.bytes c.args.place c.size_from-size.result
    (c.in_ok-bytes.ensures.bytes told) c.size_from-size.ensures.exact c.size_from-size.ensures.fits
    (omega (arith, c.requires.end, c.requires.gate, c.if-left-lt8.false, c.if-size-left.false))
