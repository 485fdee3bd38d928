use Rattle.std.proofs.Common.{arith}
use Rattle.sia_blake.proofs.Rounds.{working_words_of}
use Rattle.sia_blake.proofs.compression.working_words.Goals as goal
use Rattle.sia_blake.proofs.compression.working_words.Goals.{then-last, else-last}

pub returns : goal.returns
returns c = working_words_of c.args.h c.args.taken c.if-last.flag c.args.last (omega arith)
    (elim c.if-last.branch [ then-last w ↦ rw w.if-last.true w.flag-is | else-last w ↦ rw w.if-last.false w.flag-is ])
