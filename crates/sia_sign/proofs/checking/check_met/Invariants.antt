use Rattle.std.proofs.Common.{◌≡◌, ◌+◌, drop, map}
use Rattle.sia_encoding.specs.Firsts.{first_at}
use Rattle.sia_sign.specs.Faults.{missing_fault}
use Rattle.sia_sign.proofs.checking.check_met.Given as goal

abbrev pub invariant-loop-i : goal.invariant-loop-i
invariant-loop-i g l =
    first_at (missing_fault l.signatures) l.first (map g.T.Locked.need l.all)
    ≡ first_at (missing_fault l.signatures) (l.first + l.i) (map g.T.Locked.need (drop l.i l.all))
