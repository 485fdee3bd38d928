use Rattle.std.proofs.Common.{◌≡◌, drop}
use Rattle.sia_encoding.specs.Firsts.{first_at}
use Rattle.sia_sign.specs.Faults.{signature_fault}
use Rattle.sia_sign.proofs.checking.check_each.Given as goal

abbrev pub invariant-loop-i : goal.invariant-loop-i
invariant-loop-i g l =
    first_at (signature_fault g.C.SigCheck.verdict l.height l.tx) 0 l.signatures
    ≡ first_at (signature_fault g.C.SigCheck.verdict l.height l.tx) l.i (drop l.i l.signatures)
