use Rattle.std.proofs.Common.{◌≡◌, arith}
use Rattle.sia_shelf.proofs.Tallying.{first_of}
use Rattle.sia_shelf.proofs.laws.first_free_may_be_put.Goals as goal

pub returns : goal.returns
returns c = λ marks slot others is.
    let found = first_of 0 marks slot others is in
    let same : slot ≡ found.0 = omega (arith, found.1) in
    rw same (found.2, found.3)
