use Rattle.std.proofs.Common.{◌≤◌, length, arith}
use Rattle.std.specs.Int.Digits.{digits_of}
use Rattle.std.proofs.lemmas.Int.Digits.{length-digits_of-le}
use Rattle.sia_kept.proofs.typed.U128Typed.know.Goals as goal

pub returns : goal.returns
returns c =
    let few : length (digits_of 256 c.args.self.now) ≤ 16 = length-digits_of-le 256 16 c.args.self.now (omega arith) (omega arith) in
    (omega arith, omega (arith, few))
