use Rattle.std.proofs.Common.{◌+◌, length, refl, arith}
use Rattle.std.proofs.lemmas.Slice.{take-put_mid}
use Rattle.sia_blake.proofs.Cuts.{absorbed_fill}
use Rattle.sia_blake.proofs.state.HashState.fill.Goals as goal

pub returns-clause-absorbed : goal.returns-clause-absorbed
returns-clause-absorbed c = λ m held.
    absorbed_fill c.args.self.now m c.args.bytes.now _ held c.requires
    (rw c.copy_from_slice.ensures.after
    (take-put_mid c.args.self.now.used _ c.args.self.now.buffer c.args.bytes.now (c.args.self.now.used + length c.args.bytes.now) refl (omega arith)))
