use Rattle.std.proofs.Common.{arith}
use Rattle.sia_blake.proofs.Cuts.{passed_buffer}
use Rattle.sia_blake.proofs.state.HashState.pass_buffer.Goals as goal

pub returns-clause-passed : goal.returns-clause-passed
returns-clause-passed c = λ m held.
    passed_buffer c.args.self.now m c.compress-h.result held c.requires.full (omega arith) c.compress-h.ensures
