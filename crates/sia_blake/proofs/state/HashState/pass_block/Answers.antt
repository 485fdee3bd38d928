use Rattle.sia_blake.proofs.Cuts.{passed_block}
use Rattle.sia_blake.proofs.state.HashState.pass_block.Goals as goal

pub returns-clause-passed : goal.returns-clause-passed
returns-clause-passed c = λ m held.
    passed_block c.args.self.now m c.args.block.now c.compress-h.result held c.requires.block c.compress-h.ensures
