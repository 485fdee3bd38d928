use Rattle.std.proofs.Common.{[], arith}
use Rattle.sia_types.specs.declared.coin.Coin.{Coin}
use Rattle.sia_forms.proofs.Prefixes.{reached_here}
use Rattle.sia_forms.proofs.choosing.shortest.Goals as goal

pub returns-then-missing-coin-clause-reached : goal.returns-then-missing-coin-clause-reached
returns-then-missing-coin-clause-reached c =
    let none : Coin = record { id = []; value = 0; address = []; from = 0 } in
    reached_here c.args.ordered.now c.args.need c.loop-i.missing c.loop-i.i none c.loop-i-test.true c.loop-i.invariant.rest c.loop-i.invariant.lacks (omega (arith, c.if-missing-coin.true))
