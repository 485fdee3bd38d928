use Rattle.sia_ledger.proofs.RunningSums.{running_less}
use Rattle.sia_ledger.proofs.running.Running.less.Goals as goal

pub returns : goal.returns
returns c = λ facts x is same last.
    running_less c.args.self.now _ facts x _ _ is same last
    (rw (c.last_coins.ensures, c.coins.ensures) at c.moved-self.ensures)
    (rw (c.last_held.ensures, c.held.ensures) at c.moved-self-2.ensures)
    (rw c.shares_by.ensures at c.moved-self-3.ensures)
