use Rattle.sia_ledger.proofs.RunningSums.{pool_is}
use Rattle.sia_ledger.proofs.register.Register.pool.Goals as goal

pub returns : goal.returns
returns c = rw (← c.self.view_is) (pool_is c.self.inside.sums c.self.inside.facts.items c.self.invariant.summed)
