use Rattle.sia_ledger.proofs.RunningSums.{shares_is}
use Rattle.sia_ledger.proofs.register.Register.shares.Goals as goal

pub returns : goal.returns
returns c = rw (← c.self.view_is) (shares_is c.self.inside.sums c.self.inside.facts.items c.self.invariant.summed)
