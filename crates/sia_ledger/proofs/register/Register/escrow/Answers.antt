use Rattle.sia_ledger.proofs.RunningSums.{escrow_is}
use Rattle.sia_ledger.proofs.register.Register.escrow.Goals as goal

pub returns : goal.returns
returns c = rw (← c.self.view_is) (escrow_is c.self.inside.sums c.self.inside.facts.items c.self.invariant.summed (rw (← c.self.view_is) at c.requires))
