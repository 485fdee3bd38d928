use Rattle.sia_ledger.proofs.RunningSums.{outputs_is}
use Rattle.sia_ledger.proofs.register.Register.outputs.Goals as goal

pub returns : goal.returns
returns c = rw (← c.self.view_is) (outputs_is c.self.inside.sums c.self.inside.facts.items c.self.invariant.summed (rw (← c.self.view_is) at c.requires))
