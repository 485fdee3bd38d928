use Rattle.sia_ledger.proofs.ledger.Ledger.know.Goals as goal

pub returns : goal.returns
returns c = rw (← c.self.view_is) c.self.invariant.sound
