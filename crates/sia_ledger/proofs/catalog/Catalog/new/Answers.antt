use Rattle.sia_ledger.proofs.catalog.Catalog.new.Goals as goal

pub invariant_of-result : goal.invariant_of-result
invariant_of-result c = rw c.new.ensures (record { paid = c.new-2.ensures; ended = c.new-3.ensures })
