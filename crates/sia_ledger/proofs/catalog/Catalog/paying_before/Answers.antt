use Rattle.sia_ledger.specs.Cataloged.{addresses_of}
use Rattle.sia_ledger.proofs.catalog.Catalog.paying_before.Goals as goal

pub returns : goal.returns
returns c = rw (← c.self.view_is) (c.earlier.ensures (addresses_of c.self.inside.register) c.args._address.now c.self.invariant.paid (rw (← c.self.view_is) at c.requires))
