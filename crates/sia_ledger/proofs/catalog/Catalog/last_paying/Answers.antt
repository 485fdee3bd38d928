use Rattle.sia_ledger.specs.Cataloged.{addresses_of}
use Rattle.sia_ledger.proofs.catalog.Catalog.last_paying.Goals as goal

pub returns : goal.returns
returns c = rw (← c.self.view_is) (c.last.ensures (addresses_of c.self.inside.register) c.self.invariant.paid)
