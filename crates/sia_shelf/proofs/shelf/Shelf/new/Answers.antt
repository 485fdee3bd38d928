use Rattle.sia_shelf.proofs.Marking.{fresh_fits}
use Rattle.sia_shelf.proofs.shelf.Shelf.new.Goals as goal

pub invariant_of-result : goal.invariant_of-result
invariant_of-result g c = rw c.in-Ok.ensures (fresh_fits c.args.sector c.args.slots _ c.requires.size c.requires.few)
