-- The revisions are of their types.
use Rattle.sia_host.proofs.Spelled.{clears_one}
use Rattle.sia_host.proofs.renewing_again.clears.Goals as goal

pub returns-clause-one : goal.returns-clause-one
returns-clause-one c = clears_one c.is_cleared.result c.args.newest.now c.args.revisions.now c.know.ensures c.know-2.ensures.1 c.is_cleared.ensures
