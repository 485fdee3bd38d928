-- Both are of their type.
use Rattle.sia_host.proofs.Spelled.{revision_same}
use Rattle.sia_host.proofs.same_revision.is_same_revision.Goals as goal

pub returns-clause-one : goal.returns-clause-one
returns-clause-one c = revision_same c.is_spelled_as.result c.args.one.now c.args.other.now c.know.ensures c.know-2.ensures c.is_spelled_as.ensures
