use Rattle.sia_ledger.proofs.Halves.{begun_same}
use Rattle.sia_ledger.proofs.draft.Draft.begin.Goals as goal

pub returns-clause-same : goal.returns-clause-same
returns-clause-same c = rw (c.ids.ensures, c.catalog.ensures.facts, c.new.ensures) (begun_same c.args.base.now c.catalog.ensures.new)
