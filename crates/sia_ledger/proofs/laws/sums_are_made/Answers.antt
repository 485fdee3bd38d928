use Rattle.sia_ledger.proofs.EachSum.{each_sum}
use Rattle.sia_ledger.proofs.laws.sums_are_made.Goals as goal

pub returns : goal.returns
returns c = each_sum c.args.ledger.now c.know.ensures
