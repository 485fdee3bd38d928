use Rattle.std.proofs.Common.{sym}
use Rattle.sia_ledger.specs.Holdings.{resting_at}
use Rattle.sia_ledger.proofs.Held.{held-cons}
use Rattle.sia_ledger.proofs.holdings.resting_standing.Goals as goal

pub returns : goal.returns
returns c = rw (c.counted.ensures, c.resting.ensures) (sym (held-cons (resting_at c.args.height) c.args.fact.now c.args.after.now))
