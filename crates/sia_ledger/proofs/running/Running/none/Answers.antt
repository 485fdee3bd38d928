use Rattle.sia_ledger.proofs.RunningSums.{running-nil}
use Rattle.sia_ledger.proofs.running.Running.none.Goals as goal

pub returns : goal.returns
returns c = running-nil
