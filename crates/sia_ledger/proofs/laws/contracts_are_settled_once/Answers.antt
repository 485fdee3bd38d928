use Rattle.sia_ledger.proofs.Always.{settled_once}
use Rattle.sia_ledger.proofs.laws.contracts_are_settled_once.Goals as goal

pub returns : goal.returns
returns c = settled_once
