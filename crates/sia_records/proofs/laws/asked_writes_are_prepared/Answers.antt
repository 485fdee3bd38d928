use Rattle.sia_records.proofs.Asking.{asked_prepared}
use Rattle.sia_records.proofs.laws.asked_writes_are_prepared.Goals as goal

pub returns : goal.returns
returns c = asked_prepared
