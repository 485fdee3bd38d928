use Rattle.sia_records.proofs.Asking.{asked_served}
use Rattle.sia_records.proofs.laws.asked_reads_are_served.Goals as goal

pub returns : goal.returns
returns c = asked_served
