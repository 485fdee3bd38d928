use Rattle.sia_host.proofs.Askings.{due_is_made}
use Rattle.sia_host.proofs.laws.due_jobs_are_made.Goals as goal

pub returns : goal.returns
returns c = due_is_made
