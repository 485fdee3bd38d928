use Rattle.sia_rules.proofs.Issue.{issued-fits}
use Rattle.sia_rules.proofs.laws.issue_fits.Goals as goal

pub returns : goal.returns
returns c = issued-fits
