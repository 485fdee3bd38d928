use Rattle.sia_forms.proofs.Accepting.{renewal_accepted}
use Rattle.sia_forms.proofs.laws.built_renewal_is_accepted.Goals as goal

pub returns : goal.returns
returns c = renewal_accepted
