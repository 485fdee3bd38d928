use Rattle.sia_forms.proofs.Accepting.{form_accepted}
use Rattle.sia_forms.proofs.laws.built_form_is_accepted.Goals as goal

pub returns : goal.returns
returns c = form_accepted
