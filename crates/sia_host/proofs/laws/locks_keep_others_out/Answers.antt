use Rattle.sia_host.proofs.RunsHeld.{locks_kept, none_hold}
use Rattle.sia_host.proofs.laws.locks_keep_others_out.Goals as goal

pub returns : goal.returns
returns g c = (λ key h before later move event contract none run noted is keeps. locks_kept g.C.SigCheck.verdict (g.G.Signer.Makes key) h before move later event contract (none_hold h none) run noted is keeps)
