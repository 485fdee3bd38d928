use Rattle.sia_slots.proofs.Keeping.{keeps_once}
use Rattle.sia_slots.proofs.laws.replays_keep_once.Goals as goal

pub returns : goal.returns
returns g c = (λ h made sound once follows. keeps_once g.C.SigCheck.verdict h made sound once follows)
