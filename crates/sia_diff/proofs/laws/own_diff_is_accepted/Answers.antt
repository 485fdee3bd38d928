use Rattle.std.proofs.Common.{length}
use Rattle.sia_diff.proofs.DiffSoundness.{own_diff, own_new}
use Rattle.sia_diff.proofs.Fit.{fit_done}
use Rattle.sia_diff.proofs.laws.own_diff_is_accepted.Goals as goal

pub returns-clause-accepted : goal.returns-clause-accepted
returns-clause-accepted c = λ hashes steps fit. own_diff hashes steps

pub returns-clause-root : goal.returns-clause-root
returns-clause-root c = λ hashes steps fit. own_new hashes steps (fit_done (length hashes) steps fit)
