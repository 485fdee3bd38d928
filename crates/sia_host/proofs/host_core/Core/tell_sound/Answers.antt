-- It is the invariant.
use Rattle.std.proofs.Common.{subst}
use Rattle.sia_kept.specs.State.{IsSound}
use Rattle.sia_host.specs.Answered.{Host}
use Rattle.sia_host.proofs.host_core.Core.tell_sound.Goals as goal

pub returns : goal.returns
returns c = subst (λ (h : Host). IsSound h.settings.sector h.settings.host_key h.state.contracts) c.self.view_is c.self.invariant.0
