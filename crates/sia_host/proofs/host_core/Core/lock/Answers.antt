-- The contract was judged, so that the answer hangs on its holder alone.
use Rattle.std.proofs.Common.{ℕ, Result, IfOk, subst, sym}
use Rattle.sia_commands.specs.declared.event.Kind.TheVariants as kind
use Rattle.sia_host.specs.Answered.{IsReaction, holder_now}
use Rattle.sia_host.specs.Locking.{lock_given}
use Rattle.sia_kept.specs.State.{Kept}
use Rattle.sia_host.proofs.host_core.Core.lock.Goals as goal

pub returns-in_ok-answer-in-Ok-clause-gives : goal.returns-in_ok-answer-in-Ok-clause-gives
returns-in_ok-answer-in-Ok-clause-gives g c =
    let P : Result Kept ℕ → Type 0 = λ judged. IfOk c.lock_judged.result (λ step. IsReaction c.args.self.now (lock_given c.args.self.now (record { worker = c.args.worker; session = c.args.session; kind = kind.Lock }) c.args.request.now.contract judged (holder_now c.args.self.now c.args.request.now.contract)) step c.lock_judged.new.self) in
    subst P (sym c.in-Ok.ensures) (c.lock_judged.ensures.gives c.in-Ok.contract.now c.in_ok-answer-in-Ok.ensures)
