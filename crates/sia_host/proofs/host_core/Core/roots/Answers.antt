-- The request was judged, so that the roots follow, or the refusal.
use Rattle.std.proofs.Common.{[]}
use Rattle.sia_commands.specs.declared.call.Call.{Call}
use Rattle.sia_commands.specs.declared.event.Kind.TheVariants as kind
use Rattle.sia_kept.specs.State.{IsSound}
use Rattle.sia_host.specs.Answered.{no_work}
use Rattle.sia_host.specs.Paying.{IsRevised, open_now, paid_revision}
use Rattle.sia_host.specs.Reading.{roots_fault, roots_payment, roots_said}
use Rattle.sia_host.proofs.Held.{refuses_so}
use Rattle.sia_host.proofs.Opened.{same_stores}
use Rattle.sia_host.proofs.Readable.{is_range}
use Rattle.sia_host.proofs.RootsTold.{roots_follow}
use Rattle.sia_host.proofs.host_core.Core.roots.Goals as goal

pub returns-in-Err-Code-clause-gives : goal.returns-in-Err-Code-clause-gives
returns-in-Err-Code-clause-gives g c =
    let call : Call = record { worker = c.args.worker; session = c.args.session; kind = kind.Roots } in
    let h = c.args.self.now in
    refuses_so h call (open_now h c.args.session) (roots_fault h c.args.request)
    (λ k a. IsRevised g.C.SigCheck.verdict (g.G.Signer.Makes (g.G.Signer.public_key c.args.signer.now)) h c.args.room.now call k.id k.renter_key (paid_revision k (roots_payment c.args.request) k.newest.size k.newest.root) c.args.request.signature [] (roots_said k c.args.request) no_work a)
    c.in-Err-Code.code c.refuse.result c.refuse.new.self (rw c.in-Err-Code.field-0-is at c.in-Err-Code.ensures) (rw (← c.held-held.ensures) c.refuse.ensures.gives)

pub tell_roots-requires : goal.tell_roots-requires
tell_roots-requires g c =
    let range = is_range c.args.self.now c.args.request (open_now c.args.self.now c.args.session) c.in-Ok.contract.now c.in-Ok.ensures in
    record { within = range.0; some = range.1 }

pub roots_paid-requires : goal.roots_paid-requires
roots_paid-requires g c =
    let h = c.args.self.now in
    let sound : IsSound h.settings.sector h.settings.host_key h.state.contracts = c.tell_sound.ensures in
    record { stores = same_stores h (roots_fault h c.args.request) c.in-Ok.contract.now (roots_payment c.args.request) c.args.session c.in_ok-revision-in-Ok.revision sound c.in-Ok.ensures c.in_ok-revision-in-Ok.ensures }

pub returns-clause-gives : goal.returns-clause-gives
returns-clause-gives g c =
    roots_follow g.C.SigCheck.verdict (g.G.Signer.Makes (g.G.Signer.public_key c.args.signer.now)) c.args.self.now c.args.room.now c.args.worker c.args.session c.args.request c.in-Ok.contract.now _ _ _ c.roots_paid.result c.roots_paid.new.self
    c.in-Ok.ensures c.in_ok-revision-in-Ok.ensures c.in_ok-told-in-Ok.ensures.roots c.in_ok-told-in-Ok.ensures.hashes (rw (← c.contract.view_is) c.roots_paid.ensures.gives)
