-- The read was judged, so that its parts follow, or the refusal.
use Rattle.std.proofs.Common.{◌≡◌, ◌∙◌, [], ap}
use Rattle.sia_rhp.specs.declared.request_bodies.ReadRequest.{ReadRequest}
use Rattle.sia_commands.specs.declared.call.Call.{Call}
use Rattle.sia_commands.specs.declared.event.Kind.TheVariants as kind
use Rattle.sia_kept.specs.State.{IsSound}
use Rattle.sia_host.specs.Answered.{no_work}
use Rattle.sia_host.specs.Paying.{IsRevised, open_now, paid_revision}
use Rattle.sia_host.specs.Reading.{read_fault, read_payment, read_said}
use Rattle.sia_host.proofs.Held.{refuses_so}
use Rattle.sia_host.proofs.Opened.{same_stores}
use Rattle.sia_host.proofs.Sectioned.{is_ready, read_follows}
use Rattle.sia_host.proofs.host_core.Core.read.Goals as goal

pub returns-in-Err-Code-clause-gives : goal.returns-in-Err-Code-clause-gives
returns-in-Err-Code-clause-gives g c =
    let call : Call = record { worker = c.args.worker; session = c.args.session; kind = kind.Read } in
    let h = c.args.self.now in
    refuses_so h call (open_now h c.args.session) (read_fault h c.args.read)
    (λ k a. IsRevised g.C.SigCheck.verdict (g.G.Signer.Makes (g.G.Signer.public_key c.args.signer.now)) h c.args.room.now call k.id k.renter_key (paid_revision k (read_payment c.args.read.request) k.newest.size k.newest.root) c.args.read.request.signature [] (read_said c.args.read) no_work a)
    c.in-Err-Code.code c.refuse.result c.refuse.new.self (rw c.in-Err-Code.field-0-is at c.in-Err-Code.ensures) (rw (← c.held-held.ensures) c.refuse.ensures.gives)

pub into_parts-parts-requires : goal.into_parts-parts-requires
into_parts-parts-requires g c = (c.args.self.now.settings.sector, is_ready c.args.self.now c.args.read (open_now c.args.self.now c.args.session) c.in-Ok.contract.now c.in-Ok.ensures)

pub read_paid-requires : goal.read_paid-requires
read_paid-requires g c =
    let h = c.args.self.now in
    let sound : IsSound h.settings.sector h.settings.host_key h.state.contracts = c.tell_sound.ensures in
    let pays : c.in_ok-revision-in-Ok.revision ≡ paid_revision c.in-Ok.contract.now (read_payment c.args.read.request) c.in-Ok.contract.now.newest.size c.in-Ok.contract.now.newest.root =
    c.in_ok-revision-in-Ok.ensures ∙ ap (λ (r : ReadRequest). paid_revision c.in-Ok.contract.now (read_payment r) c.in-Ok.contract.now.newest.size c.in-Ok.contract.now.newest.root) c.request-request.ensures in
    record { stores = same_stores h (read_fault h c.args.read) c.in-Ok.contract.now (read_payment c.args.read.request) c.args.session c.in_ok-revision-in-Ok.revision sound c.in-Ok.ensures pays }

pub returns-clause-gives : goal.returns-clause-gives
returns-clause-gives g c =
    read_follows g.C.SigCheck.verdict (g.G.Signer.Makes (g.G.Signer.public_key c.args.signer.now)) c.args.self.now c.args.room.now c.args.worker c.args.session c.args.read c.in-Ok.contract.now _ _ _ c.read_paid.result c.read_paid.new.self
    c.in-Ok.ensures (c.in_ok-revision-in-Ok.ensures ∙ ap (λ (r : ReadRequest). paid_revision c.in-Ok.contract.now (read_payment r) c.in-Ok.contract.now.newest.size c.in-Ok.contract.now.newest.root) c.request-request.ensures) (c.in_ok-renter-in-Ok.ensures ∙ ap (λ (r : ReadRequest). r.signature) c.request-request.ensures) c.into_parts-parts.ensures (rw (← c.contract.view_is) c.read_paid.ensures.gives)
