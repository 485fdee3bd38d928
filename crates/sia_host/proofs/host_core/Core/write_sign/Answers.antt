-- The write was judged, so that what it comes to follows, or the refusal.
use Rattle.std.proofs.Common.{◌≡◌, ◌∙◌, subst, ap, arith}
use Rattle.sia_commands.specs.declared.call.Call.{Call}
use Rattle.sia_commands.specs.declared.event.Kind.TheVariants as kind
use Rattle.sia_kept.specs.State.{IsSound}
use Rattle.sia_host.specs.Answered.{Host}
use Rattle.sia_host.specs.Paying.{IsRevised, open_now}
use Rattle.sia_host.specs.Writing.{write_fault, write_signed, write_work, written_changes, written_revision}
use Rattle.sia_host.proofs.Held.{refuses_so}
use Rattle.sia_host.proofs.Sectioned.{sector_bound}
use Rattle.sia_host.proofs.Writable.{can_be_done, fits_sectors, is_ready}
use Rattle.sia_host.proofs.Written.{has_slots, may_change, may_store, write_follows}
use Rattle.sia_host.proofs.host_core.Core.write_sign.Goals as goal

pub returns-in-Err-Code-clause-gives : goal.returns-in-Err-Code-clause-gives
returns-in-Err-Code-clause-gives g c =
    let call : Call = record { worker = c.args.worker; session = c.args.session; kind = kind.WriteSign } in
    let h = c.args.self.now in
    refuses_so h call (open_now h c.args.session) (write_fault h c.args.room.now c.args.write)
    (λ k a. IsRevised g.C.SigCheck.verdict (g.G.Signer.Makes (g.G.Signer.public_key c.args.signer.now)) h c.args.room.now call k.id k.renter_key (written_revision h c.args.write k) c.args.renter (written_changes c.args.room.now c.args.write) write_signed (write_work c.args.room.now c.args.write k) a)
    c.in-Err-Code.code c.refuse.result c.refuse.new.self (rw c.in-Err-Code.field-0-is at c.in-Err-Code.ensures) (rw (← c.held-held.ensures) (rw c.in-Err-Code.field-0-is at c.refuse.ensures.gives))

pub make_written-requires : goal.make_written-requires
make_written-requires g c =
    let h = c.args.self.now in
    let can = can_be_done h c.args.room.now c.args.write (open_now h c.args.session) c.in-Ok.contract.now c.in-Ok.ensures in
    record {
      prepared = (h.settings.sector, is_ready h c.args.write c.in-Ok.contract.now can);
      fit = fits_sectors h c.args.write c.in-Ok.contract.now can;
      small = omega (arith, sector_bound c.self.inside.settings.sector c.self.invariant.0.size);
      free = has_slots h c.args.room.now c.args.write (open_now h c.args.session) c.in-Ok.contract.now c.in-Ok.ensures;
    }

pub write_paid-requires : goal.write_paid-requires
write_paid-requires g c =
    let h = c.args.self.now in
    let sound : IsSound h.settings.sector h.settings.host_key h.state.contracts = subst (λ (x : Host). IsSound x.settings.sector x.settings.host_key x.state.contracts) c.self.view_is c.self.invariant.0 in
    let pays : c.in_ok-written-in-Ok.written.revision ≡ written_revision h c.args.write c.in-Ok.contract.now =
    c.in_ok-written-in-Ok.ensures.revision ∙ ap (λ (x : Host). written_revision x c.args.write c.in-Ok.contract.now) c.self.view_is in
    record {
      fit = may_change h c.args.room.now c.args.session c.args.write c.in-Ok.contract.now c.in_ok-written-in-Ok.written.revision c.in_ok-written-in-Ok.written.changes sound c.in-Ok.ensures pays c.in_ok-written-in-Ok.ensures.changes;
      stores = (λ host. may_store h c.args.room.now c.args.session c.args.write c.in-Ok.contract.now c.in_ok-written-in-Ok.written.revision c.in_ok-written-in-Ok.written.changes c.args.renter host sound c.in-Ok.ensures pays c.in_ok-written-in-Ok.ensures.changes);
    }

pub returns-clause-gives : goal.returns-clause-gives
returns-clause-gives g c =
    write_follows g.C.SigCheck.verdict (g.G.Signer.Makes (g.G.Signer.public_key c.args.signer.now)) c.args.self.now c.args.room.now c.args.worker c.args.session c.args.write c.args.renter c.in-Ok.contract.now _ _ _ _ c.write_paid.result c.write_paid.new.self
    c.in-Ok.ensures (c.in_ok-written-in-Ok.ensures.revision ∙ ap (λ (x : Host). written_revision x c.args.write c.in-Ok.contract.now) c.self.view_is) c.in_ok-written-in-Ok.ensures.changes c.in_ok-written-in-Ok.ensures.puts c.in_ok-written-in-Ok.ensures.freed (rw (← c.contract.view_is) c.write_paid.ensures.gives)
