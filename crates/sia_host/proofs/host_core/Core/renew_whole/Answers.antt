-- A copy of the host's signatures stands in the whole transaction, and with it the host stays sound.
use Rattle.std.proofs.Common.{sym}
use Rattle.sia_host.proofs.Renewals.{whole_sound}
use Rattle.sia_host.proofs.RenewalsSigned.{renews}
use Rattle.sia_host.proofs.host_core.Core.renew_whole.Goals as goal

pub renew_kept-requires-clause-sound : goal.renew_kept-requires-clause-sound
renew_kept-requires-clause-sound g c =
    whole_sound c.args.self.now.settings.sector c.args.self.now.settings.host_key c.args.self.now.state.contracts c.args.tx c.args.added c.args.renter c.in_ok-host.host c.in_ok-whole.whole c.in_ok-whole.ensures (c.requires.sound c.args.renter c.in_ok-host.host)

pub returns-clause-gives : goal.returns-clause-gives
returns-clause-gives g c =
    renews g.C.SigCheck.verdict (g.G.Signer.Makes (g.G.Signer.public_key c.args.signer.now)) c.args.self.now c.args.room.now c.args.call c.args.tx c.args.renter c.args.added c.in-Some.held
    c.in_ok-unsigned.unsigned c.in_ok-whole.whole c.in_ok-host.host c.in_ok-signatures.signatures c.renew_kept.result c.renew_kept.new.self
    (sym c.in-Some.ensures) c.in_ok-unsigned.ensures.whole c.in_ok-host.ensures c.in_ok-whole.ensures c.in_ok-signatures.ensures c.renew_kept.ensures.gives
