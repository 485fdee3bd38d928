-- What follows from what the host adds.
use Rattle.sia_host.proofs.RenewalsSigned.{renew_follows}
use Rattle.sia_host.proofs.host_core.Core.renew_sign.Goals as goal

pub returns-clause-gives : goal.returns-clause-gives
returns-clause-gives g c =
    renew_follows g.C.SigCheck.verdict (g.G.Signer.Makes (g.G.Signer.public_key c.args.signer.now)) c.args.self.now c.args.room.now c.args.worker c.args.session c.args.tx c.args.renter c.in-Ok.added c.renew_whole.result c.renew_whole.new.self
    c.in-Ok.ensures.proposes c.renew_whole.ensures.gives
