-- A copy of the host's signature is replied.
use Rattle.std.proofs.Common.{ap}
use Rattle.sia_host.specs.Writing.{write_signed}
use Rattle.sia_host.proofs.RootsTold.{revised_so}
use Rattle.sia_host.proofs.host_core.Core.write_paid.Goals as goal

pub returns-clause-gives : goal.returns-clause-gives
returns-clause-gives g c =
    revised_so g.C.SigCheck.verdict (g.G.Signer.Makes (g.G.Signer.public_key c.args.signer.now)) c.args.self.now c.args.room.now c.args.call c.args.party.id c.args.party.renter_key c.args.written.revision c.args.renter c.in_ok-host.host c.args.written.changes
    write_signed _ _ c.revise.result _ c.in_ok-host.ensures (ap write_signed c.in_ok-copy.ensures) c.revise.ensures.gives

pub revise-requires-clause-stores : goal.revise-requires-clause-stores
revise-requires-clause-stores g c = c.requires.stores c.in_ok-host.host
