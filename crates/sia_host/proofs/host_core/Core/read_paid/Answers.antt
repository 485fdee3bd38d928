-- A copy of the host's signature is replied, and no sector is changed.
use Rattle.std.proofs.Common.{ap}
use Rattle.sia_rhp.specs.declared.answer.Answer.TheVariants as answer
use Rattle.sia_commands.specs.declared.reply.Reply.TheVariants as reply
use Rattle.sia_host.proofs.RootsTold.{plain_fits, plain_stores, revised_plainly}
use Rattle.sia_host.proofs.host_core.Core.read_paid.Goals as goal

pub revise-requires : goal.revise-requires
revise-requires g c = record {
  fit = plain_fits c.args.self.now c.args.revision _ c.new-changes.ensures c.requires.stores;
  stores = plain_stores c.args.self.now c.args.revision c.args.renter c.in_ok-host.host _ c.new-changes.ensures c.requires.stores;
}

pub returns-clause-gives : goal.returns-clause-gives
returns-clause-gives g c =
    revised_plainly g.C.SigCheck.verdict (g.G.Signer.Makes (g.G.Signer.public_key c.args.signer.now)) c.args.self.now c.args.room.now c.args.call c.args.party.id c.args.party.renter_key c.args.revision c.args.renter c.in_ok-host.host _
    (λ host. reply.Said (answer.Read (record { signature = host; parts = c.args.parts }))) _ _ c.revise.result _ c.new-changes.ensures c.none-work.ensures
    c.in_ok-host.ensures (ap (λ s. reply.Said (answer.Read (record { signature = s; parts = c.args.parts }))) c.in_ok-signature.ensures) c.revise.ensures.gives
