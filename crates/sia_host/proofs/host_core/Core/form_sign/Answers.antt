-- What follows from what the host adds.
use Rattle.sia_host.proofs.Formed.{form_follows}
use Rattle.sia_host.specs.Forming.{form_judged}
use Rattle.sia_host.proofs.Sound.{added_new, formed_stored}
use Rattle.sia_host.proofs.host_core.Core.form_sign.Goals as goal

pub returns-clause-gives : goal.returns-clause-gives
returns-clause-gives g c =
    form_follows g.C.SigCheck.verdict (g.G.Signer.Makes (g.G.Signer.public_key c.args.signer.now)) c.args.self.now c.args.room.now c.args.worker c.args.session c.args.request c.args.renter c.in-Ok.added _ _ c.in-Ok.ensures c.form_whole.ensures.gives

pub form_whole-requires : goal.form_whole-requires
form_whole-requires g c = record {
  new = added_new c.args.self.now c.args.request.transaction (form_judged c.args.self.now c.args.session c.args.request) c.in-Ok.added c.in-Ok.ensures;
  stored = (λ whole same. formed_stored c.args.self.now c.args.session c.args.request c.in-Ok.added whole c.in-Ok.ensures same);
}
