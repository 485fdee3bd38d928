-- A copy of the host's signatures stands in the whole transaction.
use Rattle.sia_host.proofs.Formed.{forms}
use Rattle.sia_host.proofs.Sound.{whole_contracts, whole_new}
use Rattle.sia_host.proofs.host_core.Core.form_whole.Goals as goal

pub returns-clause-gives : goal.returns-clause-gives
returns-clause-gives g c =
    forms g.C.SigCheck.verdict (g.G.Signer.Makes (g.G.Signer.public_key c.args.signer.now)) c.args.self.now c.args.room.now c.args.call c.args.request c.args.renter c.args.added _ _ _ _ _ _ _ c.in_ok-unsigned.ensures.whole c.as_slice.ensures c.in_ok-host.ensures c.in_ok-whole.ensures c.in_ok-signatures.ensures.signed c.form_kept.ensures.gives

pub form_kept-requires : goal.form_kept-requires
form_kept-requires g c = record {
  new = whole_new c.args.self.now c.args.request.transaction c.args.added c.args.renter _ _ c.requires.new c.in_ok-whole.ensures;
  stored = c.requires.stored _ (whole_contracts c.args.request.transaction c.args.added c.args.renter _ _ c.in_ok-whole.ensures);
}
