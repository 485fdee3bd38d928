-- One input more is signed.
use Rattle.std.proofs.Common.{◌<◌, ◌∙◌, length, arith}
use Rattle.sia_kept.proofs.Signed.{signed_next}
use Rattle.sia_kept.proofs.signing.sign_inputs.Goals as goal

pub loop-input-preserved : goal.loop-input-preserved
loop-input-preserved g c =
    let within : c.loop-input.input-index < length c.args.inputs.now = omega arith in record {
      signed = signed_next (g.G.Signer.Makes (g.G.Signer.public_key c.args.signer.now)) _ _ _ _ _ _ _ _ within c.input-item.is c.loop-input.invariant.same c.loop-input.invariant.signed c.in_ok-signature.ensures.signed c.in_ok-push.ensures.ok;
      same = c.in_ok-signature.ensures.same ∙ c.loop-input.invariant.same;
    }
