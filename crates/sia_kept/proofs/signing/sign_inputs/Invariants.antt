use Rattle.std.proofs.Common.{◌≡◌, take}
use Rattle.sia_kept.specs.Signing.{AreSignedInputs}
use Rattle.sia_kept.proofs.signing.sign_inputs.Given as goal

abbrev pub invariant-loop-input : goal.invariant-loop-input
invariant-loop-input g l = record {
  signed : AreSignedInputs (g.G.Signer.Makes (g.G.Signer.public_key l.signer)) l.fn.tx (take l.input-index l.inputs) l.signatures;
  same : l.tx ≡ l.fn.tx;
}
