use Rattle.std.proofs.Common.{refl, length}
use Rattle.std.proofs.lemmas.List.{take_at}
use Rattle.sia_blake.proofs.Cuts.{absorbed_rest}
use Rattle.sia_blake.proofs.state.HashState.keep.Goals as goal

pub returns : goal.returns
returns c = λ m held.
    absorbed_rest c.args.self.now m c.args.bytes.now _ held c.requires.some c.requires.few
    (rw c.copy_from_slice.ensures.after (take_at c.args.bytes.now _ (length c.args.bytes.now) refl))
