use Rattle.std.proofs.Common.{refl}
use Rattle.sia_blake.specs.Blake2b.{folded}
use Rattle.sia_blake.proofs.four.folded.Goals as goal

pub returns : goal.returns
unfolding folded
returns c j below =
    rw (
      c.fold.ensures j below,
      c.fold-2.ensures j below,
      c.fold-3.ensures j below,
      c.fold-4.ensures j below,
      c.fold-5.ensures j below,
      c.fold-6.ensures j below,
      c.fold-7.ensures j below,
      c.fold-8.ensures j below,
    ) refl
