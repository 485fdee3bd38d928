use Rattle.std.proofs.Common.{refl}
use Rattle.sia_blake.specs.Blake2b.{mixed}
use Rattle.sia_blake.proofs.four.mixed.Goals as goal

pub returns : goal.returns
unfolding mixed
returns c j below =
    rw (
      c.xor_rotate-b2.ensures j below,
      c.add-c2.ensures j below,
      c.xor_rotate-d2.ensures j below,
      c.add-a2.ensures j below,
      c.add-2.ensures j below,
      c.xor_rotate-b1.ensures j below,
      c.add-c1.ensures j below,
      c.xor_rotate-d1.ensures j below,
      c.add-a1.ensures j below,
      c.add.ensures j below,
    ) refl
