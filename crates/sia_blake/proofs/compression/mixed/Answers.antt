use Rattle.std.proofs.Common.{refl}
use Rattle.sia_blake.specs.Blake2b.{mixed}
use Rattle.sia_blake.proofs.compression.mixed.Goals as goal

pub returns : goal.returns
unfolding mixed
returns c =
    rw (
      c.xor_rotate-b2.ensures,
      c.add-c2.ensures,
      c.xor_rotate-d2.ensures,
      c.add-a2.ensures,
      c.add-2.ensures,
      c.xor_rotate-b1.ensures,
      c.add-c1.ensures,
      c.xor_rotate-d1.ensures,
      c.add-a1.ensures,
      c.add.ensures,
    ) refl
