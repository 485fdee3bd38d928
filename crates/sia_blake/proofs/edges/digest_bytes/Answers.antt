use Rattle.std.proofs.Common.{refl}
use Rattle.sia_blake.specs.Blake2b.{digest_bytes}
use Rattle.sia_blake.proofs.edges.digest_bytes.Goals as goal

pub returns : goal.returns
unfolding digest_bytes
returns c =
    rw (
      c.copy_from_slice.ensures.after,
      c.copy_from_slice-2.ensures.after,
      c.copy_from_slice-3.ensures.after,
      c.copy_from_slice-4.ensures.after,
      c.to_le_bytes.ensures,
      c.to_le_bytes-2.ensures,
      c.to_le_bytes-3.ensures,
      c.to_le_bytes-4.ensures,
    ) refl
