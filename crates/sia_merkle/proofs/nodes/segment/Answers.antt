use Rattle.std.proofs.Common.{◌^◌, ◌<◌, length, arith}
use Rattle.sia_merkle.proofs.Trees.{low_level}
use Rattle.sia_merkle.proofs.nodes.segment.Goals as goal

pub power-width-requires : goal.power-width-requires
power-width-requires c =
    let short : length c.args.hashes.now < 2 ^ 64 = omega arith in
    low_level c.args.level c.args.index (length c.args.hashes.now) c.requires short
