use Rattle.std.proofs.Common.{◌≡◌, ◌+◌, ◌*◌, ◌^◌, ◌≤◌, length, arith}
use Rattle.sia_merkle.proofs.Trees.{low_level}
use Rattle.sia_cover.proofs.row.part_from.Goals as goal

pub power-width-requires : goal.power-width-requires
power-width-requires c =
    let one : (0 + 1) * 2 ^ c.args.height ≡ 2 ^ c.args.height = omega arith in
    let within : (0 + 1) * 2 ^ c.args.height ≤ length c.args.hashes.now = omega (arith, c.requires) in
    low_level c.args.height 0 (length c.args.hashes.now) within (omega arith)
