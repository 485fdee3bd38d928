use Rattle.std.proofs.Common.{◌≤◌, ◌^◌, length, take, drop, arith, ap, ◌∙◌, length-take}
use Rattle.sia_merkle.specs.Roots.{node_root_of}
use Rattle.sia_merkle.proofs.Trees.{node_root_of-at}
use Rattle.sia_cover.proofs.row.PlainNodesRow.root_from.Goals as goal

pub returns : goal.returns
returns c =
    let fits : length (take (2 ^ c.args.height) (drop c.args.place c.args.self.now.hashes.now)) ≤ 2 ^ c.args.height = omega (arith, length-take (2 ^ c.args.height) (drop c.args.place c.args.self.now.hashes.now)) in
    c.node_root.ensures ∙ ap node_root_of c.part_from.ensures ∙ node_root_of-at c.args.height (take (2 ^ c.args.height) (drop c.args.place c.args.self.now.hashes.now)) fits
