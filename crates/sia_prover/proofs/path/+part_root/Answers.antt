use Rattle.std.proofs.Common.{◌≡◌, ◌+◌, ◌-◌, ◌*◌, ◌^◌, ◌<◌, suc, length, ap, ◌∙◌, arith}
use Rattle.sia_merkle.proofs.Windows.{first_half, second_half}
use Rattle.sia_prover.proofs.Ways.{above_one, root_both, root_first, root_whole}
use Rattle.sia_prover.proofs.path.+part_root.Goals as goal

pub returns-then-width-rest : goal.returns-then-width-rest
returns-then-width-rest g t c = λ index aligned.
    root_whole c.args.height c.args.low index c.power-width.result (g.N.Nodes.hashes c.args.nodes.now) c.node.result aligned c.power-width.ensures c.node.ensures

pub returns-then-rest-half : goal.returns-then-rest-half
returns-then-rest-half g t c = λ index aligned.
    let is : c.args.height ≡ suc (c.args.height - 1) = above_one c.args.height (omega (arith, c.power-width.ensures, c.count.ensures)) in
    root_first c.args.height (c.args.height - 1) c.args.low (g.N.Nodes.hashes c.args.nodes.now) c.part_root.result is (omega (arith, c.power-half.ensures, c.count.ensures))
    (c.part_root.ensures (index * 2) (first_half c.args.low c.args.height (c.args.height - 1) index is aligned))

pub returns : goal.returns
returns g t c = λ index aligned.
    let is : c.args.height ≡ suc (c.args.height - 1) = above_one c.args.height (omega (arith, c.power-width.ensures, c.count.ensures)) in
    let first : c.args.low ≡ index * 2 * 2 ^ (c.args.height - 1) = first_half c.args.low c.args.height (c.args.height - 1) index is aligned in
    let there : c.args.low + c.power-half.result ≡ c.args.low + 2 ^ (c.args.height - 1) = omega (arith, c.power-half.ensures) in
    root_both c.args.height (c.args.height - 1) c.args.low (c.args.low + c.power-half.result) (g.N.Nodes.hashes c.args.nodes.now) c.node-left.result c.part_root-right.result c.node-2.result is
    (omega (arith, c.power-half.ensures, c.count.ensures)) there
    (root_whole (c.args.height - 1) c.args.low (index * 2) c.power-half.result (g.N.Nodes.hashes c.args.nodes.now) c.node-left.result first c.power-half.ensures c.node-left.ensures)
    (c.part_root-right.ensures (index * 2 + 1) (second_half c.args.low c.args.height (c.args.height - 1) index (c.args.low + c.power-half.result) is aligned there))
    c.node-2.ensures
