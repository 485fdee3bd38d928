use Rattle.std.proofs.Common.{◌≡◌, ◌+◌, ◌-◌, ◌*◌, ◌^◌, ◌<◌, ◌≤◌, ◌++◌, suc, length, ap, sym, ◌∙◌, arith}
use Rattle.std.proofs.lemmas.Result.{on_ok_weaker}
use Rattle.sia_merkle.proofs.Beside.{beside_none}
use Rattle.sia_merkle.proofs.Windows.{first_half, second_half}
use Rattle.sia_prover.proofs.Ways.{more_left, more_right, root_whole, way_low, window}
use Rattle.sia_prover.proofs.path.+append_beside.Goals as goal

pub returns-then-height-eq0 : goal.returns-then-height-eq0
returns-then-height-eq0 g t c = λ index aligned.
    beside_none c.args.hashes.now (window c.args.height c.args.low (g.N.Nodes.hashes c.args.nodes.now)) c.args.height (c.args.place - c.args.low) c.if-height-eq0.true

pub returns-then-count-low : goal.returns-then-count-low
returns-then-count-low g t c = λ index aligned.
    let is : c.args.height ≡ suc (c.args.height - 1) = omega (arith, c.if-height-eq0.false) in
    on_ok_weaker c.append_beside.result (λ done. done ∙ ap (λ more. c.args.hashes.now ++ more)
    (way_low c.args.height (c.args.height - 1) c.args.low (c.args.place - c.args.low) (g.N.Nodes.hashes c.args.nodes.now) is (omega (arith, c.power-half.ensures, c.count.ensures))))
    (c.append_beside.ensures (index * 2) (first_half c.args.low c.args.height (c.args.height - 1) index is aligned))

pub returns-in_ok-push : goal.returns-in_ok-push
returns-in_ok-push g t c = λ index aligned.
    let is : c.args.height ≡ suc (c.args.height - 1) = omega (arith, c.if-height-eq0.false) in
    let there : c.args.low + c.power-half.result ≡ c.args.low + 2 ^ (c.args.height - 1) = omega (arith, c.power-half.ensures) in
    more_left c.args.height (c.args.height - 1) c.args.low (c.args.low + c.power-half.result) (c.args.place - c.args.low) (g.N.Nodes.hashes c.args.nodes.now) c.args.hashes.now
    c.append_beside-then-place-low.new.hashes c.push.new.self c.part_root.result is (omega (arith, c.power-half.ensures, c.count.ensures)) there (omega (arith, c.power-half.ensures))
    (c.in_ok-append_beside.ensures (index * 2) (first_half c.args.low c.args.height (c.args.height - 1) index is aligned))
    (c.part_root.ensures (index * 2 + 1) (second_half c.args.low c.args.height (c.args.height - 1) index (c.args.low + c.power-half.result) is aligned there))
    c.in_ok-push.ensures.ok

pub returns-in_ok-push-2 : goal.returns-in_ok-push-2
returns-in_ok-push-2 g t c = λ index aligned.
    let is : c.args.height ≡ suc (c.args.height - 1) = omega (arith, c.if-height-eq0.false) in
    let first : c.args.low ≡ index * 2 * 2 ^ (c.args.height - 1) = first_half c.args.low c.args.height (c.args.height - 1) index is aligned in
    let there : c.args.low + c.power-half.result ≡ c.args.low + 2 ^ (c.args.height - 1) = omega (arith, c.power-half.ensures) in
    let behind : c.args.place - (c.args.low + c.power-half.result) ≡ c.args.place - c.args.low - 2 ^ (c.args.height - 1) = omega (arith, c.power-half.ensures) in
    more_right c.args.height (c.args.height - 1) c.args.low (c.args.low + c.power-half.result) (c.args.place - c.args.low) (c.args.place - (c.args.low + c.power-half.result))
    (g.N.Nodes.hashes c.args.nodes.now) c.args.hashes.now c.append_beside-else-place-low.new.hashes c.push-else-place-low.new.self c.node.result is
    (omega (arith, c.power-half.ensures, c.count.ensures)) there (omega (arith, c.power-half.ensures)) behind
    (c.in_ok-append_beside-2.ensures (index * 2 + 1) (second_half c.args.low c.args.height (c.args.height - 1) index (c.args.low + c.power-half.result) is aligned there))
    (root_whole (c.args.height - 1) c.args.low (index * 2) c.power-half.result (g.N.Nodes.hashes c.args.nodes.now) c.node.result first c.power-half.ensures c.node.ensures)
    c.in_ok-push-2.ensures.ok
