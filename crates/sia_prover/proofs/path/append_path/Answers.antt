use Rattle.std.proofs.Common.{◌≡◌, ◌-◌, ◌*◌, ◌^◌, ◌≤◌, ◌++◌, length, drop, ap, ap₂, sym, ◌∙◌, arith, refl}
use Rattle.std.proofs.lemmas.List.{take_all}
use Rattle.std.proofs.lemmas.Result.{on_ok_weaker}
use Rattle.sia_merkle.specs.Paths.{hashes_beside}
use Rattle.sia_merkle.proofs.Beside.{leaf_proof-at}
use Rattle.sia_prover.proofs.path.append_path.Goals as goal

pub returns : goal.returns
returns g c =
    let fits : length (g.N.Nodes.hashes c.args.nodes.now) ≤ 2 ^ 64 = omega (arith, c.count-count.ensures) in
    let start : 0 ≡ 0 * 2 ^ 64 = refl in
    let from : c.args.place - 0 ≡ c.args.place = omega arith in
    on_ok_weaker c.append_beside.result (λ done. done ∙ ap (λ more. c.args.hashes.now ++ more)
    (ap₂ (hashes_beside 64) (take_all (2 ^ 64) (g.N.Nodes.hashes c.args.nodes.now) fits) from ∙ sym (leaf_proof-at 64 (g.N.Nodes.hashes c.args.nodes.now) c.args.place fits)))
    (c.append_beside.ensures 0 start)
