use Rattle.std.proofs.Common.{◌++◌, ◌≤◌, ◌^◌, length, map, arith, ap, sym, ◌∙◌}
use Rattle.sia_merkle.specs.Paths.{hashes_beside}
use Rattle.sia_merkle.specs.Roots.{leaf_digest, leaves_of}
use Rattle.sia_merkle.proofs.Beside.{leaf_proof-at}
use Rattle.sia_merkle.proofs.Cuts.{length-leaf_hashes}
use Rattle.sia_merkle.proofs.leaf_proof.prove_leaf.Goals as goal

pub returns : goal.returns
returns c =
    let fits : length (map leaf_digest (leaves_of c.args.bytes.now)) ≤ 2 ^ 64 = omega (arith, length-leaf_hashes c.args.bytes.now) in
    c.in_ok-append_beside.ensures ∙ ap (λ out. out ++ hashes_beside 64 (map leaf_digest (leaves_of c.args.bytes.now)) c.args.place) c.new-hashes.ensures ∙ sym (leaf_proof-at 64 (map leaf_digest (leaves_of c.args.bytes.now)) c.args.place fits)
