use Rattle.std.proofs.Common.{map, arith, subst}
use Rattle.std.specs.Prelude.{IfOk, ◌≡◌}
use Rattle.sia_merkle.specs.Roots.{leaf_digest, leaves_of}
use Rattle.sia_merkle.specs.Segments.{cover, others, places_between, segment_roots}
use Rattle.sia_merkle.proofs.Cuts.{length-leaf_hashes}
use Rattle.sia_range.proofs.prove.prove_range.Goals as goal

pub prove_nodes-requires-clause-within : goal.prove_nodes-requires-clause-within
prove_nodes-requires-clause-within c = omega (arith, c.requires.within, length-leaf_hashes c.args.bytes.now)

pub returns : goal.returns
returns c =
    subst (λ n. IfOk c.prove_nodes.result (λ hashes. hashes ≡ segment_roots (map leaf_digest (leaves_of c.args.bytes.now)) (cover (others (places_between c.args.a c.args.b)) n)))
    (length-leaf_hashes c.args.bytes.now) c.prove_nodes.ensures
