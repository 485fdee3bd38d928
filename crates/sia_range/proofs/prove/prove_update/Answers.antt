use Rattle.std.proofs.Common.{map, ap, ◌∙◌}
use Rattle.sia_merkle.specs.Roots.{leaf_digest, leaves_of}
use Rattle.sia_merkle.specs.Segments.{cover, others, places_between, segment_roots}
use Rattle.sia_merkle.proofs.Cuts.{length-leaf_hashes}
use Rattle.sia_range.proofs.prove.prove_update.Goals as goal

pub returns-clause-inner : goal.returns-clause-inner
returns-clause-inner c =
    c.in_ok-inner.ensures ∙ ap (λ n. segment_roots (map leaf_digest (leaves_of c.args.bytes.now)) (cover (places_between c.args.a c.args.b) n)) (length-leaf_hashes c.args.bytes.now)

pub returns-clause-outer : goal.returns-clause-outer
returns-clause-outer c =
    c.in_ok-outer.ensures ∙ ap (λ n. segment_roots (map leaf_digest (leaves_of c.args.bytes.now)) (cover (others (places_between c.args.a c.args.b)) n)) (length-leaf_hashes c.args.bytes.now)
