use Rattle.std.proofs.Common.{◌∷◌, ◌∙◌, ap, arith}
use Rattle.sia_blake.specs.Blake2b.{blake2b_256}
use Rattle.sia_merkle.specs.Roots.{node_digest}
use Rattle.sia_merkle.proofs.Fours.{four_pairs}
use Rattle.sia_merkle.proofs.groups.four_nodes.Goals as goal

pub returns : goal.returns
unfolding node_digest
returns c =
    four_pairs c.args.left.now c.args.right.now c.digest_four.result c.requires.left c.requires.right (omega arith)
    (λ j below. c.digest_four.ensures j below ∙ ap (λ text. blake2b_256 (1 ∷ text)) (c.text_of_nodes.ensures j below))
