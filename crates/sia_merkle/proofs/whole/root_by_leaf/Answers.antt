use Rattle.std.proofs.Common.{◌∷◌, [], ◌++◌, length, ap, ◌∙◌, sym, arith}
use Rattle.sia_merkle.specs.Roots.{leaf_at, leaf_digest, node_root_of}
use Rattle.sia_merkle.proofs.Cuts.{pushed_leaf, length-hashes, all_leaves}
use Rattle.sia_merkle.proofs.whole.root_by_leaf.Goals as goal

pub push_leaf-requires : goal.push_leaf-requires
push_leaf-requires c = omega (arith, ap length c.loop-place.invariant ∙ length-hashes c.args.bytes.now c.loop-place.place)

pub loop-place-preserved : goal.loop-place-preserved
loop-place-preserved c =
    c.push_leaf.ensures ∙ ap (λ l. c.loop-place.stack ++ leaf_digest l ∷ []) c.part_of.ensures ∙ ap (λ s. s ++ leaf_digest (leaf_at c.args.bytes.now c.loop-place.place) ∷ []) c.loop-place.invariant
    ∙ sym (pushed_leaf c.args.bytes.now c.loop-place.place)

pub returns : goal.returns
returns c = c.root.ensures ∙ ap node_root_of (c.loop-place.invariant ∙ all_leaves c.args.bytes.now c.loop-place.place (omega arith))
