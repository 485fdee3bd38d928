-- The nodes beside the new place are kept.
use Rattle.std.proofs.Common.{◌∙◌, arith}
use Rattle.sia_roottree.proofs.Changes.{beside_push}
use Rattle.sia_roottree.proofs.tree.RootTree.push.Goals as goal

pub raise-requires-clause-others : goal.raise-requires-clause-others
raise-requires-clause-others g c =
    let so = c.self.invariant in
    let hashes = c.self.inside.hashes in
    let nodes = c.self.inside.nodes in
    beside_push hashes.items nodes.items _ _ _ _ _ (c.as_slice.ensures.value ∙ c.in-Ok.ensures.items) (c.as_mut_slice.ensures.value ∙ c.in-Ok-push.ensures.items)
    (omega (arith, c.len-place.ensures, hashes.ok.0)) (omega (arith, so.0, hashes.ok.0, nodes.ok.0)) so.4
