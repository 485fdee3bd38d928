-- The nodes beside the place are kept.
use Rattle.std.proofs.Common.{List, ℕ, sym, subst}
use Rattle.sia_roottree.specs.KeptNodes.{AreKeptBeside}
use Rattle.sia_roottree.proofs.Changes.{beside_set}
use Rattle.sia_roottree.proofs.tree.RootTree.set.Goals as goal

pub raise-requires-clause-others : goal.raise-requires-clause-others
raise-requires-clause-others g c =
    subst (λ (h : List (List ℕ)). AreKeptBeside c.args.place 0 h c.as_mut_slice.result.now) (sym c.as_slice.ensures.value)
    (subst (AreKeptBeside c.args.place 0 _) (sym c.as_mut_slice.ensures.value) (beside_set c.self.inside.hashes.items c.self.inside.nodes.items c.args.place c.args.hash c.self.invariant.4))
