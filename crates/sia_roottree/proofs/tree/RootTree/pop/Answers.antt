-- What is kept of the others stays.
use Rattle.std.proofs.Common.{rules, ◌≡◌, length}
use Rattle.sia_roottree.proofs.Changes.{kept_pop}
use Rattle.sia_roottree.proofs.tree.RootTree.pop.Goals as goal

pub invariant_of-self : goal.invariant_of-self
invariant_of-self c =
    let so = c.self.invariant in
    let same : length c.pop-2.new.self.items ≡ length c.pop.new.self.items = search rules in
    (search rules, search rules, search rules, search rules, kept_pop _ _ _ _ _ _ c.pop.ensures.items c.pop-2.ensures.items same so.4)
