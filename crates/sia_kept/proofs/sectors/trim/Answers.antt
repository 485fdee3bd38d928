-- The roots from the end are gone.
use Rattle.std.proofs.Common.{◌≡◌, ◌∙◌, ◌-◌, ap, sym, rules, take, length}
use Rattle.sia_kept.proofs.Changed.{roots, trimmed}
use Rattle.sia_kept.proofs.sectors.trim.Goals as goal

pub returns-clause-tree : goal.returns-clause-tree
returns-clause-tree c =
    let items : c.truncate.new.self.items ≡ take (length c.args.stored.now.items - c.args.fewer) c.args.stored.now.items = search rules in
    c.trim_tree.ensures.hashes ∙ ap (λ hashes. take (length hashes - c.args.fewer) hashes) c.requires.tree ∙ trimmed c.args.stored.now.items c.args.fewer ∙ ap roots (sym items)
