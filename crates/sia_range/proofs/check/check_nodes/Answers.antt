use Rattle.std.proofs.Common.{◌≡◌, true, false, map, ◌∙◌, refl, sym}
use Rattle.sia_merkle.specs.Computations.Tree.{Given}
use Rattle.sia_range.proofs.Judging.{of_joins}
use Rattle.sia_range.proofs.check.check_nodes.Goals as goal

pub returns-then-joins_to : goal.returns-then-joins_to
returns-then-joins_to c =
    let joins = of_joins c.args.root.now c.args.n c.args.a c.args.b (map Given c.args.roots.now) c.args.hashes.now in
    ((λ yes. joins.0 (c.joins_to.ensures.0 c.if-joins_to.true)), (λ proof. refl))

pub returns-else-joins_to : goal.returns-else-joins_to
returns-else-joins_to c =
    let joins = of_joins c.args.root.now c.args.n c.args.a c.args.b (map Given c.args.roots.now) c.args.hashes.now in
    ((λ yes. absurd (let no : false ≡ true = yes in cc)), (λ proof. sym c.if-joins_to.false ∙ c.joins_to.ensures.1 (joins.1 proof)))
