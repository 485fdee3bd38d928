use Rattle.std.proofs.Common.{◌≡◌, true, false, map, ◌∙◌, refl, sym}
use Rattle.sia_merkle.specs.Computations.Tree.{Given}
use Rattle.sia_merkle.specs.Roots.{leaf_digest, leaves_of}
use Rattle.sia_range.proofs.Judging.{of_joins, of_leaves}
use Rattle.sia_range.proofs.check.check_range.Goals as goal

pub returns-then-joins_to : goal.returns-then-joins_to
returns-then-joins_to c =
    let joins = of_joins c.args.root.now c.args.n c.args.a c.args.b (map Given (map leaf_digest (leaves_of c.args.bytes.now))) c.args.hashes.now in
    let both = of_leaves c.args.root.now c.args.n c.args.a c.args.b (leaves_of c.args.bytes.now) c.args.hashes.now in
    ((λ yes. both.0 (joins.0 (c.joins_to.ensures.0 c.if-joins_to.true))), (λ proof. refl))

pub returns-else-joins_to : goal.returns-else-joins_to
returns-else-joins_to c =
    let joins = of_joins c.args.root.now c.args.n c.args.a c.args.b (map Given (map leaf_digest (leaves_of c.args.bytes.now))) c.args.hashes.now in
    let both = of_leaves c.args.root.now c.args.n c.args.a c.args.b (leaves_of c.args.bytes.now) c.args.hashes.now in
    ((λ yes. absurd (let no : false ≡ true = yes in cc)), (λ proof. sym c.if-joins_to.false ∙ c.joins_to.ensures.1 (joins.1 (both.1 proof))))
