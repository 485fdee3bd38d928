use Rattle.std.proofs.Common.{◌≡◌, ◌-◌, ℕ, suc, [], slice_index_or, arith, subst, refl, ap}
use Rattle.sia_roottree.specs.KeptNodes.{kept_root}
use Rattle.sia_roottree.proofs.places.kept.Goals as goal

pub returns-then-level-eq0 : goal.returns-then-level-eq0
unfolding kept_root
returns-then-level-eq0 c =
    let none : 0 ≡ c.args.level = omega (arith, c.if-level-eq0.true) in
    subst (λ (l : ℕ). slice_index_or c.args.hashes.now c.args.index [] ≡ kept_root c.args.hashes.now c.args.nodes.now l c.args.index) none refl

pub returns-else-level-eq0 : goal.returns-else-level-eq0
unfolding kept_root
returns-else-level-eq0 c =
    let some : suc (c.args.level - 1) ≡ c.args.level = omega (arith, c.if-level-eq0.false) in
    subst (λ (l : ℕ). slice_index_or c.args.nodes.now c.node_place.result [] ≡ kept_root c.args.hashes.now c.args.nodes.now l c.args.index) some
    (ap (λ p. slice_index_or c.args.nodes.now p []) c.node_place.ensures.place)
