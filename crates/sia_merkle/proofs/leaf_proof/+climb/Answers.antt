use Rattle.std.proofs.Common.{◌≡◌, suc, ◌-◌, length, arith, ap, ◌∙◌, sym}
use Rattle.std.specs.Prelude.{option_map}
use Rattle.std.proofs.lemmas.Bool.{eqb-true, eqb-false}
use Rattle.sia_merkle.specs.Paths.{joined_upwards, sides}
use Rattle.sia_merkle.specs.Roots.{node_digest}
use Rattle.sia_merkle.proofs.Climbs.{climb_end, climb_over, climb_low, climb_short, climb_left, climb_right}
use Rattle.sia_merkle.proofs.leaf_proof.+climb.Goals as goal

pub returns-then-is_empty : goal.returns-then-is_empty
returns-then-is_empty t c = climb_end c.args.below.now c.args.height c.args.count c.args.place c.args.hashes.now c.if-height-eq0.true (eqb-true (length c.args.hashes.now) 0 (sym c.is_empty.ensures ∙ c.if-is_empty.true))

pub returns-else-is_empty : goal.returns-else-is_empty
returns-else-is_empty t c = climb_over c.args.below.now c.args.height c.args.count c.args.place c.args.hashes.now c.if-height-eq0.true (eqb-false (length c.args.hashes.now) 0 (sym c.is_empty.ensures ∙ c.if-is_empty.false))

pub returns-then-count-half : goal.returns-then-count-half
returns-then-count-half t c =
    let is : c.args.height ≡ suc (c.args.height - 1) = omega (arith, c.if-height-eq0.false) in
    c.climb.ensures ∙ climb_low c.args.below.now c.args.height (c.args.height - 1) c.args.count c.args.place c.args.hashes.now is (omega (arith, c.power-half.ensures))

pub returns-in_default : goal.returns-in_default
returns-in_default t c =
    let is : c.args.height ≡ suc (c.args.height - 1) = omega (arith, c.if-height-eq0.false) in
    climb_short c.args.below.now c.args.height (c.args.height - 1) c.args.count c.args.place c.args.hashes.now is (omega (arith, c.power-half.ensures)) (c.in_default.ensures.cases)

pub returns-then-place-half : goal.returns-then-place-half
returns-then-place-half t c =
    let is : c.args.height ≡ suc (c.args.height - 1) = omega (arith, c.if-height-eq0.false) in
    c.left_of.ensures ∙ ap (option_map (λ left. node_digest left c.in-Some.beside.now)) (c.climb-then-place-half.ensures ∙ ap (λ half. joined_upwards c.args.below.now (sides (c.args.height - 1) half c.args.place) c.in-Some.inner.now) c.power-half.ensures)
    ∙ climb_left c.args.below.now c.args.height (c.args.height - 1) c.args.count c.args.place c.args.hashes.now c.in-Some.inner.now c.in-Some.beside.now is (omega (arith, c.power-half.ensures)) (omega (arith, c.power-half.ensures)) (c.in-Some.ensures.cases.0)

pub returns-else-place-half : goal.returns-else-place-half
returns-else-place-half t c =
    let is : c.args.height ≡ suc (c.args.height - 1) = omega (arith, c.if-height-eq0.false) in
    c.right_of.ensures ∙ ap (option_map (λ right. node_digest c.in-Some.beside.now right)) (c.climb-else-place-half.ensures ∙ ap (λ half. joined_upwards c.args.below.now (sides (c.args.height - 1) (c.args.count - half) (c.args.place - half)) c.in-Some.inner.now) c.power-half.ensures)
    ∙ climb_right c.args.below.now c.args.height (c.args.height - 1) c.args.count c.args.place c.args.hashes.now c.in-Some.inner.now c.in-Some.beside.now is (omega (arith, c.power-half.ensures)) (omega (arith, c.power-half.ensures)) (c.in-Some.ensures.cases.0)
