use Rattle.std.proofs.Common.{◌+◌, ◌*◌, ◌/◌, ◌<◌, ◌≤◌, ℕ, length, arith, subst, ap}
use Rattle.sia_roottree.proofs.Raising.{raised, raised_all, stops}
use Rattle.sia_roottree.proofs.raise.raise.Goals as goal

pub returns-then-index-width-clause-kept : goal.returns-then-index-width-clause-kept
returns-then-index-width-clause-kept g c =
    stops _ _ c.args.place c.loop-below.below c.loop-below.invariant.same c.loop-below.invariant.kept
    (subst (λ (w : ℕ). length c.args.hashes.now < (c.args.place / w + 1) * w) c.power-width.ensures c.if-index-width.true)

pub loop-below-preserved : goal.loop-below-preserved
loop-below-preserved g c =
    let so = c.loop-below.invariant in
    let index : ℕ = c.args.place / c.power-width.result in
    record {
      same = omega (arith, so.same, c.make_node.auto.nodes);
      kept = raised c.args.hashes.now c.loop-below.nodes c.make_node.new.nodes c.args.place c.loop-below.below index so.same so.kept
          (ap (λ (w : ℕ). c.args.place / w) c.power-width.ensures)
          (subst (λ (w : ℕ). (c.args.place / c.power-width.result + 1) * w ≤ length c.args.hashes.now) c.power-width.ensures c.if-index-width.false)
          c.make_node.ensures.node;
      steps = omega (arith, so.steps, c.make_node.ensures.step);
    }

pub returns-clause-kept : goal.returns-clause-kept
returns-clause-kept g c = raised_all _ _ c.args.place c.loop-below.below c.requires.few (omega arith) c.loop-below.invariant.kept
