use Rattle.std.proofs.Common.{◌≡◌, ◌/◌, ◌^◌, ℕ, length, arith, ap, ◌∙◌}
use Rattle.sia_roottree.proofs.Joining.{joined_odd, joined_even, joined_all}
use Rattle.sia_roottree.proofs.root.join_subtrees.Goals as goal
use Rattle.sia_roottree.proofs.root.join_subtrees.Goals.{then-count-eq1, else-count-eq1}

pub loop-level-preserved : goal.loop-level-preserved
loop-level-preserved g c =
    let so = c.loop-level.invariant in
    let hashes = c.args.hashes.now in
    let level : ℕ = c.loop-level.level in
    let count : ℕ = length hashes / c.power.result in
    let is : count ≡ length hashes / 2 ^ level = ap (λ (w : ℕ). length hashes / w) c.power.ensures in
    record {
      joined = elim c.if-count-eq1.branch [
        | then-count-eq1 w ↦
            rw (w.root-is, w.over.ensures.root)
            (joined_odd c.loop-level.root hashes c.args.nodes.now w.kept-subtree.result level count c.requires.kept (omega arith) is w.if-count-eq1.true w.kept-subtree.ensures so.joined)
        | else-count-eq1 w ↦ rw w.root-is (joined_even c.loop-level.root hashes level count is (omega (arith, w.if-count-eq1.false)) so.joined)
      ];
      steps = elim c.if-count-eq1.branch [
        | then-count-eq1 w ↦ rw w.steps-is (omega (arith, so.steps, w.over.ensures.steps))
        | else-count-eq1 w ↦ rw w.steps-is (omega (arith, so.steps))
      ];
    }

pub returns-clause-root : goal.returns-clause-root
returns-clause-root g c = c.unwrap_or.ensures ∙ joined_all c.loop-level.root c.args.hashes.now c.loop-level.level c.requires.few (omega arith) c.loop-level.invariant.joined
