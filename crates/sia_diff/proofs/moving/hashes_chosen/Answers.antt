use Rattle.std.proofs.Common.{◌≡◌, ◌∙◌, ◌++◌, ◌∷◌, [], ap, sym, length, get_or, arith}
use Rattle.sia_diff.specs.Chosen.{is_chosen}
use Rattle.sia_diff.specs.Diffs.{hashes_at}
use Rattle.sia_diff.proofs.Moves.{at_one, at_not}
use Rattle.sia_diff.proofs.moving.hashes_chosen.Goals as goal
use Rattle.sia_diff.proofs.moving.hashes_chosen.Goals.{then-contains+in_ok-push, else-contains}

pub loop-place-preserved : goal.loop-place-preserved
loop-place-preserved c =
    elim c.if-contains.branch [
      | then-contains+in_ok-push w ↦
          w.inner-is ∙ w.in_ok-push.ensures.ok ∙ ap (λ hashes. hashes ++ get_or c.args.hashes.now c.loop-place.place [] ∷ []) c.loop-place.invariant
          ∙ sym (at_one (is_chosen c.args.chosen.now.old c.args.chosen.now.touched.now) c.args.hashes.now c.loop-place.place (sym c.contains.ensures ∙ w.if-contains.true))
      | else-contains w ↦ w.inner-is ∙ c.loop-place.invariant ∙ sym (at_not (is_chosen c.args.chosen.now.old c.args.chosen.now.touched.now) c.args.hashes.now c.loop-place.place (sym c.contains.ensures ∙ w.if-contains.false))
    ]

pub returns : goal.returns
returns c =
    let end : c.loop-place.place ≡ length c.args.hashes.now = omega (arith, c.loop-place-test.false, c.loop-place.auto.place-end) in
    c.loop-place.invariant ∙ ap (hashes_at (is_chosen c.args.chosen.now.old c.args.chosen.now.touched.now) c.args.hashes.now) end
