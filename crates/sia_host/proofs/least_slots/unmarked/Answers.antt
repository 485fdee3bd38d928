use Rattle.std.proofs.Common.{◌∙◌, ◌++◌, ◌∷◌, [], not, sym, ap}
use Rattle.sia_host.specs.Marks.{is_unmarked}
use Rattle.sia_diff.proofs.Counts.{filter_one, filter_not}
use Rattle.sia_host.proofs.least_slots.unmarked.Goals as goal
use Rattle.sia_host.proofs.least_slots.unmarked.Goals.{then-not-marked+in_ok-push, else-not-marked}

pub loop-place-preserved : goal.loop-place-preserved
loop-place-preserved c =
    elim c.if-not-marked.branch [
      | then-not-marked+in_ok-push w ↦
          rw w.places-is (w.in_ok-push.ensures.items ∙ ap (λ xs. xs ++ c.loop-place.place ∷ []) c.loop-place.invariant ∙ sym (filter_one (is_unmarked c.args.marks.now) c.loop-place.place (ap not w.if-not-marked.true)))
      | else-not-marked w ↦
          rw w.places-is (c.loop-place.invariant ∙ sym (filter_not (is_unmarked c.args.marks.now) c.loop-place.place (ap not w.if-not-marked.false)))
    ]
