use Rattle.std.proofs.Common.{◌∙◌, ◌++◌, ◌∷◌, [], sym, ap}
use Rattle.std.proofs.lemmas.Bool.{lt-ltb, le-ltb}
use Rattle.sia_diff.specs.Marks.{is_counted}
use Rattle.sia_diff.proofs.Counts.{filter_one, filter_not}
use Rattle.sia_diff.proofs.places.places_counted.Goals as goal
use Rattle.sia_diff.proofs.places.places_counted.Goals.{then-count-gt0+in_ok-push, else-count-gt0}

pub loop-place-preserved : goal.loop-place-preserved
loop-place-preserved c =
    elim c.if-count-gt0.branch [
      | then-count-gt0+in_ok-push w ↦
          w.places-is ∙ w.in_ok-push.ensures.ok ∙ ap (λ xs. xs ++ c.loop-place.place ∷ []) c.loop-place.invariant ∙ sym (filter_one (is_counted c.args.counts.now) c.loop-place.place (lt-ltb _ _ w.if-count-gt0.true))
      | else-count-gt0 w ↦
          w.places-is ∙ c.loop-place.invariant ∙ sym (filter_not (is_counted c.args.counts.now) c.loop-place.place (le-ltb _ _ w.if-count-gt0.false))
    ]
