use Rattle.std.proofs.Common.{◌≡◌, ◌∙◌, ap, length}
use Rattle.std.specs.List.{filter, range_with_len}
use Rattle.sia_diff.specs.Marks.{is_counted}
use Rattle.sia_diff.specs.DiffSteps.{touched_places}
use Rattle.sia_diff.proofs.Fit.{fit_count, fit_done, if_ok, places_same}
use Rattle.sia_diff.proofs.places.touched_by_fit.Goals as goal

pub touch_counts-requires-clause-count : goal.touch_counts-requires-clause-count
touch_counts-requires-clause-count c = fit_count c.args.n c.args.steps.now c.requires

pub touch_counts-requires-clause-fits : goal.touch_counts-requires-clause-fits
touch_counts-requires-clause-fits c = fit_done c.args.n c.args.steps.now c.requires

pub returns : goal.returns
returns c =
    if_ok (λ places. places ≡ filter (is_counted c.as_slice.result.now) (range_with_len 0 (length c.as_slice.result.now))) (λ places. places ≡ touched_places c.args.n c.args.steps.now) c.places_counted.result
    (λ places is. is ∙ ap (λ counts. filter (is_counted counts) (range_with_len 0 (length counts))) c.as_slice.ensures ∙ places_same c.in_ok-counts.counts c.args.n c.args.steps.now c.in_ok-counts.ensures)
    c.places_counted.ensures
