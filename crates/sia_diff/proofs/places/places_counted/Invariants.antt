use Rattle.std.proofs.Common.{◌≡◌}
use Rattle.std.specs.List.{range_with_len, filter}
use Rattle.sia_diff.specs.Marks.{is_counted}
use Rattle.sia_diff.proofs.places.places_counted.Given as goal

abbrev pub invariant-loop-place : goal.invariant-loop-place
invariant-loop-place l = l.places ≡ filter (is_counted l.counts) (range_with_len 0 l.place)
