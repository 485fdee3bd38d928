use Rattle.std.proofs.Common.{◌≤◌, max}
use Rattle.sia_merkle.specs.Segments.{places_between}
use Rattle.sia_diff.specs.Marks.{AreCounted, AreCounts}
use Rattle.sia_diff.proofs.places.count_part.Given as goal

abbrev pub invariant-loop-place : goal.invariant-loop-place
invariant-loop-place l = record {
  more : AreCounted (places_between l.start l.place) l.fn.counts l.counts;
  counts : AreCounts l.counts;
  top : l.place ≤ max l.start l.place-end;
}
