use Rattle.std.proofs.Common.{◌≡◌}
use Rattle.std.specs.List.{filter, range_with_len}
use Rattle.sia_host.specs.Marks.{is_unmarked}
use Rattle.sia_host.proofs.least_slots.unmarked.Given as goal

abbrev pub invariant-loop-place : goal.invariant-loop-place
invariant-loop-place l = l.places.items ≡ filter (is_unmarked l.marks) (range_with_len 0 l.place)
