use Rattle.std.proofs.Common.{◌≡◌, ◌-◌, ◌++◌, drop, count_by}
use Rattle.std.specs.List.{range_with_len}
use Rattle.sia_diff.specs.Chosen.{is_chosen}
use Rattle.sia_diff.specs.Diffs.{spread}
use Rattle.sia_diff.proofs.moving.spread_out.Given as goal

abbrev pub invariant-loop-place : goal.invariant-loop-place
invariant-loop-place l =
    l.hashes.items ++ spread (is_chosen l.chosen.old l.chosen.touched.now) (range_with_len l.place (l.count - l.place)) (drop (count_by (is_chosen l.chosen.old l.chosen.touched.now) (range_with_len 0 l.place)) l.leaves) ≡ spread (is_chosen l.chosen.old l.chosen.touched.now) (range_with_len 0 l.count) l.leaves
