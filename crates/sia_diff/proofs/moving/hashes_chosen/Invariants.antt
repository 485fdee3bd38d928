use Rattle.std.proofs.Common.{◌≡◌}
use Rattle.sia_diff.specs.Chosen.{is_chosen}
use Rattle.sia_diff.specs.Diffs.{hashes_at}
use Rattle.sia_diff.proofs.moving.hashes_chosen.Given as goal

abbrev pub invariant-loop-place : goal.invariant-loop-place
invariant-loop-place l = l.inner ≡ hashes_at (is_chosen l.chosen.old l.chosen.touched.now) l.hashes l.place
