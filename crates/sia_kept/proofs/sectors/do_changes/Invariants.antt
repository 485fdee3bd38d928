use Rattle.std.proofs.Common.{◌≡◌, ◌+◌, ◌≤◌, true, map, drop, length, vec_capacity}
use Rattle.sia_records.specs.Stored.{step_of, stored_after}
use Rattle.sia_kept.proofs.Changed.{fit_for, roots}
use Rattle.sia_kept.proofs.sectors.do_changes.Given as goal

abbrev pub invariant-loop-change : goal.invariant-loop-change
invariant-loop-change g l = record {
  rest : stored_after l.stored.items (drop l.change-index l.changes) ≡ stored_after l.fn.stored.items l.changes;
  tree : l.tree.hashes ≡ roots l.stored.items;
  fits : fit_for (length l.stored.items) (map step_of (drop l.change-index l.changes)) ≡ true;
  total : length l.stored.items + l.tree.spare ≡ length l.fn.stored.items + l.fn.tree.spare;
  room : vec_capacity l.fn.stored ≤ vec_capacity l.stored;
  more : length l.stored.items ≤ length l.fn.stored.items + l.change-index;
}
