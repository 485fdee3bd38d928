use Rattle.std.proofs.Common.{◌≡◌, ◌≤◌, take, vec_capacity}
use Rattle.sia_kept.proofs.log.copy_sessions.Given as goal

abbrev pub invariant-loop-i : goal.invariant-loop-i
invariant-loop-i l = record {
  items : l.copies.items ≡ take l.i l.sessions.items;
  capacity : vec_capacity l.fn.copies ≤ vec_capacity l.copies;
}
