use Rattle.std.proofs.Common.{◌≡◌, ◌++◌, true, map, drop, length}
use Rattle.sia_records.specs.Stored.{step_of}
use Rattle.sia_kept.proofs.Changed.{fit_for}
use Rattle.sia_host.specs.Freeing.{freed_in}
use Rattle.sia_host.proofs.freeing.freed_slots.Given as goal

abbrev pub invariant-loop-change : goal.invariant-loop-change
invariant-loop-change l = record {
  rest : l.freed ++ freed_in l.slots.items (drop l.change-index l.changes) ≡ freed_in l.initial.slots.items l.changes;
  fits : fit_for (length l.slots.items) (map step_of (drop l.change-index l.changes)) ≡ true;
}
