use Rattle.std.proofs.Common.{◌≡◌, ◌+◌, ◌-◌, take, length}
use Rattle.sia_kept.proofs.sectors.trim_tree.Given as goal

abbrev pub invariant-loop : goal.invariant-loop
invariant-loop l = record {
  hashes : l.tree.hashes ≡ take (length l.fn.tree.hashes - l.counter) l.fn.tree.hashes;
  spare : l.tree.spare ≡ l.fn.tree.spare + l.counter;
}
