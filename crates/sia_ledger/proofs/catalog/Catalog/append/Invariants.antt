use Rattle.std.proofs.Common.{◌≡◌, ◌++◌, length}
use Rattle.std.specs.Vec.Iter.{into_iter_items, into_iter_len}
use Rattle.sia_ledger.proofs.catalog.Catalog.append.Given as goal

abbrev pub invariant-loop-fact : goal.invariant-loop-fact
invariant-loop-fact l = record {
  left : l.yielded ++ into_iter_items l.fact-iterator ≡ into_iter_items l.initial.fact-iterator;
  put : l.self ≡ l.fn.self ++ l.yielded;
  count : into_iter_len l.fact-iterator ≡ length (into_iter_items l.fact-iterator);
}
