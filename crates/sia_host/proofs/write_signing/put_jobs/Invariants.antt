use Rattle.std.proofs.Common.{◌≡◌, ◌≤◌, ◌++◌, length}
use Rattle.std.specs.Vec.Iter.{into_iter_items}
use Rattle.sia_host.specs.Writing.{put_jobs}
use Rattle.sia_host.proofs.write_signing.put_jobs.Given as goal

abbrev pub invariant-loop-bytes : goal.invariant-loop-bytes
invariant-loop-bytes l = record {
  rest : put_jobs l.slots l.fn.sectors ≡ l.jobs ++ put_jobs l.rest (into_iter_items l.bytes-iterator);
  enough : length (into_iter_items l.bytes-iterator) ≤ length l.rest;
}
