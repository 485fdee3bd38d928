-- So many records were replayed, and the place is that of the next one.
use Rattle.std.proofs.Common.{◌≡◌, ◌≤◌, ◌-◌, ◌++◌, ℕ, List, IsTrue, false, length}
use Rattle.sia_edge.specs.Disk.{Quiet}
use Rattle.sia_journal.specs.Listed.{place_after}
use Rattle.sia_journal.specs.Journal.{Holds, IsReady}
use Rattle.sia_host.specs.Spoiling.{is_spoiled}
use Rattle.sia_book.specs.Opening.{Replayed}
use Rattle.sia_book.specs.Books.{SameRun}
use Rattle.sia_book.proofs.replaying.replay_all.Given as goal

abbrev pub invariant-loop-payload : goal.invariant-loop-payload
invariant-loop-payload g l = record {
  ready : IsReady g.D.Disk.standing l.journal;
  limit : l.journal.limit ≡ l.fn.journal.limit;
  within : l.place ≤ l.journal.gate;
  same : l.at ≡ l.place;
  run : SameRun l.fn.core l.core;
  settled : is_spoiled l.core.phase ≡ false;
  quiet : Quiet (g.D.Disk.standing l.fn.journal.disk) (g.D.Disk.standing l.journal.disk);
  made : IsTrue g.D.Disk.tells → (header : List ℕ) (records : List (List ℕ)) → Holds header records (g.D.Disk.standing l.fn.journal.disk)
      → (read : List (List ℕ)) × (left : List (List ℕ)) × (records ≡ read ++ left) × (l.place ≡ place_after read) × Replayed g.C.SigCheck.verdict l.fn.core read l.core;
}

abbrev pub decreases-loop-payload : goal.decreases-loop-payload
decreases-loop-payload g l = length (g.D.Disk.standing l.fn.journal.disk).seen - l.place
