-- The journal is whole, and so many records of those that it holds were read.
use Rattle.std.proofs.Common.{◌≡◌, ◌≤◌, ◌++◌, ℕ, List, IsTrue, length}
use Rattle.sia_journal.specs.Listed.{place_after}
use Rattle.sia_journal.specs.Journal.{Holds, IsReady}
use Rattle.sia_bench.proofs.records.count_records.Given as goal

abbrev pub invariant-loop-count : goal.invariant-loop-count
invariant-loop-count g l =
    IsReady g.D.Disk.standing l.journal × (l.place ≤ l.journal.gate) × (IsTrue g.D.Disk.tells → (header : List ℕ) (records : List (List ℕ))
    → Holds header records (g.D.Disk.standing l.fn.journal.disk)
    → (read : List (List ℕ)) × (left : List (List ℕ)) × (records ≡ read ++ left) × (length read ≡ l.count) × (l.place ≡ place_after read)
    × Holds header records (g.D.Disk.standing l.journal.disk))
