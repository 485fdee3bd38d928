-- The journal is whole, and holds as many records more as appends were made.
use Rattle.std.proofs.Common.{◌≡◌, ◌+◌, ◌*◌, ◌++◌, ℕ, List, IsTrue, length, replicate}
use Rattle.sia_journal.specs.Journal.{Holds, IsReady}
use Rattle.sia_bench.proofs.records.append_often.Given as goal

abbrev pub invariant-loop : goal.invariant-loop
invariant-loop g l =
    IsReady g.D.Disk.standing l.journal
    × (length (g.D.Disk.standing l.journal.disk).seen ≡ length (g.D.Disk.standing l.fn.journal.disk).seen + l.counter * 209)
    × (IsTrue g.D.Disk.tells → (header : List ℕ) (records : List (List ℕ)) → Holds header records (g.D.Disk.standing l.fn.journal.disk)
    → Holds header (records ++ replicate l.counter l.framed) (g.D.Disk.standing l.journal.disk))
