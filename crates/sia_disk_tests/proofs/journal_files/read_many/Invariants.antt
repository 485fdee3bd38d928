use Rattle.std.proofs.Common.{◌≤◌}
use Rattle.sia_journal.specs.Journal.{IsReady}
use Rattle.sia_disk_tests.proofs.journal_files.read_many.Given as goal

abbrev pub invariant-loop : goal.invariant-loop
invariant-loop g l = record { ready : IsReady g.D.Disk.standing l.journal; place : l.place ≤ l.journal.gate }
