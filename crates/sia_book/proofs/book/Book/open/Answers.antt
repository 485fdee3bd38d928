use Rattle.std.proofs.Common.{sym, subst}
use Rattle.sia_edge.specs.Disk.{Quiet}
use Rattle.sia_edge.proofs.Runs.{passes_on, quiet_run}
use Rattle.sia_book.specs.Books.{first_host}
use Rattle.sia_book.proofs.OpenedBooks.{opened, refused}
use Rattle.sia_book.proofs.book.Book.open.Goals as goal

pub returns-in-Ok-open_journal-clause-opened : goal.returns-in-Ok-open_journal-clause-opened
returns-in-Ok-open_journal-clause-opened g c =
    opened g.D.Disk.standing g.D.Disk.tells g.C.SigCheck.verdict c.args.config (first_host c.args.config c.args.key c.args.seed) c.in-Ok.core c.args.disks
    c.in-Ok-open_journal.journal c.in-Ok-open_shelf.shelf c.args.disks.renter c.in-Ok.ensures c.in-Ok-open_journal.ensures.listed c.in-Ok-open_shelf.ensures.quiet
    c.begin.result c.in-Ok-open_journal.ensures.limit c.in-Ok-open_shelf.ensures.sector c.in-Ok-open_shelf.ensures.settled c.begin.ensures.begun c.begin.ensures.quiet c.begin.ensures.shelf

pub returns-in-Ok-open_journal-clause-cause : goal.returns-in-Ok-open_journal-clause-cause
returns-in-Ok-open_journal-clause-cause g c =
    refused g.D.Disk.standing g.D.Disk.tells g.C.SigCheck.verdict c.args.config (first_host c.args.config c.args.key c.args.seed) c.in-Ok.core c.args.disks
    c.in-Ok-open_journal.journal c.in-Ok-open_shelf.shelf c.args.disks.renter c.in-Ok.ensures c.in-Ok-open_journal.ensures.listed c.in-Ok-open_shelf.ensures.quiet
    c.begin.result c.in-Ok-open_journal.ensures.time c.begin.ensures.cause

pub returns-in-Ok-open_journal-clause-time : goal.returns-in-Ok-open_journal-clause-time
returns-in-Ok-open_journal-clause-time g c = passes_on c.in-Ok-open_journal.ensures.time c.begin.ensures.quiet.leaves.time

pub returns-in-Ok-open_journal-clause-crash : goal.returns-in-Ok-open_journal-clause-crash
returns-in-Ok-open_journal-clause-crash g c = λ told records payload each. quiet_run (c.in-Ok-open_journal.ensures.crash told records payload each) c.begin.ensures.quiet

pub returns-in-Ok-open_journal-clause-none : goal.returns-in-Ok-open_journal-clause-none
returns-in-Ok-open_journal-clause-none g c = λ told each. quiet_run (c.in-Ok-open_journal.ensures.few told each) c.begin.ensures.quiet

pub returns-in-Ok-open_journal-clause-shelf : goal.returns-in-Ok-open_journal-clause-shelf
returns-in-Ok-open_journal-clause-shelf g c =
    let S : g.row.D.Denot → Type 0 = λ d. Quiet (g.D.Disk.standing c.args.disks.shelf) (g.D.Disk.standing d) in
    subst S (sym c.begin.ensures.shelf) c.in-Ok-open_shelf.ensures.quiet
