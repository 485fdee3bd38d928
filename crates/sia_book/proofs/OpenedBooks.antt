-- A book that was opened, or refused, by what its journal and its shelf answered.
use Rattle.std.proofs.Common.{◌≡◌, ◌⊎◌, inl, inr, ℕ, ◌≤◌, List, Bool, true, false, IsTrue, IfOk, IfErr, Result, Ok, Err, Some, length, refl, sym, ap, subst, ◌∙◌, arith}
use Rattle.std.specs.List.{All}
use Rattle.sia_edge.specs.Disk.{Standing, Faulted, IsSettled, Quiet, TimePasses}
use Rattle.sia_edge.specs.declared.file_disk.Disks.{Disks}
use Rattle.sia_config.specs.declared.config.HostConfig.{HostConfig}
use Rattle.sia_journal.specs.declared.journal.Journal.{Journal}
use Rattle.sia_journal.specs.Listed.{listed}
use Rattle.sia_journal.specs.Journal.{HoldsListed}
use Rattle.sia_shelf.specs.Shelf.{ShelfState}
use Rattle.sia_kept.specs.State.{live_slots}
use Rattle.sia_host.specs.Answered.{Host}
use Rattle.sia_book.specs.declared.book.Book.{Book}
use Rattle.sia_book.specs.declared.fault.OpenFault.{OpenFault}
use Rattle.sia_book.specs.declared.fault.OpenFault.TheVariants as open_fault
use Rattle.sia_book.specs.Opening.{BreaksOff, IsLeastMissing, Replayed}
use Rattle.sia_book.specs.Books.{JOURNAL_HEADER, BeginningCause, Breaks, IsOpened, OpeningCause, SameRun, TakesIn, journal_after, shelf_after}
use Rattle.sia_book.proofs.Playing.{still_holds}

module _ {D : Type 0} (standing : D → Standing) (tells : Bool) (accepts : List ℕ → List ℕ → List ℕ → Bool) (config : HostConfig) (first core : Host) (disks : Disks D)
    (journal : Journal D) (shelf : ShelfState D) (renter : D) (is : core ≡ first)
    (listed_so : IsTrue tells → HoldsListed JOURNAL_HEADER config.journal_limit (standing disks.journal) (standing journal.disk))
    (quiet : Quiet (standing disks.shelf) (standing shelf.disk)) where
  pub opened : (result : Result (Book D) (OpenFault × Disks D)) → journal.limit ≡ config.journal_limit → shelf.sector ≡ first.settings.sector → IsSettled (standing shelf.disk)
      → IfOk result (λ book. TakesIn standing tells accepts first.settings.sector config.slots (record { core = core; journal = journal; shelf = shelf; renter = renter }) book)
      → Quiet (standing journal.disk) (standing (journal_after result)) → shelf_after result ≡ shelf.disk
      → IfOk result (λ book. IsOpened standing tells accepts config first disks book)
  opened (Err refused) limit sector settled takes still same = tt
  opened (Ok book) limit sector settled takes still same =
      let S : D → Type 0 = λ d. Quiet (standing disks.shelf) (standing d) in
      let T : D → Type 0 = λ d. IsSettled (standing d) in
      let R : Host → Type 0 = λ h. SameRun h book.core in
      record {
        ready = takes.ready;
        limit = takes.limit ∙ limit;
        sector = takes.size ∙ sector;
        run = subst R is takes.run;
        settled = takes.settled;
        marks = takes.marks;
        whole = takes.whole;
        made = λ told.
            let l = listed_so told in
            let M : Host → Type 0 = λ h. Replayed accepts h l.records book.core in
            record { records = l.records; lists = l.lists; holds = still_holds JOURNAL_HEADER l.records still l.holds; made = subst M is (takes.made told JOURNAL_HEADER l.records l.holds) };
        shelf = subst S (sym same) quiet;
        stable = subst T (sym same) settled;
      }

  caused : (fault : OpenFault) (after : Disks D) → TimePasses (standing disks.journal) (standing journal.disk)
      → BeginningCause standing tells accepts first.settings.sector config.slots core journal shelf after fault
      → OpeningCause tells accepts first config (standing disks.journal) (standing after.journal) (standing disks.shelf) (standing after.shelf) fault
  caused open_fault.Memory after time cause = tt
  caused open_fault.Disk after time cause = inl (omega (arith, time.counted, cause))
  caused (open_fault.Damaged at false) after time cause = λ told.
      let l = listed_so told in
      let B : Result (List (List ℕ)) ℕ → Type 0 = λ r. Breaks accepts first config.journal_limit r at in
      let H : Host → Type 0 = λ h. BreaksOff accepts h l.records at in
      subst B (sym l.lists) (subst H is (cause told JOURNAL_HEADER l.records l.holds))
  caused (open_fault.Damaged at true) after time cause = λ told.
      let l = listed_so told in
      let f = cause told JOURNAL_HEADER l.records l.holds in
      let M : Host → Type 0 = λ h. Replayed accepts h l.records f.0 in
      let E : List ℕ → Type 0 = λ seen. IsLeastMissing first.settings.sector config.slots (length seen) (live_slots f.0.state) (Some f.1.slot) in
      record { records = l.records; lists = l.lists; after = f.0; made = subst M is f.1.made; slot = f.1.slot; least = subst E quiet.same f.1.least; begins = f.1.begins }

  pub refused : (result : Result (Book D) (OpenFault × Disks D)) → TimePasses (standing disks.journal) (standing journal.disk)
      → IfErr result (λ refused. BeginningCause standing tells accepts first.settings.sector config.slots core journal shelf refused.1 refused.0)
      → IfErr result (λ refused. OpeningCause tells accepts first config (standing disks.journal) (standing refused.1.journal) (standing disks.shelf) (standing refused.1.shelf) refused.0)
  refused (Ok book) time cause = tt
  refused (Err both) time cause = caused both.0 both.1 time cause
