use Rattle.std.proofs.Common.{◌≡◌, drop}
use Rattle.sia_encoding.specs.Firsts.{first_at}
use Rattle.sia_rules.specs.FileContracts.{form_window}
use Rattle.sia_ledger.proofs.entries.check_windows.Given as goal

abbrev pub invariant-loop-i : goal.invariant-loop-i
invariant-loop-i l = first_at (form_window l.height l.t) 0 l.contracts ≡ first_at (form_window l.height l.t) l.i (drop l.i l.contracts)
