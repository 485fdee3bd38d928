use Rattle.std.proofs.Common.{◌≡◌, drop}
use Rattle.sia_encoding.specs.Firsts.{first_at}
use Rattle.sia_ledger.specs.Known.{state_in}
use Rattle.sia_ledger.specs.Rules.{rev_number}
use Rattle.sia_ledger.proofs.entries.check_numbers.Given as goal

abbrev pub invariant-loop-i : goal.invariant-loop-i
invariant-loop-i l = first_at (rev_number (state_in l.draft).facts l.t) 0 l.revisions ≡ first_at (rev_number (state_in l.draft).facts l.t) l.i (drop l.i l.revisions)
