use Rattle.std.proofs.Common.{◌≡◌, drop}
use Rattle.sia_encoding.specs.Firsts.{first_at}
use Rattle.sia_ledger.specs.Known.{state_in}
use Rattle.sia_ledger.specs.Rules.{rev_sum}
use Rattle.sia_ledger.proofs.entries.check_new_sums.Given as goal

abbrev pub invariant-loop-i : goal.invariant-loop-i
invariant-loop-i l = first_at (rev_sum (state_in l.draft).facts l.t) 0 l.revisions ≡ first_at (rev_sum (state_in l.draft).facts l.t) l.i (drop l.i l.revisions)
