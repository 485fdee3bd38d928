use Rattle.std.proofs.Common.{◌≡◌, drop}
use Rattle.sia_encoding.specs.Firsts.{first_at}
use Rattle.sia_ledger.specs.Known.{state_in}
use Rattle.sia_ledger.specs.State.{next}
use Rattle.sia_ledger.specs.Rules.{proof_window}
use Rattle.sia_ledger.proofs.proving.check_begun.Given as goal

abbrev pub invariant-loop-i : goal.invariant-loop-i
invariant-loop-i l = first_at (proof_window (next (state_in l.draft)) (state_in l.draft).facts l.t) 0 l.proofs ≡ first_at (proof_window (next (state_in l.draft)) (state_in l.draft).facts l.t) l.i (drop l.i l.proofs)
