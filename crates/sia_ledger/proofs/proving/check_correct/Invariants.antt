use Rattle.std.proofs.Common.{◌≡◌, drop, None}
use Rattle.sia_encoding.specs.Firsts.{first_at}
use Rattle.sia_ledger.specs.Known.{state_in}
use Rattle.sia_ledger.specs.State.{next}
use Rattle.sia_ledger.specs.Rules.{bad_proof, proof_window}
use Rattle.sia_ledger.proofs.proving.check_correct.Given as goal

abbrev pub invariant-loop-i : goal.invariant-loop-i
invariant-loop-i l = record {
  judged : first_at (bad_proof (state_in l.draft) l.t) 0 l.proofs ≡ first_at (bad_proof (state_in l.draft) l.t) l.i (drop l.i l.proofs);
  begun : first_at (proof_window (next (state_in l.draft)) (state_in l.draft).facts l.t) l.i (drop l.i l.proofs) ≡ None;
}
