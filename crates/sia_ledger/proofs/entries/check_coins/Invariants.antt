use Rattle.std.proofs.Common.{◌≡◌, drop}
use Rattle.sia_encoding.specs.Firsts.{first_at}
use Rattle.sia_ledger.specs.Known.{state_in}
use Rattle.sia_ledger.specs.Rules.{no_coin}
use Rattle.sia_ledger.proofs.entries.check_coins.Given as goal

abbrev pub invariant-loop-i : goal.invariant-loop-i
invariant-loop-i l = first_at (no_coin (state_in l.draft).facts l.t) 0 l.inputs ≡ first_at (no_coin (state_in l.draft).facts l.t) l.i (drop l.i l.inputs)
