use Rattle.std.proofs.Common.{◌≡◌, ◌+◌, drop, map}
use Rattle.sia_encoding.specs.Firsts.{first_at}
use Rattle.sia_ledger.specs.Known.{state_in}
use Rattle.sia_ledger.specs.Rules.{wrong_conditions}
use Rattle.sia_ledger.proofs.unlocking.check_each_address.Given as goal

abbrev pub invariant-loop-i : goal.invariant-loop-i
invariant-loop-i g l =
    first_at (wrong_conditions (state_in l.draft).facts l.t) l.first (map g.T.Locked.need l.all) ≡ first_at (wrong_conditions (state_in l.draft).facts l.t) (l.first + l.i) (map g.T.Locked.need (drop l.i l.all))
