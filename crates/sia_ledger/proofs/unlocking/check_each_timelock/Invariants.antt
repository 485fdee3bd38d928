use Rattle.std.proofs.Common.{◌≡◌, ◌+◌, drop, map}
use Rattle.sia_encoding.specs.Firsts.{first_at}
use Rattle.sia_ledger.specs.Rules.{locked}
use Rattle.sia_ledger.proofs.unlocking.check_each_timelock.Given as goal

abbrev pub invariant-loop-i : goal.invariant-loop-i
invariant-loop-i g l =
    first_at (locked l.height l.t) l.first (map g.T.Locked.need l.all) ≡ first_at (locked l.height l.t) (l.first + l.i) (map g.T.Locked.need (drop l.i l.all))
