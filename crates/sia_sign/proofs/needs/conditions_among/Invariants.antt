use Rattle.std.proofs.Common.{◌≡◌, drop, map}
use Rattle.sia_sign.specs.Needs.{need_of}
use Rattle.sia_sign.proofs.needs.conditions_among.Given as goal

abbrev pub invariant-loop-locked : goal.invariant-loop-locked
invariant-loop-locked g l = need_of l.parent (map g.T.Locked.need l.all) ≡ need_of l.parent (map g.T.Locked.need (drop l.locked-index l.all))
