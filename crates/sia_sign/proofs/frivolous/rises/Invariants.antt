use Rattle.std.proofs.Common.{◌≡◌, drop}
use Rattle.sia_sign.specs.Frivolous.{ascends}
use Rattle.sia_sign.proofs.frivolous.rises.Given as goal

abbrev pub invariant-loop-index : goal.invariant-loop-index
invariant-loop-index l = ascends 0 l.count l.indices ≡ ascends l.least l.count (drop l.index-index l.indices)
